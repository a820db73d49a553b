-- What the hash of a path is made of.
use Rattle.std.specs.Prelude.{◌++◌}
use Rattle.std.specs.Hash as fed
use Rattle.std.specs.List.{join_with_byte}
use Rattle.vk_spec.specs.Paths.{Path}
use Rattle.vk_base.specs.Paths.{is_rooted, ups_of, parts_of}

-- whether it is rooted, its steps up, and its parts with `/` between
abbrev pub path_fed : Path → fed.HashWrites
path_fed key = fed.bool (is_rooted key) ++ fed.u32 (ups_of key) ++ fed.str (join_with_byte 47 (parts_of key))
