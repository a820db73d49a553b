-- What a folder of the host is listed as.
use Rattle.std.specs.Prelude.{◌≤◌, List, IsTrue, length}
use Rattle.std.specs.List.{All}
use Rattle.vk_spec.specs.Calls.{most_entries}
use Rattle.vk_base.specs.Paths.{is_part}
use Rattle.vk_tree.specs.declared.trees.Listed.{Listed}

-- its name may be a part of a path
abbrev pub IsPart : Listed → Type 0
IsPart entry = IsTrue (is_part entry.name)

abbrev pub AreParts : List Listed → Type 0
AreParts entries = All IsPart entries

-- no more entries than may be
pub record IsListing (entries : List Listed) : Type 0 where
  pub few : length entries ≤ most_entries
  pub parts : AreParts entries
