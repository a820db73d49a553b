-- The paths that files of packages have.
use Rattle.std.specs.Prelude.{◌==◌, ◌&&◌, ℕ, Bool, not, nat_le, List, length, Result, Ok, Err}
use Rattle.std.specs.Prelude.{if◌then◌else◌}
use Rattle.vk_spec.specs.Paths.{Path}
use Rattle.vk_spec.specs.Reading.{◌>>=◌}
use Rattle.vk_base.specs.Paths.{is_rooted, ups_of, parts_of, IsPath}
use Rattle.vk_entry.specs.Packages.{IsPackagePath}
use Rattle.vk_base.specs.PathReading.{path_of}
use Rattle.vk_json.specs.declared.faults.FileFault.{FileFault}
use Rattle.vk_json.specs.declared.faults.Why.TheVariants as why
use Rattle.vk_json.specs.Places.{here}
use Rattle.vk_json.specs.Readings.{Reading, text_at}
use Rattle.vk_fields.specs.Saying.{said_here}
use Rattle.vk_fields.specs.Wording.{path_word}

-- not rooted, without steps up, and with 1 to 60 parts
abbrev pub is_package_path : Path → Bool
is_package_path path = not (is_rooted path) && (ups_of path == 0)
    && nat_le 1 (length (parts_of path)) && nat_le (length (parts_of path)) 60

-- what every path of a package that was read is
pub record IsDestination (to : Path) : Type 0 where
  pub path : IsPath to
  pub fits : IsPackagePath to

-- the path, which has to be one of these
abbrev pub unless_outside : Path → Result Path FileFault
unless_outside path = if is_package_path path then Ok path else Err (here why.Path)

unfoldable pub package_path_of : List ℕ → Result Path FileFault
package_path_of text = said_here path_word (path_of text) >>= unless_outside

abbrev pub package_path_at : Reading Path
package_path_at d = text_at d >>= package_path_of
