-- The folder of a port, which a versions file names from its registry on.
use Rattle.std.specs.Prelude.{◌≡◌, ◌==◌, ◌&&◌, false, not, ℕ, List, Result, Ok, Err, codes}
use Rattle.std.specs.Prelude.{if◌then◌else◌}
use Rattle.vk_spec.specs.Reading.{◌>>=◌, or_fault}
use Rattle.vk_spec.specs.Paths.{Path}
use Rattle.vk_base.specs.Paths.{is_rooted, ups_of}
use Rattle.vk_base.specs.PathReading.{path_of}
use Rattle.vk_json.specs.declared.faults.Why.TheVariants as why
use Rattle.vk_json.specs.declared.faults.FileFault.{FileFault}
use Rattle.vk_json.specs.Places.{here}
use Rattle.vk_json.specs.Readings.{Reading, text_at}
use Rattle.vk_fields.specs.Saying.{said_here}
use Rattle.vk_fields.specs.Wording.{path_word}
use Rattle.vk_spec.specs.Fronts.{after}

-- a path that isn't rooted and has no steps up, so that it stays below where it begins
pub record IsBelow (path : Path) : Type 0 where
  pub unrooted : is_rooted path ≡ false
  pub level : ups_of path ≡ 0

-- the path, which has to be one of these
abbrev pub unless_above : Path → Result Path FileFault
unless_above path = if not (is_rooted path)
    && (ups_of path == 0) then Ok path else Err (here why.Path)

-- what stands after `$/`, which stands for the registry
unfoldable pub folder_of : List ℕ → Result Path FileFault
folder_of text = do
  rest ← or_fault (here why.Path) (after (codes "$/") text)
  path ← said_here path_word (path_of rest)
  unless_above path

-- a folder as a text
abbrev pub folder_at : Reading Path
folder_at d = text_at d >>= folder_of
