-- Which paths and places stand in a report.
use Rattle.std.specs.Prelude.{◌≡◌, ◌≤◌, ℕ, List, [], ◌∷◌, length}
use Rattle.vk_base.specs.Paths.{IsPath, text_of_path}
use Rattle.vk_spec.specs.Paths.{Path}
use Rattle.vk_forms.specs.Texts.{IsText}

-- a path whose text has at most 4,096 bytes
pub record IsShortPath (p : Path) : Type 0 where
  pub path : IsPath p
  pub short : length (text_of_path p) ≤ 4096

pub record IsRightPath (p : Path) : Type 0 where
  pub is_short : IsShortPath p
  pub is_text : IsText (text_of_path p)

-- all of a file, or a text that begins with `/`
abbrev pub IsPlace : List ℕ → Type 0
IsPlace [] = Unit {0}
IsPlace (b ∷ place) = (b ≡ 47) × IsText (b ∷ place)
