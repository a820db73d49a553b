-- Which paths were looked at: they are among those of a list.
use Rattle.std.specs.Prelude.{◌≡◌, ◌++◌, Bool, List, [], ◌∷◌, Result, Ok, Err, if◌then◌else◌}
use Rattle.vk_spec.specs.Lists.{IsWithin}
use Rattle.vk_spec.specs.Paths.{Path}
use Rattle.vk_files.specs.Kept.{Kept, paths_of}

-- each path that was looked at since is one of these
pub record LooksWithin (paths : List Path) (before after : Kept) : Type 0 where
  pub more : Kept
  pub kept : after ≡ before ++ more
  pub within : IsWithin (paths_of more) paths

-- the paths that are asked for after something was read, and none where it has a fault
abbrev pub paths_after : {A P : Type 0} → Result A P → (A → List Path) → List Path
paths_after (Ok x) next = next x
paths_after (Err fault) next = []

-- the elements of a list up to the first that passes a test, and with it
abbrev pub up_to_first : {A : Type 0} → (A → Bool) → List A → List A
up_to_first test [] = []
up_to_first test (x ∷ xs) = x ∷ (if test x then [] else up_to_first test xs)
