-- Why a project gives no setting: its early files, or where packages are to be kept.
use Rattle.std.specs.Prelude.{ℕ, List}
use Rattle.vk_spec.specs.Paths.{Path}

pub data Early : Type 0 where
  -- a file, a place in it, and the word for what is wrong there
  bad_file : Path → List ℕ → List ℕ → Early
  -- configurations in two of the places where one can stand
  two_configurations : Early
  -- a triplet that no folder has
  no_triplet : List ℕ → Early
  -- two folders of which one begins the other, and mustn't
  overlap : Path → Path → Early
  -- a file where a folder has to be
  blocked : Path → Early
