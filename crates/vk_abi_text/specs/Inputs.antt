-- All that goes into the build of one package.
use Rattle.std.specs.Prelude.{ℕ, Bool, List}
use Rattle.vk_spec.specs.Paths.{Path}
use Rattle.vk_spec.specs.Settings.{Instance}
use Rattle.vk_spec.specs.Versions.{Version}
use Rattle.vk_model.specs.declared.builders.Builder.{Builder}

-- a file below the port's folder, by its path from there, and the digest of its bytes
pub record FileDigest : Type 0 where
  pub path : Path
  pub digest : List ℕ

-- what is depended on directly, and the digest of its own ABI text
pub record DepDigest : Type 0 where
  pub instance : Instance
  pub digest : List ℕ

-- who builds what from which files, for which triplet, on top of what
pub record Input : Type 0 where
  pub builder : Builder
  pub port : List ℕ
  pub version : Version
  pub features : List (List ℕ)
  pub triplet : List ℕ
  pub triplet_digest : List ℕ
  pub native : Bool
  pub files : List FileDigest
  pub deps : List DepDigest
