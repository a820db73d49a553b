-- What a plan is made under.
use Rattle.std.specs.Prelude.{◌++◌, ℕ, Bool, List, [], ◌∷◌, codes}
use Rattle.vk_spec.specs.Conditions.{Condition}
use Rattle.vk_spec.specs.Manifests.{Manifest}

-- a port for a triplet, which is the target or the host
pub record Instance : Type 0 where
  pub port : List ℕ
  pub triplet : List ℕ

-- a triplet: its name, its file's bytes, and the marks that hold for its instances, but for `native`
pub record Triplet : Type 0 where
  pub name : List ℕ
  pub bytes : List ℕ
  pub marks : List (List ℕ)

-- the marks, and `native`, which holds besides where a triplet is the host's
abbrev pub with_native : List (List ℕ) → List (List ℕ)
with_native marks = marks ++ codes "native" ∷ []

-- the root manifest, the two triplets, the features that the words ask of the root, whether its default ones are wanted, the instances whose default features are off, and how many requirements there may be
pub record Setting : Type 0 where
  pub root : Manifest Condition
  pub target : Triplet
  pub host : Triplet
  pub features : List (List ℕ)
  pub defaults : Bool
  pub off : List Instance
  pub max_facts : ℕ
