-- A manifest as plain data, over any kind of condition.
use Rattle.std.specs.Prelude.{ℕ, Bool, List, Option, codes}
use Rattle.vk_spec.specs.Versions.{Version, Ask}

-- the feature that every port has
abbrev pub core : List ℕ
core = codes "core"

-- and the one that asks for its default features
abbrev pub default : List ℕ
default = codes "default"

-- a feature that a list names, where its condition holds; `core` and `default` are names like others
pub record FeatureUse (Condition : Type 0) : Type 0 where
  pub name : List ℕ
  pub platform : Condition

pub record Dependency (Condition : Type 0) : Type 0 where
  pub name : List ℕ
  -- whether default features are wanted
  pub defaults : Bool
  pub features : List (FeatureUse Condition)
  -- for the host triplet, and not for that of the instance that depends
  pub host : Bool
  pub platform : Condition
  pub minimum : Option Ask

pub record Feature (Condition : Type 0) : Type 0 where
  pub name : List ℕ
  pub dependencies : List (Dependency Condition)
  pub supports : Condition

pub record Override : Type 0 where
  pub name : List ℕ
  pub ask : Ask

-- a root may lack name and version; only a root has overrides
pub record Manifest (Condition : Type 0) : Type 0 where
  pub name : Option (List ℕ)
  pub version : Option Version
  pub supports : Condition
  pub dependencies : List (Dependency Condition)
  pub default_features : List (FeatureUse Condition)
  pub features : List (Feature Condition)
  pub overrides : List Override
