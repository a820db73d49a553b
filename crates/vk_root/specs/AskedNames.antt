-- What contracts see of the features that are asked of the root.
use Rattle.std.specs.Prelude.{◌≡◌, ◌&&◌, ◌⊎◌, ℕ, Bool, List, [], ◌∷◌, ◌++◌, map, flat_map, if◌then◌else◌, take, bytes_eq}
use Rattle.std.specs.List.{Contains}
use Rattle.vk_spec.specs.Conditions.{Condition, holds}
use Rattle.vk_spec.specs.Lists.{NoRepeats, IsWithin}
use Rattle.vk_spec.specs.Manifests.{Dependency}
use Rattle.vk_spec.specs.Settings.{Setting}
use Rattle.vk_resolution.specs.Least.{Rules, IsClosed}
use Rattle.vk_resolution.specs.Settings.{Marks, names_of}
use Rattle.vk_base.specs.FeatureViews.{feature_view}
use Rattle.vk_base.specs.declared.features.FeatureName.{FeatureName}
use Rattle.vk_expr.specs.Views.{condition_of}
use Rattle.vk_model.specs.Views.{use_view, dependency_view}
use Rattle.vk_model.specs.declared.manifests.FeatureUse as code_use
use Rattle.vk_model.specs.declared.manifests.Dependency as code_dependency
use Rattle.vk_root.specs.Roots.{is_on_root}

abbrev pub names_view : List FeatureName → List (List ℕ)
names_view = map feature_view

-- a name, where its condition holds
abbrev pub name_where : Marks → code_use.FeatureUse → List (List ℕ)
name_where marks u = if holds (condition_of u.platform) marks then feature_view u.name ∷ [] else []

-- whether a dependency of the root applies, and is on the root itself
abbrev pub asks_itself : Setting → Marks → Dependency Condition → Bool
asks_itself s marks d = holds d.platform marks && is_on_root s d

-- what it then asks of the root
abbrev pub names_where : Setting → Marks → code_dependency.Dependency → List (List ℕ)
names_where s marks d = if asks_itself s marks (dependency_view d) then names_of marks (map use_view d.features) else []

-- what the dependencies of the root ask of the root
abbrev pub names_each : Setting → Marks → List code_dependency.Dependency → List (List ℕ)
names_each s marks ds = flat_map (names_where s marks) ds

-- whether two names are one
abbrev pub is_same_name : FeatureName → FeatureName → Bool
is_same_name f g = bytes_eq (feature_view f) (feature_view g)

-- names were put behind those that were there, each that is new once
pub record Grows (old new : List FeatureName) (names : List (List ℕ)) : Type 0 where
  pub more : List FeatureName
  pub kept : new ≡ old ++ more
  pub sound : (x : List ℕ) → Contains (names_view new) x → Contains (names_view old) x ⊎ Contains names x
  pub complete : IsWithin names (names_view new)
  pub distinct : NoRepeats (names_view old) → NoRepeats (names_view new)

-- what follows from the first n of these is among them, and they are in every closed list
pub record IsAskedSoFar (rules : Rules (List ℕ)) (n : ℕ) (names : List FeatureName) : Type 0 where
  pub roots : IsWithin rules.roots (names_view names)
  pub steps : (f : List ℕ) → Contains (names_view (take n names)) f → IsWithin (rules.alone f) (names_view names)
  pub distinct : NoRepeats (names_view names)
  pub within : (other : List (List ℕ)) → IsClosed rules other → IsWithin (names_view names) other
