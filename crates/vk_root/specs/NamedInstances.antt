-- What contracts see of the instances that a root names.
use Rattle.std.specs.Prelude.{◌≡◌, ◌↔◌, ◌&&◌, ◌||◌, not, ℕ, Bool, List, [], ◌∷◌, map, filter, flat_map, if◌then◌else◌}
use Rattle.vk_spec.specs.Conditions.{Condition, holds}
use Rattle.vk_spec.specs.Manifests.{Dependency}
use Rattle.vk_spec.specs.Settings.{Setting}
use Rattle.vk_spec.specs.Settings as plain
use Rattle.vk_resolution.specs.Settings.{Marks, root, applicable_of}
use Rattle.vk_base.specs.declared.instances.Instance.{Instance}
use Rattle.vk_model.specs.SettingViews.{instance_view}
use Rattle.vk_model.specs.Views.{dependency_view}
use Rattle.vk_model.specs.declared.manifests.Dependency as code
use Rattle.vk_resolution.specs.Keys.{Ascends}
use Rattle.vk_resolution.specs.Planning.{instance_key}
use Rattle.std.specs.List.{Contains}
use Rattle.vk_root.specs.Offs.{has_instance}
use Rattle.vk_root.specs.Roots.{at_root, is_on_root}

abbrev pub instances_view : List Instance → List plain.Instance
instances_view = map instance_view

-- each dependency counts, or only those that want default features
abbrev pub counts : Bool → Dependency Condition → Bool
counts only d = not only || d.defaults

-- whether a dependency of the root applies, is on another instance, and counts
abbrev pub is_counted : Setting → Marks → Bool → Dependency Condition → Bool
is_counted s marks only d = (holds d.platform marks && not (is_on_root s d)) && counts only d

-- the instance that it then names
abbrev pub named_where : Setting → Marks → Bool → code.Dependency → List plain.Instance
named_where s marks only d = if is_counted s marks only (dependency_view d) then at_root s (dependency_view d) ∷ [] else []

abbrev pub named_each : Setting → Marks → Bool → List code.Dependency → List plain.Instance
named_each s marks only ds = flat_map (named_where s marks only) ds

-- the instances that a feature of the root names
abbrev pub named_in : Setting → Bool → List ℕ → List plain.Instance
named_in s only f = map (at_root s) (filter (counts only) (filter (λ d. not (is_on_root s d)) (applicable_of s (root s.target.name) f s.root)))

-- the instances that features of the root name
abbrev pub named_of : Setting → Bool → List (List ℕ) → List plain.Instance
named_of s only features = flat_map (named_in s only) features

-- those of the named instances that aren't among the keys, in order, each once
pub record IsOthers (keys : List Instance) (names : List plain.Instance) (others : List Instance) : Type 0 where
  pub named : List Instance
  pub all : instances_view named ≡ names
  pub order : Ascends instance_key (instances_view others)
  pub each : (i : Instance) → Contains others i ↔ Contains (filter (λ k. not (has_instance keys k)) named) i
