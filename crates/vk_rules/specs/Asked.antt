-- What contracts see of facts in the making: what a dependency adds to them.
use Rattle.std.specs.Prelude.{Bool, List, [], ◌∷◌, ◌++◌, map, filter, flat_map, if◌then◌else◌, Option}
use Rattle.vk_spec.specs.Conditions.{Condition, holds}
use Rattle.vk_spec.specs.Manifests.{Dependency, FeatureUse, core, default}
use Rattle.vk_spec.specs.Settings.{Setting}
use Rattle.vk_spec.specs.Versions.{Ask}
use Rattle.vk_resolution.specs.Settings.{Marks, Who, root, inst, marks_of, triplet_of, names_of}
use Rattle.vk_resolution.specs.Asking as plain
use Rattle.vk_resolution.specs.Asking.{asked_by, floor_of}
use Rattle.vk_expr.specs.Views.{condition_of}
use Rattle.vk_base.specs.FeatureViews.{feature_view}
use Rattle.vk_model.specs.Views.{dependency_view}
use Rattle.vk_model.specs.FactViews.{fact_view}
use Rattle.vk_model.specs.declared.facts.Fact.{Fact}
use Rattle.vk_model.specs.declared.manifests.FeatureUse as code_use
use Rattle.vk_model.specs.declared.manifests.Dependency as code_dependency

abbrev pub facts_view : List Fact → List plain.Fact
facts_view = map fact_view

-- a need, where the condition holds
abbrev pub use_need : Who → Marks → code_use.FeatureUse → List plain.Fact
use_need who marks u = if holds (condition_of u.platform) marks then plain.need who (feature_view u.name) ∷ [] else []

-- the needs of the features that a list names, where they apply
abbrev pub needs_of : Who → Marks → List (FeatureUse Condition) → List plain.Fact
needs_of who marks uses = map (plain.need who) (names_of marks uses)

-- `default` of an instance, unless it is off
abbrev pub default_need : Who → Bool → List plain.Fact
default_need who off = if off then [] else plain.need who default ∷ []

-- the floor of a minimum on one's own port, but for the root
abbrev pub own_floor : Who → Option Ask → List plain.Fact
own_floor (root triplet) minimum = []
own_floor (inst i) minimum = floor_of i.port minimum

-- what a dependency asks of another instance, where whether that is off is known
abbrev pub other_asked : Who → Bool → Marks → Dependency Condition → List plain.Fact
other_asked j off marks d = plain.need j core ∷ default_need j off ++ needs_of j marks d.features ++ floor_of d.name d.minimum

-- what a dependency asks for, where it applies
abbrev pub asked_where : Setting → Who → code_dependency.Dependency → List plain.Fact
asked_where s who d = if holds (condition_of d.platform) (marks_of s (triplet_of who)) then asked_by s who (dependency_view d) else []

-- what the applicable ones of these dependencies ask for
abbrev pub asked_each : Setting → Who → List (Dependency Condition) → List plain.Fact
asked_each s who ds = flat_map (asked_by s who) (filter (λ d. holds d.platform (marks_of s (triplet_of who))) ds)
