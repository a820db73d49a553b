-- What every manifest that reads has.
use Rattle.std.specs.Prelude.{◌≡◌, ℕ, List, [], map, IfSome, IsSome}
use Rattle.std.specs.List.{All}
use Rattle.vk_spec.specs.Lists.{NoRepeats}
use Rattle.vk_spec.specs.Manifests.{FeatureUse, Dependency, Feature, Override, Manifest}
use Rattle.vk_base.specs.Names.{IsName, IsFeatureName, port_rule}
use Rattle.vk_spec.specs.Conditions.{Condition}
use Rattle.vk_json.specs.KeyOrders.{Ascend}
use Rattle.vk_manifest.specs.Manifests.{names_of}

-- what a list names is a feature's name
abbrev pub IsNamedUse : FeatureUse Condition → Type 0
IsNamedUse feature_use = IsFeatureName feature_use.name

abbrev pub IsNamedOverride : Override → Type 0
IsNamedOverride o = IsName port_rule o.name

-- the port and the features that are wanted have names
pub record IsNamedDependency (d : Dependency Condition) : Type 0 where
  pub port : IsName port_rule d.name
  pub uses : All IsNamedUse d.features

pub record IsNamedFeature (f : Feature Condition) : Type 0 where
  pub word : IsFeatureName f.name
  pub wants : All IsNamedDependency f.dependencies

abbrev pub feature_names : List (Feature Condition) → List (List ℕ)
feature_names features = map (λ f. f.name) features

-- each name keeps its rule, features ascend by name, and no port is overridden twice
pub record IsNamed (m : Manifest Condition) : Type 0 where
  pub own : IfSome m.name (IsName port_rule)
  pub wants : All IsNamedDependency m.dependencies
  pub defaults : All IsNamedUse m.default_features
  pub offers : All IsNamedFeature m.features
  pub order : Ascend (feature_names m.features)
  pub sets : All IsNamedOverride m.overrides
  pub once : NoRepeats (names_of m.overrides)

-- a port has a name and a version, and no overrides
pub record IsPort (m : Manifest Condition) : Type 0 where
  pub named : IsSome m.name
  pub versioned : IsSome m.version
  pub sets_none : m.overrides ≡ []
