-- What contracts see of a manifest: plain data, its conditions as trees.
use Rattle.std.specs.Prelude.{map, option_map}
use Rattle.vk_spec.specs.Manifests as plain
use Rattle.vk_base.specs.FeatureViews.{feature_view}
use Rattle.vk_version.specs.AskViews.{ask_view}
use Rattle.vk_spec.specs.Conditions.{Condition}
use Rattle.vk_expr.specs.Views.{condition_of}
use Rattle.vk_model.specs.declared.manifests.FeatureUse.{FeatureUse}
use Rattle.vk_model.specs.declared.manifests.Dependency.{Dependency}
use Rattle.vk_model.specs.declared.manifests.Feature.{Feature}
use Rattle.vk_model.specs.declared.manifests.Override.{Override}
use Rattle.vk_model.specs.declared.manifests.Manifest.{Manifest}

abbrev pub use_view : FeatureUse → plain.FeatureUse Condition
use_view u = record { name = feature_view u.name; platform = condition_of u.platform }

abbrev pub dependency_view : Dependency → plain.Dependency Condition
dependency_view d = record {
  name = d.name;
  defaults = d.defaults;
  features = map use_view d.features;
  host = d.host;
  platform = condition_of d.platform;
  minimum = option_map ask_view d.minimum;
}

abbrev pub port_feature_view : Feature → plain.Feature Condition
port_feature_view f = record {
  name = feature_view f.name;
  dependencies = map dependency_view f.dependencies;
  supports = condition_of f.supports;
}

abbrev pub override_view : Override → plain.Override
override_view o = record { name = o.name; ask = ask_view o.ask }

abbrev pub manifest_view : Manifest → plain.Manifest Condition
manifest_view m = record {
  name = m.name;
  version = m.version;
  supports = condition_of m.supports;
  dependencies = map dependency_view m.dependencies;
  default_features = map use_view m.default_features;
  features = map port_feature_view m.features;
  overrides = map override_view m.overrides;
}
