-- What single steps of reading a manifest say.
use Rattle.std.specs.Prelude.{ℕ, Bool, List, Option, Ok, codes}
use Rattle.vk_spec.specs.Reading.{◌>>=◌}
use Rattle.vk_spec.specs.Versions.{Version}
use Rattle.vk_spec.specs.Manifests.{Manifest}
use Rattle.vk_spec.specs.Conditions.{Condition}
use Rattle.vk_json.specs.Readings.{Reading}
use Rattle.vk_manifest.specs.Manifests.{supports_in, dependencies_in, uses_under, features_in}
use Rattle.vk_manifest.specs.Manifests.{overrides_if}

-- the manifest of this name and this version, and what is said besides
abbrev pub manifest_with : Option (List ℕ) → Option Version → Bool → Reading (Manifest Condition)
manifest_with name version root d = do
  supports ← supports_in d
  dependencies ← dependencies_in d
  defaults ← uses_under (codes "default-features") d
  features ← features_in d
  overrides ← overrides_if root d
  Ok (record {
    name = name;
    version = version;
    supports = supports;
    dependencies = dependencies;
    default_features = defaults;
    features = features;
    overrides = overrides;
  })
