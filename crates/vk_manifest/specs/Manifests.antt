-- What the document of a manifest means, in the order in which it is read.
use Rattle.std.specs.Prelude.{ℕ, Bool, true, false, List, [], Option, Some, None, map}
use Rattle.std.specs.Prelude.{Result, Ok, Err, codes, if◌then◌else◌}
use Rattle.std.specs.List.{list_any}
use Rattle.std.specs.Str.{bytes_eq}
use Rattle.vk_spec.specs.Reading.{◌>>=◌}
use Rattle.vk_spec.specs.Versions.{Version, Ask}
use Rattle.vk_spec.specs.Manifests.{FeatureUse, Dependency, Feature, Override, Manifest}
use Rattle.vk_base.specs.Names.{reads_feature}
use Rattle.vk_spec.specs.Conditions.{Condition, always}
use Rattle.vk_json.specs.Documents.{json_of}
use Rattle.vk_json.specs.declared.faults.FileFault.{FileFault}
use Rattle.vk_json.specs.declared.faults.Why.TheVariants as why
use Rattle.vk_json.specs.NewItems.{each_new_item}
use Rattle.vk_json.specs.Places.{at_member}
use Rattle.vk_json.specs.Readings.{Reading, MemberReading, bool_at, object_at}
use Rattle.vk_json.specs.Readings.{wanted, optional, optional_or, text_or_object, each_item}
use Rattle.vk_json.specs.Readings.{each_member}
use Rattle.vk_fields.specs.Wording.{name_word}
use Rattle.vk_fields.specs.Saying.{said_here}
use Rattle.vk_fields.specs.Texts.{port_name_at, feature_name_at, expression_at, ask_at}
use Rattle.vk_fields.specs.Versions.{key_of, scheme_needed, version_at, version_needed_at}
use Rattle.vk_fields.specs.Versions.{written_ask_under}

-- a condition under a key; where it is missing, it always holds
abbrev pub condition_under : List ℕ → Reading Condition
condition_under = optional_or always expression_at

-- a feature that a list names: its name alone
unfoldable pub use_of_text : Reading (FeatureUse Condition)
use_of_text d = feature_name_at d >>= λ name. Ok (record { name = name; platform = always })

-- or with a condition
unfoldable pub use_of_object : Reading (FeatureUse Condition)
use_of_object d = do
  name ← wanted feature_name_at (codes "name") d
  platform ← condition_under (codes "platform") d
  Ok (record { name = name; platform = platform })

abbrev pub use_at : Reading (FeatureUse Condition)
use_at = text_or_object use_of_text use_of_object

-- features under a key; where it is missing, there are none
abbrev pub uses_under : List ℕ → Reading (List (FeatureUse Condition))
uses_under = optional_or [] (each_item use_at)

-- a port's name alone: the port with its default features, everywhere
abbrev pub plainly : List ℕ → Dependency Condition
plainly name = record {
  name = name;
  defaults = true;
  features = [];
  host = false;
  platform = always;
  minimum = None;
}

unfoldable pub dependency_of_text : Reading (Dependency Condition)
dependency_of_text d = port_name_at d >>= λ name. Ok (plainly name)

-- the port of this name, and what an object says besides
unfoldable pub dependency_with : List ℕ → Reading (Dependency Condition)
dependency_with name d = do
  defaults ← optional_or true bool_at (codes "default-features") d
  features ← uses_under (codes "features") d
  host ← optional_or false bool_at (codes "host") d
  platform ← condition_under (codes "platform") d
  minimum ← optional ask_at (codes "version>=") d
  Ok (record {
    name = name;
    defaults = defaults;
    features = features;
    host = host;
    platform = platform;
    minimum = minimum;
  })

unfoldable pub dependency_of_object : Reading (Dependency Condition)
dependency_of_object d = do
  name ← wanted port_name_at (codes "name") d
  dependency_with name d

abbrev pub dependency_at : Reading (Dependency Condition)
dependency_at = text_or_object dependency_of_text dependency_of_object

-- dependencies under their key; where it is missing, there are none
abbrev pub dependencies_in : Reading (List (Dependency Condition))
dependencies_in = optional_or [] (each_item dependency_at) (codes "dependencies")

-- where a port or a feature can be built
abbrev pub supports_in : Reading Condition
supports_in = condition_under (codes "supports")

-- a feature of the manifest: its key is its name
unfoldable pub feature_at : MemberReading (Feature Condition)
feature_at key d = do
  name ← said_here name_word (reads_feature key)
  object ← object_at d
  dependencies ← dependencies_in d
  supports ← supports_in d
  Ok (record { name = name; dependencies = dependencies; supports = supports })

abbrev pub features_in : Reading (List (Feature Condition))
features_in = optional_or [] (each_member feature_at) (codes "features")

-- a name that is none of these
abbrev pub new_name : List (List ℕ) → List ℕ → Result (Unit {0}) FileFault
new_name names name =
    if list_any (bytes_eq name) names then Err (at_member (codes "name") why.Twice) else Ok tt

-- the name of an override that is none of these
unfoldable pub new_name_at : List (List ℕ) → Reading (List ℕ)
new_name_at names d = do
  name ← wanted port_name_at (codes "name") d
  new ← new_name names name
  Ok name

-- the ask of an override; under which of the keys its version stands doesn't matter
unfoldable pub override_ask_at : Reading Ask
override_ask_at d = scheme_needed d >>= λ scheme. written_ask_under (key_of scheme) d

-- an override whose name is none of these
unfoldable pub override_from : List (List ℕ) → Reading Override
override_from names d = do
  object ← object_at d
  name ← new_name_at names d
  ask ← override_ask_at d
  Ok (record { name = name; ask = ask })

abbrev pub names_of : List Override → List (List ℕ)
names_of overrides = map (λ o. o.name) overrides

-- overrides, each with a name of its own
abbrev pub overrides_at : Reading (List Override)
overrides_at = each_new_item (λ (o : Override). o.name) override_from

abbrev pub overrides_in : Reading (List Override)
overrides_in = optional_or [] overrides_at (codes "overrides")

-- the name and the version: a root may lack them, a port may not
unfoldable pub name_in : Bool → Reading (Option (List ℕ))
name_in true d = optional port_name_at (codes "name") d
name_in false d = wanted port_name_at (codes "name") d >>= λ name. Ok (Some name)

unfoldable pub version_in : Bool → Reading (Option Version)
version_in true d = version_at d
version_in false d = version_needed_at d >>= λ version. Ok (Some version)

-- only a root's overrides are read
abbrev pub overrides_if : Bool → Reading (List Override)
overrides_if true d = overrides_in d
overrides_if false d = Ok []

-- what a manifest has of which nothing is said
abbrev pub blank : Manifest Condition
blank = record {
  name = None;
  version = None;
  supports = always;
  dependencies = [];
  default_features = [];
  features = [];
  overrides = [];
}

-- a manifest, of the root or of a port; members with other keys mean nothing
unfoldable pub manifest_at : Bool → Reading (Manifest Condition)
manifest_at root d = do
  object ← object_at d
  name ← name_in root d
  version ← version_in root d
  supports ← supports_in d
  dependencies ← dependencies_in d
  defaults ← uses_under (codes "default-features") d
  features ← features_in d
  overrides ← overrides_if root d
  Ok (record {
    name = name;
    version = version;
    supports = supports;
    dependencies = dependencies;
    default_features = defaults;
    features = features;
    overrides = overrides;
  })

-- the manifest that bytes are, or their first fault
abbrev pub manifest_of : List ℕ → Bool → Result (Manifest Condition) FileFault
manifest_of bytes root = json_of bytes >>= manifest_at root
