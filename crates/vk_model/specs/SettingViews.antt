-- What contracts see of instances and of a setting: the plain data that a plan is made under.
use Rattle.std.specs.Prelude.{map}
use Rattle.vk_spec.specs.Settings as plain
use Rattle.vk_base.specs.FeatureViews.{feature_view}
use Rattle.vk_base.specs.declared.instances.Instance.{Instance}
use Rattle.vk_triplet.specs.Meanings.{meaning_of}
use Rattle.vk_model.specs.Views.{manifest_view}
use Rattle.vk_model.specs.declared.settings.Setting.{Setting}

abbrev pub instance_view : Instance → plain.Instance
instance_view i = record { port = i.port; triplet = i.triplet }

abbrev pub setting_view : Setting → plain.Setting
setting_view s = record {
  root = manifest_view s.root;
  target = meaning_of s.target;
  host = meaning_of s.host;
  features = map feature_view s.features;
  defaults = s.defaults;
  off = map instance_view s.off;
  max_facts = s.max_facts;
}
