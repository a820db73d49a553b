-- A set of instances that stands for a list of them.
use Rattle.std.specs.Prelude.{◌≡◌, Bool, List}
use Rattle.std.specs.List.{list_any}
use Rattle.vk_resolution.specs.Settings.{same_instance}
use Rattle.vk_base.specs.declared.instances.Instance.{Instance}
use Rattle.vk_model.specs.SettingViews.{instance_view}

-- whether two instances are one
abbrev pub is_same : Instance → Instance → Bool
is_same i j = same_instance (instance_view i) (instance_view j)

-- whether an instance is among these
abbrev pub has_instance : List Instance → Instance → Bool
has_instance is j = list_any (is_same j) is

-- the set has what the list has
abbrev pub AreOff : List Instance → List Instance → Type 0
AreOff listed keys = (j : Instance) → has_instance keys j ≡ has_instance listed j
