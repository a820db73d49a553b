-- What contracts see of a root with its triplets: a setting.
use Rattle.std.specs.Prelude.{ℕ, Bool, false, List, [], Option, if◌then◌else◌}
use Rattle.vk_spec.specs.Settings.{Setting, Instance}
use Rattle.vk_resolution.specs.Settings.{Who, root, triplet_of, instance_of, is_own}
use Rattle.vk_spec.specs.Conditions.{Condition}
use Rattle.vk_spec.specs.Manifests.{Dependency}
use Rattle.vk_triplet.specs.Meanings.{meaning_of}
use Rattle.vk_base.specs.declared.names.PortName.{PortName}
use Rattle.vk_model.specs.Views.{manifest_view}
use Rattle.vk_root.specs.RootSettings.{setting_of}
use Rattle.vk_root.specs.declared.roots.Root.{Root}

-- a root and its triplets, with these words, these instances off, and at most as many requirements
abbrev pub setting_at : Root → List (List ℕ) → Bool → List Instance → ℕ → Setting
setting_at r = setting_of (manifest_view r.manifest.now) (meaning_of r.target.now) (meaning_of r.host.now)

-- with no words and nothing off
abbrev pub root_setting : Root → Setting
root_setting r = setting_at r [] false [] 0

abbrev pub name_view : Option PortName → Option (List ℕ)
name_view name = name

abbrev pub instance_at : List ℕ → List ℕ → Instance
instance_at port triplet = record { port = port; triplet = triplet }

-- the triplet that a dependency of someone is for
abbrev pub triplet_for : Setting → Who → Bool → List ℕ
triplet_for s who host = if host then s.host.name else triplet_of who

-- the instance that a dependency of the root is on
abbrev pub at_root : Setting → Dependency Condition → Instance
at_root s d = instance_of s (root s.target.name) d

-- whether that is the root's own
abbrev pub is_on_root : Setting → Dependency Condition → Bool
is_on_root s d = is_own s (root s.target.name) (at_root s d)
