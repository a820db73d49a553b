-- The setting that a root manifest, the triplets and the words make.
use Rattle.std.specs.Prelude.{ℕ, Bool, List}
use Rattle.vk_spec.specs.Conditions.{Condition}
use Rattle.vk_spec.specs.Manifests.{Manifest}
use Rattle.vk_spec.specs.Settings.{Setting, Triplet, Instance}

-- with these features and default features or not, these instances off, and at most as many requirements
abbrev pub setting_of : Manifest Condition → Triplet → Triplet → List (List ℕ) → Bool → List Instance → ℕ → Setting
setting_of manifest target host features defaults off most = record { root = manifest; target = target; host = host; features = features; defaults = defaults; off = off; max_facts = most }
