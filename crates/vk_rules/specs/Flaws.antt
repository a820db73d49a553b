-- What is wrong with a needed feature, as the lines that are told of it.
use Rattle.std.specs.Prelude.{ℕ, Bool, List, [], ◌∷◌, Option, Some, None, bytes_eq, if◌then◌else◌}
use Rattle.vk_spec.specs.Conditions.{holds, Condition}
use Rattle.vk_spec.specs.Versions.{Version}
use Rattle.vk_spec.specs.Manifests.{Manifest, core, default}
use Rattle.vk_resolution.specs.Settings as plain
use Rattle.vk_resolution.specs.Settings.{Marks, feature_of}
use Rattle.vk_resolution.specs.Faults.{Fault, lacks_feature, isnt_supported, feature_faults}
use Rattle.vk_rules.specs.declared.flaws.Flaw.{Flaw}
use Rattle.vk_rules.specs.declared.flaws.Flaw.TheVariants.{NoFeature, Unsupported}

-- the line of a flaw, where there is one
abbrev pub flaw_faults : plain.Who → List ℕ → Option Version → ℕ → Option Flaw → List Fault
flaw_faults who f v n None = []
flaw_faults who f v n (Some NoFeature) = lacks_feature who f v n ∷ []
flaw_faults who f v n (Some Unsupported) = isnt_supported who f v n ∷ []

-- the line of what isn't supported
abbrev pub support_faults : plain.Who → List ℕ → Option Version → ℕ → Bool → List Fault
support_faults who f v n supported = if supported then [] else isnt_supported who f v n ∷ []

-- a feature of a manifest, judged under marks
abbrev pub judged_under : plain.Who → List ℕ → Option Version → Marks → Manifest Condition → ℕ → List Fault
judged_under who f v marks m n =
    if bytes_eq f core then support_faults who f v n (holds m.supports marks) else if bytes_eq f default then [] else feature_faults who f v marks (feature_of m f) n
