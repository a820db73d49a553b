-- Which faults stand in a report, and how they are put together from what is read.
use Rattle.std.specs.Prelude.{◌≡◌, ℕ, List, Option}
use Rattle.std.specs.List.{All}
use Rattle.vk_spec.specs.Paths.{Path}
use Rattle.vk_spec.specs.Pages as the
use Rattle.vk_spec.specs.Versions as plain
use Rattle.vk_base.specs.FeatureViews.{feature_view}
use Rattle.vk_base.specs.Names.{IsName, port_rule, word_rule}
use Rattle.vk_base.specs.declared.features.FeatureName.{FeatureName}
use Rattle.vk_json.specs.Words.{HasSmallNumber, word_of}
use Rattle.vk_json.specs.declared.faults.Why.{Why}
use Rattle.vk_version.specs.AskViews.{ask_view}
use Rattle.vk_version.specs.declared.asks.Ask.{Ask}
use Rattle.vk_resolution.specs.Faults.{Fault, Trouble, conflicts, differs, has_cycle, isnt_supported, lacks_baseline, lacks_feature, lacks_registry, lacks_version, troubled, unreadable}
use Rattle.vk_model.specs.WrongViews.{field_view}
use Rattle.vk_model.specs.declared.wrongs.Field.{Field}
use Rattle.vk_forms.specs.Lines.{IsLine}
use Rattle.vk_forms.specs.Forms.{pair_plain}
use Rattle.vk_forms.specs.Names.{IsRightInstance, IsRightWho, who_of}
use Rattle.vk_forms.specs.Words.{IsWord}
use Rattle.vk_forms.specs.Paths.{IsPlace, IsRightPath}
use Rattle.vk_forms.specs.Texts.{IsText}
use Rattle.vk_forms.specs.Versions.{IsRightAsk, IsRightIfAny, IsRightVersion}

abbrev pub IsRightTrouble : Trouble → Type 0
IsRightTrouble (lacks_registry p) = IsName port_rule p
IsRightTrouble (lacks_baseline p) = IsName port_rule p
IsRightTrouble (unreadable path place word) = IsRightPath path × IsPlace place × IsWord word
IsRightTrouble (lacks_version p ask) = IsName port_rule p × IsRightAsk ask
IsRightTrouble (differs path field row manifest) = IsRightPath path × IsText row × IsText manifest

abbrev pub IsRightFault : Fault → Type 0
IsRightFault (troubled trouble n) = IsRightTrouble trouble × IsLine n
IsRightFault (conflicts p v n w m) = IsName port_rule p × IsRightVersion v × IsLine n × IsRightVersion w × IsLine m
IsRightFault (lacks_feature who f v n) = IsRightWho who × IsName word_rule f × IsRightIfAny v × IsLine n
IsRightFault (isnt_supported who f v n) = IsRightWho who × IsName word_rule f × IsRightIfAny v × IsLine n
IsRightFault (has_cycle walk) = All IsRightInstance walk

-- ---- of which kind a fault is

abbrev pub IsNoRegistry : Fault → Type 0
IsNoRegistry (troubled (lacks_registry p) n) = Unit {0}
IsNoRegistry other = ⊥

abbrev pub IsNoBaseline : Fault → Type 0
IsNoBaseline (troubled (lacks_baseline p) n) = Unit {0}
IsNoBaseline other = ⊥

abbrev pub IsBadFile : Fault → Type 0
IsBadFile (troubled (unreadable path place word) n) = Unit {0}
IsBadFile other = ⊥

abbrev pub IsNoVersion : Fault → Type 0
IsNoVersion (troubled (lacks_version p ask) n) = Unit {0}
IsNoVersion other = ⊥

abbrev pub IsDisagrees : Fault → Type 0
IsDisagrees (troubled (differs path field row manifest) n) = Unit {0}
IsDisagrees other = ⊥

abbrev pub IsConflict : Fault → Type 0
IsConflict (conflicts p v n w m) = Unit {0}
IsConflict other = ⊥

abbrev pub IsNoFeature : Fault → Type 0
IsNoFeature (lacks_feature who f v n) = Unit {0}
IsNoFeature other = ⊥

abbrev pub IsUnsupported : Fault → Type 0
IsUnsupported (isnt_supported who f v n) = Unit {0}
IsUnsupported other = ⊥

abbrev pub IsCycle : Fault → Type 0
IsCycle (has_cycle walk) = Unit {0}
IsCycle other = ⊥

-- a right fault of a kind
abbrev pub IsRightAnd : (Fault → Type 0) → Fault → Type 0
IsRightAnd IsKind fault = IsKind fault × IsRightFault fault

-- ---- the parts, after a word

abbrev pub NoRegistryParts : Type 0
NoRegistryParts = Unit {0} × (List ℕ × ℕ)

abbrev pub no_registry_parts : Unit {0} × (List ℕ × ℕ) → NoRegistryParts
no_registry_parts = pair_plain (λ u. u) (pair_plain (λ x. x) (λ x. x))

abbrev pub no_registry_fault : NoRegistryParts → Fault
no_registry_fault p = troubled (lacks_registry p.1.0) p.1.1

abbrev pub NoBaselineParts : Type 0
NoBaselineParts = Unit {0} × (List ℕ × ℕ)

abbrev pub no_baseline_parts : Unit {0} × (List ℕ × ℕ) → NoBaselineParts
no_baseline_parts = pair_plain (λ u. u) (pair_plain (λ x. x) (λ x. x))

abbrev pub no_baseline_fault : NoBaselineParts → Fault
no_baseline_fault p = troubled (lacks_baseline p.1.0) p.1.1

abbrev pub BadFileParts : Type 0
BadFileParts = Unit {0} × (Path × (List ℕ × (Why × ℕ)))

abbrev pub bad_file_parts : Unit {0} × (Path × (List ℕ × (Why × ℕ))) → BadFileParts
bad_file_parts = pair_plain (λ u. u) (pair_plain (λ x. x) (pair_plain (λ x. x) (pair_plain (λ x. x) (λ x. x))))

abbrev pub bad_file_fault : BadFileParts → Fault
bad_file_fault p = troubled (unreadable p.1.0 p.1.1.0 (word_of p.1.1.1.0)) p.1.1.1.1

abbrev pub NoVersionParts : Type 0
NoVersionParts = Unit {0} × (List ℕ × (plain.Ask × ℕ))

abbrev pub no_version_parts : Unit {0} × (List ℕ × (Ask × ℕ)) → NoVersionParts
no_version_parts = pair_plain (λ u. u) (pair_plain (λ x. x) (pair_plain ask_view (λ x. x)))

abbrev pub no_version_fault : NoVersionParts → Fault
no_version_fault p = troubled (lacks_version p.1.0 p.1.1.0) p.1.1.1

abbrev pub DisagreesParts : Type 0
DisagreesParts = Unit {0} × (Path × (the.Field × (List ℕ × (List ℕ × ℕ))))

abbrev pub disagrees_parts : Unit {0} × (Path × (Field × (List ℕ × (List ℕ × ℕ)))) → DisagreesParts
disagrees_parts = pair_plain (λ u. u) (pair_plain (λ x. x) (pair_plain field_view (pair_plain (λ x. x) (pair_plain (λ x. x) (λ x. x)))))

abbrev pub disagrees_fault : DisagreesParts → Fault
disagrees_fault p = troubled (differs p.1.0 p.1.1.0 p.1.1.1.0 p.1.1.1.1.0) p.1.1.1.1.1

abbrev pub ConflictParts : Type 0
ConflictParts = Unit {0} × (List ℕ × (plain.Version × (ℕ × (plain.Version × ℕ))))

abbrev pub conflict_parts : Unit {0} × (List ℕ × (plain.Version × (ℕ × (plain.Version × ℕ)))) → ConflictParts
conflict_parts = pair_plain (λ u. u) (pair_plain (λ x. x) (pair_plain (λ x. x) (pair_plain (λ x. x) (pair_plain (λ x. x) (λ x. x)))))

abbrev pub conflict_fault : ConflictParts → Fault
conflict_fault p = conflicts p.1.0 p.1.1.0 p.1.1.1.0 p.1.1.1.1.0 p.1.1.1.1.1

abbrev pub NoFeatureParts : Type 0
NoFeatureParts = Unit {0} × (Option (List ℕ) × (List ℕ × (List ℕ × (Option plain.Version × ℕ))))

abbrev pub no_feature_parts : Unit {0} × (Option (List ℕ) × (List ℕ × (FeatureName × (Option plain.Version × ℕ)))) → NoFeatureParts
no_feature_parts = pair_plain (λ u. u) (pair_plain (λ x. x) (pair_plain (λ x. x) (pair_plain feature_view (pair_plain (λ x. x) (λ x. x)))))

abbrev pub no_feature_fault : NoFeatureParts → Fault
no_feature_fault p = lacks_feature (who_of p.1.0 p.1.1.0) p.1.1.1.0 p.1.1.1.1.0 p.1.1.1.1.1

abbrev pub UnsupportedParts : Type 0
UnsupportedParts = Unit {0} × (Option (List ℕ) × (List ℕ × (List ℕ × (Option plain.Version × ℕ))))

abbrev pub unsupported_parts : Unit {0} × (Option (List ℕ) × (List ℕ × (FeatureName × (Option plain.Version × ℕ)))) → UnsupportedParts
unsupported_parts = pair_plain (λ u. u) (pair_plain (λ x. x) (pair_plain (λ x. x) (pair_plain feature_view (pair_plain (λ x. x) (λ x. x)))))

abbrev pub unsupported_fault : UnsupportedParts → Fault
unsupported_fault p = isnt_supported (who_of p.1.0 p.1.1.0) p.1.1.1.0 p.1.1.1.1.0 p.1.1.1.1.1
