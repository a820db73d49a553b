-- Which reasons stand in a report, and how they are put together from what is read.
use Rattle.std.specs.Prelude.{ℕ, List, Option}
use Rattle.vk_base.specs.Names.{IsName, port_rule, word_rule}
use Rattle.vk_base.specs.FeatureViews.{feature_view}
use Rattle.vk_base.specs.declared.features.FeatureName.{FeatureName}
use Rattle.vk_spec.specs.Versions as plain
use Rattle.vk_version.specs.AskViews.{ask_view}
use Rattle.vk_version.specs.declared.asks.Ask.{Ask}
use Rattle.vk_resolution.specs.Asking.{Fact, need, floor, visit}
use Rattle.vk_resolution.specs.Consequences as the
use Rattle.vk_resolution.specs.Reasons.{Reason}
use Rattle.vk_model.specs.FactViews.{cause_view}
use Rattle.vk_model.specs.declared.reasons.Cause.{Cause}
use Rattle.vk_forms.specs.Forms.{pair_plain}
use Rattle.vk_forms.specs.Names.{IsRightInstance, IsRightWho, who_of}
use Rattle.vk_forms.specs.Versions.{IsRightAsk}
use Rattle.vk_report_reader.specs.Causes.{IsFloorCause, IsNeedCause, IsVisitCause}

-- a fact, with a cause of its kind
abbrev pub IsRightFact : Fact → the.Cause ℕ → Type 0
IsRightFact (need who f) cause = IsRightWho who × IsName word_rule f × IsNeedCause cause
IsRightFact (floor p ask) cause = IsName port_rule p × IsRightAsk ask × IsFloorCause cause
IsRightFact (visit i f ask) cause = IsRightInstance i × IsName word_rule f × IsRightAsk ask × IsVisitCause cause

abbrev pub IsRightReason : Reason → Type 0
IsRightReason r = IsRightFact r.fact r.cause

-- of which kind a fact is
abbrev pub IsNeed : Fact → Type 0
IsNeed (need who f) = Unit {0}
IsNeed other = ⊥

abbrev pub IsFloor : Fact → Type 0
IsFloor (floor p ask) = Unit {0}
IsFloor other = ⊥

abbrev pub IsVisit : Fact → Type 0
IsVisit (visit i f ask) = Unit {0}
IsVisit other = ⊥

abbrev pub IsNeedReason : Reason → Type 0
IsNeedReason r = IsNeed r.fact × IsRightReason r

abbrev pub IsFloorReason : Reason → Type 0
IsFloorReason r = IsFloor r.fact × IsRightReason r

abbrev pub IsVisitReason : Reason → Type 0
IsVisitReason r = IsVisit r.fact × IsRightReason r

-- a word, a port or the root, a triplet, a feature and a cause
abbrev pub NeedParts : Type 0
NeedParts = Unit {0} × (Option (List ℕ) × (List ℕ × (List ℕ × the.Cause ℕ)))

abbrev pub need_reason : NeedParts → Reason
need_reason p = record { fact = need (who_of p.1.0 p.1.1.0) p.1.1.1.0; cause = p.1.1.1.1 }

abbrev pub need_parts : Unit {0} × (Option (List ℕ) × (List ℕ × (FeatureName × Cause))) → NeedParts
need_parts = pair_plain (λ u. u) (pair_plain (λ p. p) (pair_plain (λ t. t) (pair_plain feature_view cause_view)))

-- a word, a port, an ask and a cause
abbrev pub FloorParts : Type 0
FloorParts = Unit {0} × (List ℕ × (plain.Ask × the.Cause ℕ))

abbrev pub floor_reason : FloorParts → Reason
floor_reason p = record { fact = floor p.1.0 p.1.1.0; cause = p.1.1.1 }

abbrev pub floor_parts : Unit {0} × (List ℕ × (Ask × Cause)) → FloorParts
floor_parts = pair_plain (λ u. u) (pair_plain (λ p. p) (pair_plain ask_view cause_view))

-- a word, a port, a triplet, a feature, an ask and a cause
abbrev pub VisitParts : Type 0
VisitParts = Unit {0} × (List ℕ × (List ℕ × (List ℕ × (plain.Ask × the.Cause ℕ))))

abbrev pub visit_reason : VisitParts → Reason
visit_reason p = record { fact = visit (record { port = p.1.0; triplet = p.1.1.0 }) p.1.1.1.0 p.1.1.1.1.0; cause = p.1.1.1.1.1 }

abbrev pub visit_parts : Unit {0} × (List ℕ × (List ℕ × (FeatureName × (Ask × Cause)))) → VisitParts
visit_parts = pair_plain (λ u. u) (pair_plain (λ p. p) (pair_plain (λ t. t) (pair_plain feature_view (pair_plain ask_view cause_view))))
