-- Reasons are put together from the words, names, asks and causes of their lines.
use Rattle.std.proofs.Common.{◌≡◌, ◌++◌, ℕ, List, refl, ap, sym, codes}
use Rattle.std.specs.Prelude.{Option, Some, None}
use Rattle.vk_base.specs.Names.{IsName, port_rule, word_rule}
use Rattle.vk_base.specs.Printed.{version_text}
use Rattle.vk_base.specs.Tokens.{token_of}
use Rattle.vk_base.proofs.PathLemmas.{lacks_byte}
use Rattle.vk_resolution.specs.Settings.{root, inst}
use Rattle.vk_resolution.specs.Asking.{Fact, need, floor, visit}
use Rattle.vk_resolution.specs.Consequences.{Cause}
use Rattle.vk_resolution.specs.Lines.{cause_text, reason_text}
use Rattle.vk_report_reader.specs.Causes.{IsFloorCause, IsNeedCause, IsVisitCause}
use Rattle.vk_forms.specs.Forms.{pair_text, IsRightPair}
use Rattle.vk_forms.specs.Names.{IsPortIfAny, port_or_root}
use Rattle.vk_report_reader.specs.Reasons.{FloorParts, IsFloor, IsFloorReason, IsNeed, IsNeedReason, IsRightFact, IsVisit, IsVisitReason, NeedParts, VisitParts, floor_reason, need_reason, visit_reason}
use Rattle.vk_forms.specs.Versions.{IsRightAsk}
use Rattle.vk_forms.specs.Words.{Any}
use Rattle.vk_forms.proofs.NameForms.{name_lacks}
use Rattle.vk_report_reader.proofs.Spaced.{spaced3, spaced4, spaced5}
use Rattle.vk_forms.proofs.Through.{AreParts}
use Rattle.vk_forms.proofs.VersionForms.{version_blank}

-- ---- needs

abbrev pub need_text : NeedParts → List ℕ
need_text = pair_text 32 (λ u. codes "need") (pair_text 32 port_or_root (pair_text 32 token_of (pair_text 32 token_of cause_text)))

abbrev pub AreNeedParts : NeedParts → Type 0
AreNeedParts = IsRightPair 32 (λ u. codes "need") Any (IsRightPair 32 port_or_root IsPortIfAny (IsRightPair 32 token_of (IsName word_rule) (IsRightPair 32 token_of (IsName word_rule) IsNeedCause)))

need_same : (port : Option (List ℕ)) (t f : List ℕ) (c : Cause ℕ) → need_text (tt, (port, (t, (f, c)))) ≡ reason_text (need_reason (tt, (port, (t, (f, c)))))
need_same None t f c = sym (ap (λ l. codes "need . " ++ l) (spaced3 (token_of t) (token_of f) (cause_text c)))
need_same (Some p) t f c = sym (ap (λ l. codes "need " ++ l) (spaced4 (token_of p) (token_of t) (token_of f) (cause_text c)))

need_right : (port : Option (List ℕ)) (t f : List ℕ) (c : Cause ℕ) → IsPortIfAny port → IsName word_rule t → IsName word_rule f → IsNeedCause c → IsNeedReason (need_reason (tt, (port, (t, (f, c)))))
need_right None t f c port triplet feature cause = (tt, (triplet, feature, cause))
need_right (Some p) t f c port triplet feature cause = (tt, ((port, triplet), feature, cause))

need_of : (x : Fact) (c : Cause ℕ) → IsNeed x → IsRightFact x c → (p : NeedParts) × (AreNeedParts p × (reason_text (record { fact = x; cause = c }) ≡ need_text p) × (record { fact = x; cause = c } ≡ need_reason p))
need_of (need (root t) f) c is right = (
  (tt, (None, (t, (f, c)))),
  (
    (tt, lacks_byte 32 (codes "need") refl, (tt, lacks_byte 32 (codes ".") refl, (right.0, name_lacks word_rule 32 t refl right.0, (right.1, name_lacks word_rule 32 f refl right.1, right.2)))),
    sym (need_same None t f c),
    refl,
  ),
)
need_of (need (inst i) f) c is right = (
  (tt, (Some i.port, (i.triplet, (f, c)))),
  (
    (tt, lacks_byte 32 (codes "need") refl, (right.0.0, name_lacks port_rule 32 i.port refl right.0.0, (right.0.1, name_lacks word_rule 32 i.triplet refl right.0.1, (right.1, name_lacks word_rule 32 f refl right.1, right.2)))),
    sym (need_same (Some i.port) i.triplet f c),
    refl,
  ),
)
need_of (floor p a) c is right = absurd is
need_of (visit i f a) c is right = absurd is

pub need_parts_are : AreParts need_text AreNeedParts reason_text IsNeedReason need_reason
need_parts_are = record {
  made = λ p right. (need_same p.1.0 p.1.1.0 p.1.1.1.0 p.1.1.1.1, need_right p.1.0 p.1.1.0 p.1.1.1.0 p.1.1.1.1 right.2.0 right.2.2.0 right.2.2.2.0 right.2.2.2.2);
  parts = λ r fine. need_of r.fact r.cause fine.0 fine.1;
}

-- ---- floors

abbrev pub floor_text : FloorParts → List ℕ
floor_text = pair_text 32 (λ u. codes "floor") (pair_text 32 token_of (pair_text 32 version_text cause_text))

abbrev pub AreFloorParts : FloorParts → Type 0
AreFloorParts = IsRightPair 32 (λ u. codes "floor") Any (IsRightPair 32 token_of (IsName port_rule) (IsRightPair 32 version_text IsRightAsk IsFloorCause))

floor_same : (p : FloorParts) → floor_text p ≡ reason_text (floor_reason p)
floor_same p = sym (ap (λ l. codes "floor " ++ l) (spaced3 (token_of p.1.0) (version_text p.1.1.0) (cause_text p.1.1.1)))

floor_of : (x : Fact) (c : Cause ℕ) → IsFloor x → IsRightFact x c → (p : FloorParts) × (AreFloorParts p × (reason_text (record { fact = x; cause = c }) ≡ floor_text p) × (record { fact = x; cause = c } ≡ floor_reason p))
floor_of (floor p a) c is right = (
  (tt, (p, (a, c))),
  (
    (tt, lacks_byte 32 (codes "floor") refl, (right.0, name_lacks port_rule 32 p refl right.0, (right.1, version_blank a right.1, right.2))),
    sym (floor_same (tt, (p, (a, c)))),
    refl,
  ),
)
floor_of (need who f) c is right = absurd is
floor_of (visit i f a) c is right = absurd is

pub floor_parts_are : AreParts floor_text AreFloorParts reason_text IsFloorReason floor_reason
floor_parts_are = record {
  made = λ p right. (floor_same p, (tt, (right.2.0, right.2.2.0, right.2.2.2)));
  parts = λ r fine. floor_of r.fact r.cause fine.0 fine.1;
}

-- ---- visits

abbrev pub visit_text : VisitParts → List ℕ
visit_text = pair_text 32 (λ u. codes "visit") (pair_text 32 token_of (pair_text 32 token_of (pair_text 32 token_of (pair_text 32 version_text cause_text))))

abbrev pub AreVisitParts : VisitParts → Type 0
AreVisitParts = IsRightPair 32 (λ u. codes "visit") Any (IsRightPair 32 token_of (IsName port_rule) (IsRightPair 32 token_of (IsName word_rule) (IsRightPair 32 token_of (IsName word_rule) (IsRightPair 32 version_text IsRightAsk IsVisitCause))))

visit_same : (p : VisitParts) → visit_text p ≡ reason_text (visit_reason p)
visit_same p = sym (ap (λ l. codes "visit " ++ l) (spaced5 (token_of p.1.0) (token_of p.1.1.0) (token_of p.1.1.1.0) (version_text p.1.1.1.1.0) (cause_text p.1.1.1.1.1)))

visit_of : (x : Fact) (c : Cause ℕ) → IsVisit x → IsRightFact x c → (p : VisitParts) × (AreVisitParts p × (reason_text (record { fact = x; cause = c }) ≡ visit_text p) × (record { fact = x; cause = c } ≡ visit_reason p))
visit_of (visit i f a) c is right = (
  (tt, (i.port, (i.triplet, (f, (a, c))))),
  (
    (tt, lacks_byte 32 (codes "visit") refl, (right.0.0, name_lacks port_rule 32 i.port refl right.0.0, (right.0.1, name_lacks word_rule 32 i.triplet refl right.0.1, (right.1, name_lacks word_rule 32 f refl right.1, (right.2, version_blank a right.2, right.3))))),
    sym (visit_same (tt, (i.port, (i.triplet, (f, (a, c)))))),
    refl,
  ),
)
visit_of (need who f) c is right = absurd is
visit_of (floor p a) c is right = absurd is

pub visit_parts_are : AreParts visit_text AreVisitParts reason_text IsVisitReason visit_reason
visit_parts_are = record {
  made = λ p right. (visit_same p, (tt, ((right.2.0, right.2.2.0), right.2.2.2.0, right.2.2.2.2.0, right.2.2.2.2.2)));
  parts = λ r fine. visit_of r.fact r.cause fine.0 fine.1;
}
