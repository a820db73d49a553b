-- Causes are put together from words and numbers.
use Rattle.std.proofs.Common.{◌≡◌, ◌⊎◌, ℕ, List, inl, inr, refl, codes, arith}
use Rattle.std.specs.Prelude.{decimal}
use Rattle.vk_base.proofs.PathLemmas.{lacks_byte}
use Rattle.vk_resolution.specs.Consequences.{Cause, by_root, by_baseline, by_override, by_overlay, by_minimum, by_one, by_two}
use Rattle.vk_resolution.specs.Lines.{cause_text}
use Rattle.vk_forms.specs.Choices.{either_text, IsRightEither}
use Rattle.vk_forms.specs.Forms.{pair_text, IsRightPair}
use Rattle.vk_forms.specs.Lines.{IsLine}
use Rattle.vk_report_reader.specs.Causes.{Cited, IsNeedCause, IsFloorCause, IsVisitCause, need_cause, floor_cause, visit_cause}
use Rattle.vk_forms.specs.Words.{Any}
use Rattle.vk_forms.proofs.Numbers.{decimal_lacks}
use Rattle.vk_forms.proofs.Through.{AreParts}

abbrev pub cited_text : List ℕ → Cited → List ℕ
cited_text word = pair_text 32 (λ u. word) decimal

abbrev pub IsCited : List ℕ → Cited → Type 0
IsCited word = IsRightPair 32 (λ u. word) Any IsLine

need_made : (p : Unit {0} ⊎ Cited) → IsRightEither Any (IsCited (codes "from")) p → (either_text (λ u. codes "root") (cited_text (codes "from")) p ≡ cause_text (need_cause p)) × IsNeedCause (need_cause p)
need_made (inl u) right = (refl, tt)
need_made (inr c) right = (refl, right.2)

need_of : (q : Cause ℕ) → IsNeedCause q → (p : Unit {0} ⊎ Cited) × (IsRightEither Any (IsCited (codes "from")) p × (cause_text q ≡ either_text (λ u. codes "root") (cited_text (codes "from")) p) × (q ≡ need_cause p))
need_of by_root fine = (inl tt, (tt, refl, refl))
need_of (by_one n) fine = (inr (tt, n), ((tt, lacks_byte 32 (codes "from") refl, fine), refl, refl))
need_of (by_baseline n) fine = absurd fine
need_of (by_override n) fine = absurd fine
need_of (by_overlay n) fine = absurd fine
need_of (by_minimum n) fine = absurd fine
need_of (by_two n m) fine = absurd fine

pub need_parts : AreParts (either_text (λ u. codes "root") (cited_text (codes "from"))) (IsRightEither Any (IsCited (codes "from"))) cause_text IsNeedCause need_cause
need_parts = record { made = need_made; parts = need_of }

abbrev pub floor_text : Cited ⊎ (Cited ⊎ (Cited ⊎ Cited)) → List ℕ
floor_text = either_text (cited_text (codes "baseline")) (either_text (cited_text (codes "override")) (either_text (cited_text (codes "overlay")) (cited_text (codes "minimum"))))

abbrev pub IsFloorText : Cited ⊎ (Cited ⊎ (Cited ⊎ Cited)) → Type 0
IsFloorText = IsRightEither (IsCited (codes "baseline")) (IsRightEither (IsCited (codes "override")) (IsRightEither (IsCited (codes "overlay")) (IsCited (codes "minimum"))))

floor_made : (p : Cited ⊎ (Cited ⊎ (Cited ⊎ Cited))) → IsFloorText p → (floor_text p ≡ cause_text (floor_cause p)) × IsFloorCause (floor_cause p)
floor_made (inl c) right = (refl, right.2)
floor_made (inr (inl c)) right = (refl, right.2)
floor_made (inr (inr (inl c))) right = (refl, right.2)
floor_made (inr (inr (inr c))) right = (refl, right.2)

floor_of : (q : Cause ℕ) → IsFloorCause q → (p : Cited ⊎ (Cited ⊎ (Cited ⊎ Cited))) × (IsFloorText p × (cause_text q ≡ floor_text p) × (q ≡ floor_cause p))
floor_of by_root fine = absurd fine
floor_of (by_one n) fine = absurd fine
floor_of (by_baseline n) fine = (inl (tt, n), ((tt, lacks_byte 32 (codes "baseline") refl, fine), refl, refl))
floor_of (by_override n) fine = (inr (inl (tt, n)), ((tt, lacks_byte 32 (codes "override") refl, fine), refl, refl))
floor_of (by_overlay n) fine = (inr (inr (inl (tt, n))), ((tt, lacks_byte 32 (codes "overlay") refl, fine), refl, refl))
floor_of (by_minimum n) fine = (inr (inr (inr (tt, n))), ((tt, lacks_byte 32 (codes "minimum") refl, fine), refl, refl))
floor_of (by_two n m) fine = absurd fine

pub floor_parts : AreParts floor_text IsFloorText cause_text IsFloorCause floor_cause
floor_parts = record { made = floor_made; parts = floor_of }

abbrev pub visit_text : Unit {0} × (ℕ × ℕ) → List ℕ
visit_text = pair_text 32 (λ u. codes "from") (pair_text 32 decimal decimal)

abbrev pub IsVisitText : Unit {0} × (ℕ × ℕ) → Type 0
IsVisitText = IsRightPair 32 (λ u. codes "from") Any (IsRightPair 32 decimal IsLine IsLine)

visit_of : (q : Cause ℕ) → IsVisitCause q → (p : Unit {0} × (ℕ × ℕ)) × (IsVisitText p × (cause_text q ≡ visit_text p) × (q ≡ visit_cause p))
visit_of by_root fine = absurd fine
visit_of (by_one n) fine = absurd fine
visit_of (by_baseline n) fine = absurd fine
visit_of (by_override n) fine = absurd fine
visit_of (by_overlay n) fine = absurd fine
visit_of (by_minimum n) fine = absurd fine
visit_of (by_two n m) fine = ((tt, (n, m)), ((tt, lacks_byte 32 (codes "from") refl, (fine.0, decimal_lacks 32 n fine.0 (omega arith), fine.1)), refl, refl))

pub visit_parts : AreParts visit_text IsVisitText cause_text IsVisitCause visit_cause
visit_parts = record { made = λ p right. (refl, (right.2.0, right.2.2)); parts = visit_of }
