-- Which causes each kind of fact has, and how they are put together from what is read.
use Rattle.std.specs.Prelude.{◌⊎◌, ◌<◌, ◌^◌, ℕ}
use Rattle.std.proofs.Common.{inl, inr}
use Rattle.vk_resolution.specs.Consequences.{Cause, by_root, by_baseline, by_override, by_overlay, by_minimum, by_one, by_two}
use Rattle.vk_forms.specs.Lines.{IsLine}
use Rattle.vk_forms.specs.declared.choices.Either.{Either}
use Rattle.vk_forms.specs.Choices.{either_plain}
use Rattle.vk_forms.specs.Forms.{pair_plain}

-- what the words or the root ask for, or what another fact asks for
abbrev pub IsNeedCause : Cause ℕ → Type 0
IsNeedCause by_root = Unit {0}
IsNeedCause (by_one n) = IsLine n
IsNeedCause other = ⊥

-- the given version, or a minimum
abbrev pub IsFloorCause : Cause ℕ → Type 0
IsFloorCause (by_baseline n) = IsLine n
IsFloorCause (by_override n) = IsLine n
IsFloorCause (by_overlay n) = IsLine n
IsFloorCause (by_minimum n) = IsLine n
IsFloorCause other = ⊥

-- a need and a floor
abbrev pub IsVisitCause : Cause ℕ → Type 0
IsVisitCause (by_two n m) = IsLine n × IsLine m
IsVisitCause other = ⊥

-- a word, and the line that is cited
abbrev pub Cited : Type 0
Cited = Unit {0} × ℕ

abbrev pub need_cause : Unit {0} ⊎ Cited → Cause ℕ
need_cause (inl u) = by_root
need_cause (inr c) = by_one c.1

abbrev pub floor_cause : Cited ⊎ (Cited ⊎ (Cited ⊎ Cited)) → Cause ℕ
floor_cause (inl c) = by_baseline c.1
floor_cause (inr (inl c)) = by_override c.1
floor_cause (inr (inr (inl c))) = by_overlay c.1
floor_cause (inr (inr (inr c))) = by_minimum c.1

abbrev pub visit_cause : Unit {0} × (ℕ × ℕ) → Cause ℕ
visit_cause c = by_two c.1.0 c.1.1

abbrev pub cited_plain : Cited → Cited
cited_plain = pair_plain (λ u. u) (λ n. n)

abbrev pub need_plain : Either (Unit {0}) Cited → Unit {0} ⊎ Cited
need_plain = either_plain (λ u. u) cited_plain

abbrev pub floor_plain : Either Cited (Either Cited (Either Cited Cited)) → Cited ⊎ (Cited ⊎ (Cited ⊎ Cited))
floor_plain = either_plain cited_plain (either_plain cited_plain (either_plain cited_plain cited_plain))

abbrev pub visit_plain : Unit {0} × (ℕ × ℕ) → Unit {0} × (ℕ × ℕ)
visit_plain = pair_plain (λ u. u) (pair_plain (λ n. n) (λ n. n))
