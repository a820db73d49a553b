-- Versions that are unrelated.
use Rattle.std.proofs.Common.{◌≡◌, ◌≢◌, ◌≤◌, ◌⊎◌, ℕ, inl, inr, refl, sym, ap, ◌∙◌, arith}
use Rattle.std.specs.declared.cmp.Ordering.{Ordering}
use Rattle.std.specs.declared.cmp.Ordering.TheVariants.{Less, Equal, Greater}
use Rattle.std.specs.Ordering.{ordering_reverse}
use Rattle.std.proofs.lemmas.Bool.{cases_lt}
use Rattle.std.proofs.lemmas.Cmp.{tied_back}
use Rattle.vk_spec.specs.Versions.{Version}
use Rattle.vk_spec.specs.Versions as plain
use Rattle.vk_version.specs.Texts.{day_of, later_numbers}
use Rattle.vk_version.specs.Readings.{IsVersion}
use Rattle.vk_version.specs.Orders.{AtMost, same_date, BothAre, Unrelated, numbers_of, pre_of}
use Rattle.vk_version.specs.Orders.{rank_cmp}
use Rattle.vk_version.proofs.OrderLemmas.{lower, tied, ordered_from, ordered_to, rank_total}
use Rattle.vk_version.proofs.OrderLemmas.{then_by, same_list, same_pre, date_parts}
use Rattle.vk_version.proofs.SameTextLemmas.{same_dates}
use Rattle.vk_version.proofs.TestLemmas.{ordered_class, of_one_rank}

pub class_apart : (v w : Version) → v.class ≢ w.class → Unrelated v w
class_apart v w apart = (
  (λ h. apart (ordered_class v w (ordered_from v w h))),
  (λ h. apart (sym (ordered_class w v (ordered_from w v h)))),
)

-- of one rank and another text
one_rank_apart : (v w : Version) → rank_cmp v w ≡ Equal → v.text ≢ w.text → Unrelated v w
one_rank_apart v w r apart =
    let back = tied_back rank_total v w r in (
      (λ h. apart (of_one_rank v w r (ordered_from v w h)).0),
      (λ h. apart (sym (of_one_rank w v back (ordered_from w v h)).0)),
    )

pub dotted_apart : (v w : Version) → BothAre plain.dot v w → numbers_of v ≡ numbers_of w
    → pre_of v ≡ pre_of w → v.text ≢ w.text → Unrelated v w
dotted_apart v w both numbers pre apart =
    let r : rank_cmp v w ≡ Equal =
    rw (both.first, both.second) (then_by _ _ _ (same_list _ _ numbers) (same_pre _ _ pre)) in
    one_rank_apart v w r apart

pub strings_apart : (v w : Version) → BothAre plain.text v w → v.text ≢ w.text → Unrelated v w
strings_apart v w both apart =
    let r : rank_cmp v w ≡ Equal = rw (both.first, both.second) refl in
    one_rank_apart v w r apart

cases_le : (m n : ℕ) → (m ≤ n) ⊎ (n ≤ m)
cases_le m n = elim (cases_lt m n) [ inl lt ↦ inl (omega arith) | inr ge ↦ inr ge ]

-- readable dates of one rank have the same text
tied_dates : (v w : Version) → IsVersion v → IsVersion w → BothAre plain.date v w
    → rank_cmp v w ≡ Equal → v.text ≡ w.text
tied_dates v w iv iw both r =
    let d =
    date_parts v w both.first both.second r in same_dates v w iv iw both.first both.second d.0 d.1

related_by : (o : Ordering) (v w : Version) → IsVersion v → IsVersion w → BothAre plain.date v w
    → Unrelated v w → rank_cmp v w ≡ o → ⊥
related_by Less v w iv iw both u r = u.0 (ordered_to v w (lower (both.first ∙ sym both.second) r))
related_by Equal v w iv iw both u r =
    let back = tied_back rank_total v w r in
    let same = tied_dates v w iv iw both r in
    elim (cases_le v.port w.port) [
      | inl le ↦ u.0 (ordered_to v w (tied (both.first ∙ sym both.second) r same le))
      | inr ge ↦ u.1 (ordered_to w v (tied (both.second ∙ sym both.first) back (sym same) ge))
    ]
related_by Greater v w iv iw both u r =
    let back : rank_cmp w v ≡ Less = rank_total.antisymm w v ∙ ap ordering_reverse r in
    u.1 (ordered_to w v (lower (both.second ∙ sym both.first) back))

pub dates_related : (v w : Version) → IsVersion v → IsVersion w → BothAre plain.date v w
    → Unrelated v w → ⊥
dates_related v w iv iw both u = related_by (rank_cmp v w) v w iv iw both u refl

-- readable dates of the same day and numbers are ordered by port-version alone
pub dates_by_port : (v w : Version) → IsVersion v → IsVersion w → BothAre plain.date v w
    → day_of v.text ≡ day_of w.text → later_numbers v.text ≡ later_numbers w.text → v.port ≤ w.port
    → AtMost v w
dates_by_port v w iv iw both day later le =
    same_date both day later (same_dates v w iv iw both.first both.second day later) le
