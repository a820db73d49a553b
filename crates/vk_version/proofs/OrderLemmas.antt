-- The order on versions, by the rank of numbers and pre-release and then by ties.
use Rattle.std.proofs.Common.{◌≡◌, ◌<◌, ◌≤◌, ◌++◌, ◌⊎◌, ℕ, List, [], ◌∷◌, length, inl, inr, refl}
use Rattle.std.proofs.Common.{ap, sym, ◌∙◌, arith}
use Rattle.std.specs.declared.cmp.Ordering.{Ordering}
use Rattle.std.specs.declared.cmp.Ordering.TheVariants.{Less, Equal, Greater}
use Rattle.std.specs.Ordering.{nat_cmp, ordering_then}
use Rattle.std.specs.Cmp.{IsTotalOrder, then_total, on_total}
use Rattle.std.specs.Cmp.Lexicographic.{slice_cmp, nat_list_cmp_total}
use Rattle.std.specs.FinMap.{nat_cmp-IsAntisymmetric, slice_cmp-IsAntisymmetric}
use Rattle.std.proofs.lemmas.Bool.{cases_order}
use Rattle.std.proofs.lemmas.Bool.Decides.{nat_tests}
use Rattle.std.proofs.lemmas.Cmp.{tied_itself, alike_right}
use Rattle.semver.specs.Order.{pre_cmp}
use Rattle.semver.specs.OrderLaws.{pre_total}
use Rattle.vk_spec.specs.Versions.{Class, Version}
use Rattle.vk_spec.specs.Versions as plain
use Rattle.vk_version.specs.Texts.{day_of, later_numbers}
use Rattle.vk_version.specs.Orders.{IsLess, at_number, at_end, numbers_of, pre_of, AtMost}
use Rattle.vk_version.specs.Orders.{less_numbers, lower_pre, same_dotted, earlier_day, less_later}
use Rattle.vk_version.specs.Orders.{same_date, same_string, numbers_by, pre_by, rank_cmp}

-- ---- lists of numbers

nat_less : (x y : ℕ) → x < y → nat_cmp x y ≡ Less
nat_less x y lt = grind (arith, nat_tests)

nat_same : (x y : ℕ) → x ≡ y → nat_cmp x y ≡ Equal
nat_same x y e = grind (arith, nat_tests)

nat_greater : (x y : ℕ) → y < x → nat_cmp x y ≡ Greater
nat_greater x y gt = grind (arith, nat_tests)

less_cons : (x y : ℕ) (xs ys : List ℕ) → x ≡ y → IsLess xs ys → IsLess (x ∷ xs) (y ∷ ys)
less_cons x y xs ys e (at_number same a b l r p q lt) =
    at_number (x ∷ same) a b l r (ap (λ t. x ∷ t) p) (rw (e, q) refl) lt
less_cons x y xs ys e (at_end b r q) = at_end b r (rw (e, q) refl)

pub less_from : (xs ys : List ℕ) → slice_cmp nat_cmp xs ys ≡ Less → IsLess xs ys
less_from [] [] e = (cc)
less_from [] (y ∷ ys) e = at_end y ys refl
less_from (x ∷ xs) [] e = (cc)
less_from (x ∷ xs) (y ∷ ys) e =
    elim (cases_order x y) [
      | inl same ↦ less_cons x y xs ys same (less_from xs ys (rw (nat_same x y same) at e))
      | inr other ↦ elim other [
        | inl lt ↦ at_number [] x y xs ys refl refl lt
        | inr gt ↦ (let clash = rw (nat_greater x y gt) at e in (cc))
      ]
    ]

number_first : (same : List ℕ) (x y : ℕ) (l r : List ℕ) → x < y
    → slice_cmp nat_cmp (same ++ x ∷ l) (same ++ y ∷ r) ≡ Less
number_first [] x y l r lt = rw (nat_less x y lt) refl
number_first (s ∷ same) x y l r lt = rw (nat_same s s refl) (number_first same x y l r lt)

end_first : (xs : List ℕ) (y : ℕ) (r : List ℕ) → slice_cmp nat_cmp xs (xs ++ y ∷ r) ≡ Less
end_first [] y r = refl
end_first (x ∷ xs) y r = rw (nat_same x x refl) (end_first xs y r)

pub less_to : (xs ys : List ℕ) → IsLess xs ys → slice_cmp nat_cmp xs ys ≡ Less
less_to xs ys (at_number same x y l r p q lt) = rw (p, q) (number_first same x y l r lt)
less_to xs ys (at_end y r q) = rw q (end_first xs y r)

then_assoc : (a b c : Ordering)
    → ordering_then a (ordering_then b c) ≡ ordering_then (ordering_then a b) c
then_assoc Less b c = refl
then_assoc Equal b c = refl
then_assoc Greater b c = refl

then_Equal : (a : Ordering) → ordering_then a Equal ≡ a
then_Equal Less = refl
then_Equal Equal = refl
then_Equal Greater = refl

slice_cmp-append : (xs ys xs_left ys_left : List ℕ) → length xs ≡ length ys
    → slice_cmp nat_cmp (xs ++ xs_left) (ys ++ ys_left) ≡ ordering_then (slice_cmp nat_cmp xs ys)
    (slice_cmp nat_cmp xs_left ys_left)
slice_cmp-append [] [] l r e = refl
slice_cmp-append [] (y ∷ ys) l r e = absurd (omega arith)
slice_cmp-append (x ∷ xs) [] l r e = absurd (omega arith)
slice_cmp-append (x ∷ xs) (y ∷ ys) l r e =
    let ih = slice_cmp-append xs ys l r (omega arith) in
    rw ih (then_assoc (nat_cmp x y) (slice_cmp nat_cmp xs ys) (slice_cmp nat_cmp l r))

then_less : (a b : Ordering) → ordering_then a b ≡ Less → (a ≡ Less) ⊎ ((a ≡ Equal) × (b ≡ Less))
then_less Less b e = inl refl
then_less Equal b e = inr (refl, e)
then_less Greater b e = (cc)

then_same : (a b : Ordering) → ordering_then a b ≡ Equal → (a ≡ Equal) × (b ≡ Equal)
then_same Less b e = (cc)
then_same Equal b e = (refl, e)
then_same Greater b e = (cc)

list_anti : (xs ys : List ℕ) → slice_cmp nat_cmp xs ys ≡ Equal → xs ≡ ys
list_anti = slice_cmp-IsAntisymmetric nat_cmp-IsAntisymmetric

list_self : (xs : List ℕ) → slice_cmp nat_cmp xs xs ≡ Equal
list_self = tied_itself nat_list_cmp_total

pub same_list : (xs ys : List ℕ) → xs ≡ ys → slice_cmp nat_cmp xs ys ≡ Equal
same_list xs ys e = rw e (list_self ys)

pub then_by : (a b c : Ordering) → a ≡ Equal → b ≡ c → ordering_then a b ≡ c
then_by a b c e f = rw (e, f) refl

then_first : (a b : Ordering) → a ≡ Less → ordering_then a b ≡ Less
then_first a b e = rw e refl

pre_self : (p : List ℕ) → pre_cmp p p ≡ Equal
pre_self = tied_itself pre_total

pub same_pre : (p q : List ℕ) → p ≡ q → pre_cmp p q ≡ Equal
same_pre p q e = rw e (pre_self q)

-- ---- versions

pub rank_total : IsTotalOrder rank_cmp
rank_total =
    then_total (on_total (λ (v : Version). numbers_by v.class v.text) nat_list_cmp_total)
    (on_total (λ (v : Version). pre_by v.class v.text) pre_total)

pub date_rank : (v w : Version) → v.class ≡ plain.date → w.class ≡ plain.date
    → rank_cmp v w ≡ ordering_then (slice_cmp nat_cmp (day_of v.text) (day_of w.text))
    (slice_cmp nat_cmp (later_numbers v.text) (later_numbers w.text))
date_rank v w p q =
    rw (p, q) (then_Equal _
    ∙ slice_cmp-append (day_of v.text) (day_of w.text) (later_numbers v.text)
    (later_numbers w.text) refl)

pub date_parts : (v w : Version) → v.class ≡ plain.date → w.class ≡ plain.date
    → rank_cmp v w ≡ Equal
    → (day_of v.text ≡ day_of w.text) × (later_numbers v.text ≡ later_numbers w.text)
date_parts v w p q e =
    let both = then_same _ _ (sym (date_rank v w p q) ∙ e) in
    (list_anti _ _ both.0, list_anti _ _ both.1)

pub data Ordered (v w : Version) : Type 0 where
  lower : v.class ≡ w.class → rank_cmp v w ≡ Less → Ordered v w
  tied : v.class ≡ w.class → rank_cmp v w ≡ Equal → v.text ≡ w.text → v.port ≤ w.port → Ordered v w

pub ordered_from : (v w : Version) → AtMost v w → Ordered v w
ordered_from v w (less_numbers b l) =
    lower (b.first ∙ sym b.second) (rw (b.first, b.second, less_to _ _ l) refl)
ordered_from v w (lower_pre b n p) =
    lower (b.first ∙ sym b.second) (rw (b.first, b.second, n, list_self (numbers_of w)) p)
ordered_from v w (same_dotted b n p t le) =
    tied (b.first ∙ sym b.second)
    (rw (b.first, b.second, n, p, list_self (numbers_of w), pre_self (pre_of w)) refl) t le
ordered_from v w (earlier_day b l) =
    lower (b.first ∙ sym b.second) (date_rank v w b.first b.second ∙ then_first _ _ (less_to _ _ l))
ordered_from v w (less_later b d l) =
    lower (b.first ∙ sym b.second)
    (date_rank v w b.first b.second ∙ then_by _ _ _ (same_list _ _ d) (less_to _ _ l))
ordered_from v w (same_date b d l t le) =
    tied (b.first ∙ sym b.second)
    (date_rank v w b.first b.second ∙ then_by _ _ _ (same_list _ _ d) (same_list _ _ l)) t le
ordered_from v w (same_string b t le) =
    tied (b.first ∙ sym b.second) (rw (b.first, b.second) refl) t le

from_lower : (c : Class) (v w : Version) → v.class ≡ c → w.class ≡ c → rank_cmp v w ≡ Less
    → AtMost v w
from_lower plain.dot v w p q e =
    elim (then_less (slice_cmp nat_cmp (numbers_of v) (numbers_of w))
    (pre_cmp (pre_of v) (pre_of w)) (rw (p, q) at e)) [
      | inl n ↦ less_numbers (record { first = p; second = q }) (less_from _ _ n)
      | inr b ↦ lower_pre (record { first = p; second = q }) (list_anti _ _ b.0) b.1
    ]
from_lower plain.date v w p q e =
    elim (then_less _ _ (sym (date_rank v w p q) ∙ e)) [
      | inl n ↦ earlier_day (record { first = p; second = q }) (less_from _ _ n)
      | inr b ↦
          less_later (record { first = p; second = q }) (list_anti _ _ b.0) (less_from _ _ b.1)
    ]
from_lower plain.text v w p q e = (let clash = rw (p, q) at e in (cc))

from_tied : (c : Class) (v w : Version) → v.class ≡ c → w.class ≡ c → rank_cmp v w ≡ Equal
    → v.text ≡ w.text → v.port ≤ w.port → AtMost v w
from_tied plain.dot v w p q e t le =
    same_dotted (record { first = p; second = q }) (rw t refl) (rw t refl) t le
from_tied plain.date v w p q e t le =
    let both = date_parts v w p q e in
    same_date (record { first = p; second = q }) both.0 both.1 t le
from_tied plain.text v w p q e t le = same_string (record { first = p; second = q }) t le

pub ordered_to : (v w : Version) → Ordered v w → AtMost v w
ordered_to v w (lower c r) = from_lower w.class v w c refl r
ordered_to v w (tied c r t le) = from_tied w.class v w c refl r t le

-- ---- laws

pub AtMost-refl : (v : Version) → AtMost v v
AtMost-refl v = from_tied v.class v v refl refl (tied_itself rank_total v) refl (omega arith)

ordered_trans : (u v w : Version) → Ordered u v → Ordered v w → Ordered u w
ordered_trans u v w (lower c r) (lower d s) = lower (c ∙ d) (rank_total.trans u v w r s)
ordered_trans u v w (lower c r) (tied d s t le) =
    lower (c ∙ d) (sym (alike_right rank_total v w u s) ∙ r)
ordered_trans u v w (tied c r t le) (lower d s) = lower (c ∙ d) (rank_total.congr u v w r ∙ s)
ordered_trans u v w (tied c r t le) (tied d s t2 le2) =
    tied (c ∙ d) (rank_total.congr u v w r ∙ s) (t ∙ t2) (omega arith)

pub AtMost-trans : (u v w : Version) → AtMost u v → AtMost v w → AtMost u w
AtMost-trans u v w h k =
    ordered_to u w (ordered_trans u v w (ordered_from u v h) (ordered_from v w k))
