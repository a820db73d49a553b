-- The order of facts is that of their keys.
use Rattle.std.proofs.Common.{◌≡◌, ◌<◌, ℕ, List, [], ◌∷◌, inl, inr, refl, ap, sym, ◌∙◌, subst}
use Rattle.std.specs.Ordering.{nat_cmp, ordering_then, MatchOrdering}
use Rattle.std.specs.declared.cmp.Ordering.{Ordering}
use Rattle.std.specs.declared.cmp.Ordering.TheVariants.{Less, Equal, Greater}
use Rattle.std.specs.Cmp.{ranks, nat_cmp_is, tied_itself}
use Rattle.std.specs.Cmp.Lexicographic.{slice_cmp}
use Rattle.std.specs.FinMap.{slice_cmp-IsAntisymmetric, nat_cmp-IsAntisymmetric}
use Rattle.std.proofs.lemmas.Cmp.{nat_list_cmp_total}
use Rattle.vk_spec.specs.Versions.{Ask}
use Rattle.vk_spec.specs.Settings.{Instance}
use Rattle.vk_resolution.specs.Keys.{Key, key_cmp}
use Rattle.vk_resolution.specs.Settings.{root, inst}
use Rattle.vk_resolution.specs.Asking.{Fact, need, floor, visit, fact_key}
use Rattle.vk_resolution.specs.FactOrder.{IsTextBefore, BeforeOrThen, IsAskBefore, InstanceBeforeOrThen, FactComesBefore, need_before_floor, need_before_visit, floor_before_visit, root_before_instance, of_root, of_instances, of_floors, of_visits, FactsComeInOrder}

-- a key's first part, and then the others
module _ {Then : Type 0} (k l : Key) where
  first_by : (to : key_cmp k l ≡ Less → Then) (f g : List ℕ) (o : Ordering) → slice_cmp nat_cmp f g ≡ o → ordering_then o (key_cmp k l) ≡ Less → BeforeOrThen f g Then
  first_by to f g Less e h = inl e
  first_by to f g Equal e h = inr (slice_cmp-IsAntisymmetric nat_cmp-IsAntisymmetric f g e, to h)
  first_by to f g Greater e h = (cc)

  first_is : (to : key_cmp k l ≡ Less → Then) (f g : List ℕ) → key_cmp (f ∷ k) (g ∷ l) ≡ Less → BeforeOrThen f g Then
  first_is to f g h = first_by to f g (slice_cmp nat_cmp f g) refl h

  is_first : (from : Then → key_cmp k l ≡ Less) (f g : List ℕ) → BeforeOrThen f g Then → key_cmp (f ∷ k) (g ∷ l) ≡ Less
  is_first from f g (inl e) = ap (λ o. ordering_then o (key_cmp k l)) e
  is_first from f g (inr (same, rest)) = ap (λ o. ordering_then o (key_cmp k l)) (ap (slice_cmp nat_cmp f) (sym same) ∙ tied_itself nat_list_cmp_total f) ∙ from rest

-- a last part that is a text
last_by : (o : Ordering) → ordering_then o Equal ≡ Less → o ≡ Less
last_by Less h = refl
last_by Equal h = (cc)
last_by Greater h = (cc)

last_is : (f g : List ℕ) → key_cmp (f ∷ []) (g ∷ []) ≡ Less → IsTextBefore f g
last_is f g h = last_by (slice_cmp nat_cmp f g) h

is_last : (f g : List ℕ) → IsTextBefore f g → key_cmp (f ∷ []) (g ∷ []) ≡ Less
is_last f g e = ap (λ o. ordering_then o Equal) e

-- a last part that is a number
number_is : (m n : ℕ) → key_cmp ((m ∷ []) ∷ []) ((n ∷ []) ∷ []) ≡ Less → m < n
number_is m n h = subst (λ o. MatchOrdering o (m < n) (m ≡ n) (n < m)) (last_by (nat_cmp m n) (last_is (m ∷ []) (n ∷ []) h)) (ranks m n)

is_number : (m n : ℕ) → m < n → key_cmp ((m ∷ []) ∷ []) ((n ∷ []) ∷ []) ≡ Less
is_number m n h = ap (λ o. ordering_then (ordering_then o Equal) Equal) (sym (nat_cmp_is m n Less h))

abbrev ask_key : Ask → Key
ask_key a = a.text ∷ (a.port ∷ []) ∷ []

ask_is : (a b : Ask) → key_cmp (ask_key a) (ask_key b) ≡ Less → IsAskBefore a b
ask_is a b h = first_is ((a.port ∷ []) ∷ []) ((b.port ∷ []) ∷ []) (number_is a.port b.port) a.text b.text h

is_ask : (a b : Ask) → IsAskBefore a b → key_cmp (ask_key a) (ask_key b) ≡ Less
is_ask a b h = is_first ((a.port ∷ []) ∷ []) ((b.port ∷ []) ∷ []) (is_number a.port b.port) a.text b.text h

module _ {Then : Type 0} (k l : Key) (i j : Instance) where
  instance_is : (key_cmp k l ≡ Less → Then) → key_cmp (i.port ∷ i.triplet ∷ k) (j.port ∷ j.triplet ∷ l) ≡ Less → InstanceBeforeOrThen i j Then
  instance_is to h = first_is (i.triplet ∷ k) (j.triplet ∷ l) (first_is k l to i.triplet j.triplet) i.port j.port h

  is_instance : (Then → key_cmp k l ≡ Less) → InstanceBeforeOrThen i j Then → key_cmp (i.port ∷ i.triplet ∷ k) (j.port ∷ j.triplet ∷ l) ≡ Less
  is_instance from h = is_first (i.triplet ∷ k) (j.triplet ∷ l) (is_first k l from i.triplet j.triplet) i.port j.port h

before_is : (x y : Fact) → key_cmp (fact_key x) (fact_key y) ≡ Less → FactComesBefore x y
before_is (need (root t) f) (need (root u) g) h = of_root t f u g (first_is (f ∷ []) (g ∷ []) (last_is f g) t u h)
before_is (need (root t) f) (need (inst j) g) h = root_before_instance t f j g
before_is (need (root t) f) (floor q b) h = need_before_floor (root t) f q b
before_is (need (root t) f) (visit j g b) h = need_before_visit (root t) f j g b
before_is (need (inst i) f) (need (root u) g) h = (cc)
before_is (need (inst i) f) (need (inst j) g) h = of_instances i f j g (instance_is (f ∷ []) (g ∷ []) i j (last_is f g) h)
before_is (need (inst i) f) (floor q b) h = need_before_floor (inst i) f q b
before_is (need (inst i) f) (visit j g b) h = need_before_visit (inst i) f j g b
before_is (floor p a) (need (root u) g) h = (cc)
before_is (floor p a) (need (inst j) g) h = (cc)
before_is (floor p a) (floor q b) h = of_floors p a q b (first_is (ask_key a) (ask_key b) (ask_is a b) p q h)
before_is (floor p a) (visit j g b) h = floor_before_visit p a j g b
before_is (visit i f a) (need (root u) g) h = (cc)
before_is (visit i f a) (need (inst j) g) h = (cc)
before_is (visit i f a) (floor q b) h = (cc)
before_is (visit i f a) (visit j g b) h = of_visits i f a j g b (instance_is (f ∷ ask_key a) (g ∷ ask_key b) i j (first_is (ask_key a) (ask_key b) (ask_is a b) f g) h)

is_before : (x y : Fact) → FactComesBefore x y → key_cmp (fact_key x) (fact_key y) ≡ Less
is_before _ _ (need_before_floor (root t) f p a) = refl
is_before _ _ (need_before_floor (inst i) f p a) = refl
is_before _ _ (need_before_visit (root t) f i g a) = refl
is_before _ _ (need_before_visit (inst j) f i g a) = refl
is_before _ _ (floor_before_visit p a i f b) = refl
is_before _ _ (root_before_instance t f i g) = refl
is_before _ _ (of_root t f u g h) = is_first (f ∷ []) (g ∷ []) (is_last f g) t u h
is_before _ _ (of_instances i f j g h) = is_instance (f ∷ []) (g ∷ []) i j (is_last f g) h
is_before _ _ (of_floors p a q b h) = is_first (ask_key a) (ask_key b) (is_ask a b) p q h
is_before _ _ (of_visits i f a j g b h) = is_instance (f ∷ ask_key a) (g ∷ ask_key b) i j (is_first (ask_key a) (ask_key b) (is_ask a b) f g) h

pub facts_come_in_order : FactsComeInOrder
facts_come_in_order x y = (before_is x y, is_before x y)
