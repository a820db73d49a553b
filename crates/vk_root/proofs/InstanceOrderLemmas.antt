-- Instances in order.
use Rattle.std.proofs.Common.{◌≡◌, List, [], ◌∷◌, inl, inr, refl, ap, ◌∙◌, subst, rules}
use Rattle.std.specs.declared.cmp.Ordering.{Ordering}
use Rattle.std.specs.declared.cmp.Ordering.TheVariants.{Less, Equal, Greater}
use Rattle.std.specs.Ordering.{nat_cmp, on, then_cmp, ordering_then, eq_by_cmp}
use Rattle.std.specs.Cmp.{IsTotalOrder, IsEquivalence}
use Rattle.std.specs.Cmp.Rules.{comparing}
use Rattle.std.specs.Cmp.Lexicographic.{slice_cmp}
use Rattle.std.specs.List.{Contains, AllByRecursion}
use Rattle.std.specs.List.Sorted.{IsStrictlySortedBy}
use Rattle.std.proofs.lemmas.Map.Keys.{sorted_head, sorted_tail}
use Rattle.vk_spec.proofs.ListLemmas.{contains_nothing, contains_cases}
use Rattle.vk_resolution.specs.Keys.{key_cmp, Ascends}
use Rattle.vk_resolution.specs.Planning.{instance_key}
use Rattle.vk_resolution.proofs.Members.{contains_map}
use Rattle.vk_base.specs.declared.instances.Instance.{Instance}
use Rattle.vk_model.specs.SettingViews.{instance_view}
use Rattle.vk_root.specs.Offs.{is_same}
use Rattle.vk_root.specs.NamedInstances.{instances_view}

-- the order of instances, and their equality
abbrev pub instance_order : Instance → Instance → Ordering
instance_order = then_cmp (on (λ i. i.port) (slice_cmp nat_cmp)) (on (λ i. i.triplet) (slice_cmp nat_cmp))

pub order_total : IsTotalOrder instance_order
order_total = Prim.search (comparing, rules)

pub order_ties : (i j : Instance) → is_same i j ≡ eq_by_cmp instance_order i j
order_ties = Prim.search (comparing, rules)

pub same_equivalence : IsEquivalence is_same
same_equivalence = Prim.search (comparing, rules)

then_nothing : (o : Ordering) → ordering_then o Equal ≡ o
then_nothing Less = refl
then_nothing Equal = refl
then_nothing Greater = refl

-- it is that of their keys
key_order : (i j : Instance) → key_cmp (instance_key (instance_view i)) (instance_key (instance_view j)) ≡ instance_order i j
key_order i j = ap (ordering_then (slice_cmp nat_cmp i.port j.port)) (then_nothing (slice_cmp nat_cmp i.triplet j.triplet))

holds_of : (P : Instance → Type 0) (is : List Instance) → AllByRecursion P is → (i : Instance) → Contains is i → P i
holds_of P [] each i h = absurd (contains_nothing i h)
holds_of P (k ∷ is) each i h = elim (contains_cases k i is h) [ inl same ↦ subst P same each.0 | inr later ↦ holds_of P is each.1 i later ]

-- a list in that order, each instance once, ascends by its keys
pub sorted_ascends : (is : List Instance) → IsStrictlySortedBy instance_order is → Ascends instance_key (instances_view is)
sorted_ascends [] sorted = tt
sorted_ascends (i ∷ is) sorted = (
  (λ j h. (
      let k = contains_map instance_view is j h in
      subst (λ l. key_cmp (instance_key (instance_view i)) (instance_key l) ≡ Less) k.2 (key_order i k.0 ∙ holds_of (λ l. instance_order i l ≡ Less) is (sorted_head instance_order i is sorted) k.0 k.1)
      )),
  sorted_ascends is (sorted_tail instance_order i is sorted),
)
