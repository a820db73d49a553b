-- Instances in order, and their places.
use Rattle.std.proofs.Common.{◌≡◌, ◌<◌, ◌+◌, ℕ, Bool, true, false, cond, List, [], ◌∷◌, ◌++◌, length, take, get_or, map, refl, ap, ap₂, sym, ◌∙◌, subst}
use Rattle.std.specs.Prelude.{Some, None, flat_map, position, not, nat_lt}
use Rattle.std.specs.List.{Contains, IsDistinct, AllByRecursion, dedup, dedup_from, list_any, prefix_len}
use Rattle.std.specs.List.Sorted.{IsSorted, IsPermutation, IsStrictlySortedBy}
use Rattle.std.proofs.lemmas.List.{append_assoc, append-nil, length-map, map-append, take_more}
use Rattle.std.proofs.lemmas.List.Kept.{IsStrictlySortedBy-dedup}
use Rattle.std.proofs.lemmas.List.Sorted.{Contains-permutation, IsPermutation-sym}
use Rattle.indexmap.specs.IndexSet.{insert_key}
use Rattle.indexmap.proofs.CallerLemmas.{Contains-list_any}
use Rattle.vk_resolution.specs.Keys.{in_order}
use Rattle.vk_resolution.specs.Planning.{instance_key}
use Rattle.vk_resolution.specs.Asking as plain
use Rattle.vk_resolution.proofs.Members.{contains_map, map_contains, no_is_false, true_false}
use Rattle.vk_resolution.proofs.FactLemmas.{instance_key-IsKey, same_instance-Decides}
use Rattle.vk_spec.specs.Settings as plain_instance
use Rattle.vk_base.specs.declared.instances.Instance.{Instance}
use Rattle.vk_model.specs.SettingViews.{instance_view}
use Rattle.vk_root.specs.Offs.{is_same}
use Rattle.vk_root.proofs.OffSetLemmas.{same_is}
use Rattle.vk_root.proofs.InstanceOrderLemmas.{instance_order, order_total, order_ties, sorted_ascends}
use Rattle.vk_planset.specs.Members.{HasMore, HaveSame}
use Rattle.vk_planset.proofs.MemberLemmas.{ascending_is, known_more, more_last}

-- ---- one instance more

put_by : (ks : List Instance) (i : Instance) (b : Bool) → list_any (is_same i) ks ≡ b → HasMore (map instance_view ks) (instance_view i ∷ []) (map instance_view (cond b ks (ks ++ i ∷ [])))
put_by ks i true e = known_more (map instance_view ks) (instance_view i) (map_contains instance_view ks i (Contains-list_any is_same same_is ks i e))
put_by ks i false e = subst (HasMore (map instance_view ks) (instance_view i ∷ [])) (sym (map-append instance_view ks (i ∷ []))) (more_last (map instance_view ks) (instance_view i))

pub put_more : (ks new : List Instance) (i : Instance) → new ≡ insert_key is_same ks i → HasMore (map instance_view ks) (instance_view i ∷ []) (map instance_view new)
put_more ks new i e = subst (λ l. HasMore (map instance_view ks) (instance_view i ∷ []) (map instance_view l)) (sym e) (put_by ks i (list_any (is_same i) ks) refl)

-- ---- what needs give, one need more

push_flat : {X Y : Type 0} (f : X → List Y) (xs : List X) (y : X) → flat_map f (xs ++ y ∷ []) ≡ flat_map f xs ++ f y
push_flat f [] y = append-nil (f y)
push_flat f (x ∷ xs) y = ap (λ l. f x ++ l) (push_flat f xs y) ∙ sym (append_assoc (f x) (flat_map f xs) (f y))

pub taken_more : {A X Y : Type 0} (view : A → X) (f : X → List Y) (xs : List A) (n : ℕ) (x : A) → n < length xs → x ≡ get_or xs n x → flat_map f (map view (take (n + 1) xs)) ≡ flat_map f (map view (take n xs)) ++ f (view x)
taken_more view f xs n x within at =
    ap (λ l. flat_map f (map view l)) (take_more xs n x within ∙ ap (λ y. take n xs ++ y ∷ []) (sym at))
    ∙ ap (flat_map f) (map-append view (take n xs) (x ∷ []))
    ∙ push_flat f (map view (take n xs)) (view x)

-- ---- in order

turned_same : (i j : Instance) → is_same i j ≡ false → is_same j i ≡ false
turned_same i j e = no_is_false (is_same j i) (λ h. true_false (is_same i j) ((same_instance-Decides (instance_view i) (instance_view j)).1 (sym (ap instance_view (same_is j i h)))) e)

dedup_step : (k : Instance) (is : List Instance) → AllByRecursion (λ j. is_same k j ≡ false) is → IsDistinct is_same is → dedup_from is_same k is ≡ k ∷ is
unfolding IsDistinct
dedup_step k [] apart distinct = refl
dedup_step k (i ∷ is) apart distinct = ap (λ b. cond b (dedup_from is_same k is) (k ∷ dedup_from is_same i is)) (turned_same k i apart.0) ∙ ap (λ l. k ∷ l) (dedup_step i is distinct.0 distinct.1)

-- distinct instances stay when those that repeat the one before fall away
dedup_distinct : (is : List Instance) → IsDistinct is_same is → dedup is_same is ≡ is
unfolding IsDistinct
dedup_distinct [] distinct = refl
dedup_distinct (i ∷ is) distinct = dedup_step i is distinct.0 distinct.1

-- a set that has the instances of needs, sorted, is their order
pub order_is : (f : plain.Fact → List plain_instance.Instance) (xs : List plain.Fact) (set sorted : List Instance) → HaveSame (map instance_view set) (flat_map f xs) → IsPermutation set sorted → IsSorted instance_order sorted → IsDistinct is_same sorted → map instance_view sorted ≡ in_order instance_key (flat_map f xs)
order_is f xs set sorted same moved sorted_is distinct =
    ascending_is instance_key instance_key-IsKey (map instance_view sorted) (flat_map f xs)
    (sorted_ascends sorted (subst (IsStrictlySortedBy instance_order) (dedup_distinct sorted distinct) (IsStrictlySortedBy-dedup order_total order_ties sorted sorted_is)))
    (record {
      to = λ i h. (let r = contains_map instance_view sorted i h in same.to i (subst (Contains (map instance_view set)) r.2 (map_contains instance_view set r.0 (Contains-permutation sorted set r.0 (IsPermutation-sym set sorted moved) r.1))));
      from = λ i h. (let r = contains_map instance_view set i (same.from i h) in subst (Contains (map instance_view sorted)) r.2 (map_contains instance_view sorted r.0 (Contains-permutation set sorted r.0 moved r.1)));
    })

-- ---- places

prefix_view : {X Y : Type 0} (view : X → Y) (test : Y → Bool) (ks : List X) → prefix_len (λ k. not (test (view k))) ks ≡ prefix_len (λ i. not (test i)) (map view ks)
prefix_view view test [] = refl
prefix_view view test (k ∷ ks) = ap (λ n. cond (not (test (view k))) (1 + n) 0) (prefix_view view test ks)

pub position_view : {X Y : Type 0} (view : X → Y) (test : Y → Bool) (ks : List X) → position (λ k. test (view k)) ks ≡ position test (map view ks)
position_view view test ks = ap₂ (λ m n. cond (nat_lt m n) (Some m) None) (prefix_view view test ks) (sym (length-map ks view))
