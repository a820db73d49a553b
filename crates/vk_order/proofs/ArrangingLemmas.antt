-- Items as they are and as contracts see them.
use Rattle.std.proofs.Common.{◌≡◌, ◌<◌, ℕ, zero, suc, List, [], ◌∷◌, ◌++◌, length, map, take, get_or, inl, inr, refl, ap, sym, ◌∙◌, subst, arith}
use Rattle.std.specs.Prelude.{Option, Some, slice_get, Result, Ok, Err, IfOk}
use Rattle.std.specs.List.{Contains}
use Rattle.std.proofs.lemmas.List.{length-map, take_at}
use Rattle.std.proofs.lemmas.List.Elements.{Contains-get_or}
use Rattle.vk_spec.proofs.ListLemmas.{contains_nothing, contains_cases}
use Rattle.vk_spec.specs.Settings as plain
use Rattle.vk_resolution.specs.Planning.{order_of, IsCycle}
use Rattle.vk_resolution.specs.PlannedSets.{edges_of, IsOrdered}
use Rattle.vk_base.specs.declared.instances.Instance.{Instance}
use Rattle.vk_model.specs.declared.plans.Item.{Item}
use Rattle.vk_model.specs.SettingViews.{instance_view}
use Rattle.vk_model.specs.FaultViews.{item_view}
use Rattle.vk_order.specs.Sets.{AreItems}
use Rattle.vk_order.specs.Needs.{listed_at, needs_of, ArePlaces}
use Rattle.vk_order.specs.Peeling.{AreHeights}
use Rattle.vk_order.specs.Ways.{AreOnNone, GoesOn, IsFoundWalk}
use Rattle.vk_order.specs.Moves.{IsHeightOrder}
use Rattle.vk_order.specs.declared.orders.Arrangement.{Arrangement}
use Rattle.vk_order.specs.declared.orders.Arrangement.TheVariants as arrangement
use Rattle.vk_order.specs.Arranging.{name_at, ArePlaced, IsArranged, IsInOrder, IsTold, AreSameBut}
use Rattle.vk_order.proofs.NumberLemmas.{needs_long, below_at}
use Rattle.vk_order.proofs.EdgeLemmas.{needs_in, need_within, cycle_found}
use Rattle.vk_order.proofs.OrderedLemmas.{moved_view, ordered}

pub view_name : (items : List Item) (k : ℕ) (d : Item) → k < length items → instance_view (get_or items k d).inst ≡ name_at (order_of (map item_view items)) k
view_name [] k d within = absurd (omega arith)
view_name (x ∷ xs) zero d within = refl
view_name (x ∷ xs) (suc k) d within = view_name xs k d (omega arith)

pub view_copy : (items : List Item) (k : ℕ) (d : Item) (copy : Instance) → k < length items → copy.port ≡ (get_or items k d).inst.port → copy.triplet ≡ (get_or items k d).inst.triplet → instance_view copy ≡ name_at (order_of (map item_view items)) k
view_copy items k d copy within port triplet =
    let same : instance_view copy ≡ instance_view (get_or items k d).inst = λ i. record { port = port i; triplet = triplet i } in
    same ∙ view_name items k d within

needs_viewed : (items : List Item) → needs_in (map item_view items) ≡ needs_of items
needs_viewed [] = refl
needs_viewed (x ∷ xs) = ap (λ l. x.needs ∷ l) (needs_viewed xs)

pub places_viewed : (items : List Item) → AreItems (map item_view items) → ArePlaces (needs_of items)
places_viewed items are k n h =
    let within : n < length (map item_view items) = need_within (map item_view items) are k n (subst (λ l. Contains (listed_at l k) n) (sym (needs_viewed items)) h) in
    let one : length (map item_view items) ≡ length items = length-map items item_view in
    let two : length (needs_of items) ≡ length items = needs_long items in
    omega arith

goes_within : (needs : List (List ℕ)) → ArePlaces needs → (lengths : List (Option ℕ)) (first k : ℕ) (js : List ℕ) → GoesOn needs lengths first k js → (n : ℕ) → Contains js n → n < length needs
goes_within needs places lengths first k [] goes n h = absurd (contains_nothing n h)
goes_within needs places lengths first k (j ∷ js) goes n h = elim (contains_cases j n js h) [
  | inl same ↦ places k n (subst (Contains (listed_at needs k)) same goes.1.needed)
  | inr later ↦ goes_within needs places lengths first j js goes.2 n later
]

found_within : (needs : List (List ℕ)) → ArePlaces needs → (heights : List (Option ℕ)) (walk : List ℕ) → IsFoundWalk needs heights walk → (n : ℕ) → Contains walk n → n < length needs
found_within needs places heights [] found n h = absurd found
found_within needs places heights (first ∷ rest) found n h = elim (contains_cases first n rest h) [
  | inl same ↦ subst (λ m. m < length needs) same found.within
  | inr later ↦ goes_within needs places found.lengths first first rest found.walk n later
]

pub walk_places : (needs : List (List ℕ)) (heights : List (Option ℕ)) (walk named : List ℕ) (count : ℕ) → ArePlaces needs → IsFoundWalk needs heights walk → length needs ≡ count → named ≡ walk → (i d : ℕ) → i < length named → get_or named i d < count
walk_places needs heights walk named count places found size same i d within =
    subst (λ m. get_or named i d < m) size (found_within needs places heights walk found (get_or named i d) (subst (λ l. Contains l (get_or named i d)) same (Contains-get_or named i d within)))

pub order_places : (heights : List (Option ℕ)) (order named : List ℕ) → IsHeightOrder heights order → named ≡ order → (i d : ℕ) → i < length named → get_or named i d < length named
order_places heights order named is same i d within =
    subst (λ l. (i d : ℕ) → i < length l → get_or l i d < length l) (sym same) (λ i d low. subst (λ m. get_or order i d < m) (sym is.long) (is.only (get_or order i d) (Contains-get_or order i d low))) i d within

pub told_cycle : (items : List Item) → AreItems (map item_view items) → (told : List plain.Instance) → IsTold (needs_of items) (order_of (map item_view items)) told → IsCycle (edges_of (map item_view items)) (order_of (map item_view items)) told
told_cycle items are told is =
    let there : IsTold (needs_in (map item_view items)) (order_of (map item_view items)) told = subst (λ l. IsTold l (order_of (map item_view items)) told) (sym (needs_viewed items)) is in
    subst (IsCycle (edges_of (map item_view items)) (order_of (map item_view items))) (sym there.told_is) (cycle_found (map item_view items) are there.heights there.are there.walk there.found)

module _ (items before : List Item) (order places : List ℕ) (are : AreItems (map item_view items)) (is : IsInOrder (needs_of items) order places) (same : before ≡ items) where
  places_long : length (needs_of items) ≡ length places
  places_long = sym (is.places_are.long ∙ is.order_is.long ∙ is.are.right.long)

  pub moved_below : (k i d : ℕ) → i < length (listed_at (needs_of before) k) → get_or (listed_at (needs_of before) k) i d < length places
  moved_below k i d within = below_at (needs_of items) k (length places) (listed_at (needs_of before) k) (ap (λ l. listed_at (needs_of l) k) same) (places_viewed items are) places_long i d within

  module _ (after past : List Item) (n : ℕ) (size : length before ≡ n) (but : AreSameBut places (map item_view before) (map item_view after)) where
    after_long : length after ≡ length before
    after_long = sym (length-map after item_view) ∙ but.long ∙ length-map before item_view

    written : take n (after ++ past) ≡ after
    written = take_at after past n (after_long ∙ size)

    pub moved_places : (i d : ℕ) → i < length order → get_or order i d < length (take n (after ++ past))
    moved_places i d within =
        let listed : get_or order i d < length is.heights = is.order_is.only (get_or order i d) (Contains-get_or order i d within) in
        let one : length is.heights ≡ length (needs_of items) = is.are.right.long in
        let two : length (needs_of items) ≡ length items = needs_long items in
        let three : length before ≡ length items = ap length same in
        let four : length (take n (after ++ past)) ≡ length after = ap length written in
        let five : length after ≡ length before = after_long in
        omega arith

    pub moved_ordered : (moved plan : List Item) → map Some moved ≡ map (slice_get (take n (after ++ past))) order → plan ≡ moved → IsOrdered (map item_view items) (map item_view plan)
    moved_ordered moved plan taken put =
        let from : map Some moved ≡ map (slice_get after) order = taken ∙ ap (λ l. map (slice_get l) order) written in
        subst (λ l. IsOrdered (map item_view items) (map item_view l)) (sym put)
        (ordered (map item_view items) are order places (subst (λ l. IsInOrder l order places) (sym (needs_viewed items)) is) (map item_view after) (map item_view moved)
        (subst (λ l. AreSameBut places (map item_view l) (map item_view after)) same but) (moved_view item_view after moved order from))

-- places by height are an arrangement, where nothing is on a cycle
placed_is : (items : List Item) (heights : List (Option ℕ)) → AreHeights (needs_of items) heights → AreOnNone (needs_of items) heights → (a : Arrangement) → ArePlaced heights a → IsArranged items a
placed_is items heights are none (arrangement.Order order places) placed = record { heights = heights; are = are; none = none; order_is = placed.0; places_are = placed.1 }
placed_is items heights are none (arrangement.Cycle walk) placed = absurd placed

pub placed_on : {E : Type 0} (items : List Item) (heights : List (Option ℕ)) → AreHeights (needs_of items) heights → AreOnNone (needs_of items) heights → (result : Result Arrangement E) → IfOk result (ArePlaced heights) → IfOk result (IsArranged items)
placed_on items heights are none (Ok a) placed = placed_is items heights are none a placed
placed_on items heights are none (Err e) placed = tt
