-- The items of instances and their seats.
use Rattle.std.proofs.Common.{◌≡◌, ◌<◌, ◌≤◌, ◌+◌, ℕ, zero, suc, Bool, true, false, cond, ◌++◌, List, [], ◌∷◌, length, map, filter, inl, inr, refl, ap, ap₂, sym, ◌∙◌, subst, arith}
use Rattle.std.specs.Prelude.{Option, Some, None, is_some, slice_get, flat_map, bytes_eq}
use Rattle.std.specs.Map.{lookup}
use Rattle.std.specs.List.{Contains, zip}
use Rattle.std.specs.declared.cmp.Ordering.{Ordering}
use Rattle.std.specs.declared.cmp.Ordering.TheVariants.{Less, Equal, Greater}
use Rattle.std.proofs.lemmas.List.{length-map, length-append}
use Rattle.std.proofs.lemmas.Option.{slice_get_within}
use Rattle.vk_spec.specs.Settings.{Instance}
use Rattle.vk_spec.proofs.ListLemmas.{contains_nothing, contains_first, contains_later, contains_cases, contains-flat_map}
use Rattle.vk_resolution.specs.Keys.{Key, key_cmp, put_by, put_in, in_order, Ascends}
use Rattle.vk_resolution.specs.Settings.{root, inst}
use Rattle.vk_resolution.specs.Asking.{Fact, need, floor, visit}
use Rattle.vk_resolution.specs.Planning as plain
use Rattle.vk_resolution.specs.Planning.{Item, instance_key, needed_in}
use Rattle.vk_resolution.proofs.Members.{contains_single, contains_filter}
use Rattle.vk_resolution.proofs.Orders.{contains-in_order, in_order-ascends}
use Rattle.vk_base.specs.declared.instances.Instance as code
use Rattle.vk_model.specs.SettingViews.{instance_view}
use Rattle.vk_choices.specs.declared.chosen.Choice.{Choice}
use Rattle.vk_order.specs.Sets.{AreItems}
use Rattle.vk_planset.specs.declared.seats.Seat.{Seat}
use Rattle.vk_planset.specs.Members.{number_key}
use Rattle.vk_planset.specs.Places.{has_choice, chosen_in, seat_order, place_of}
use Rattle.vk_planset.specs.Seats.{AreSeats, needs_of_seat, seated_features, seated_needs}
use Rattle.vk_planset.specs.Items.{made, made_by, made_of, made_all}
use Rattle.vk_planset.specs.Assembled.{AreAssembled}
use Rattle.vk_planset.proofs.PlaceLemmas.{linked_is, place_is}

pub assembled_are : (choices : List (List ℕ × Choice)) (needs ns : List Fact) (edges es : List (ℕ × ℕ)) (order : List code.Instance) (seats ss : List Seat) (items : List Item)
    → ns ≡ needs → es ≡ edges → ss ≡ seats → map instance_view order ≡ seat_order choices ns
    → AreSeats (length order) (seated_features (map instance_view order) ns) (seated_needs (map (place_of (map instance_view order)) ns) es) seats
    → items ≡ made_all choices (map instance_view order) ss → AreAssembled choices needs edges items
assembled_are choices needs ns edges es order seats ss items is_needs is_edges is_seats is_order are made_is =
    let whole : map instance_view order ≡ seat_order choices needs = is_order ∙ ap (seat_order choices) is_needs in
    let long : length order ≡ length (map instance_view order) = sym (length-map order instance_view) in
    let there : (count : ℕ) → length order ≡ count → (o : List Instance) → map instance_view order ≡ o → AreSeats count (seated_features o needs) (seated_needs (map (place_of o) needs) edges) seats =
    λ count c o e. subst (λ n. AreSeats n (seated_features o needs) (seated_needs (map (place_of o) needs) edges) seats) c
    (subst (λ k. AreSeats (length order) (seated_features k needs) (seated_needs (map (place_of k) needs) edges) seats) e
    (subst (λ l. AreSeats (length order) (seated_features (map instance_view order) needs) (seated_needs (map (place_of (map instance_view order)) needs) l) seats) is_edges
    (subst (λ l. AreSeats (length order) (seated_features (map instance_view order) l) (seated_needs (map (place_of (map instance_view order)) l) es) seats) is_needs are))) in
    record {
      seats = seats;
      are_seats = there (length (seat_order choices needs)) (long ∙ ap length whole) (seat_order choices needs) whole;
      made = made_is ∙ ap₂ (made_all choices) whole is_seats;
    }

-- ---- each instance has an item

found_by : {X : Type 0} (o : Option X) → is_some o ≡ true → (x : X) × (o ≡ Some x)
found_by None e = (cc)
found_by (Some x) e = (x, refl)

-- the port of each instance in the order has a choice
pub order_found : (choices : List (List ℕ × Choice)) (needs : List Fact) (i : Instance) → Contains (seat_order choices needs) i → (c : Choice) × (lookup (bytes_eq i.port) choices ≡ Some c)
order_found choices needs i h =
    let r = contains-flat_map (chosen_in choices) needs i (contains-in_order instance_key (flat_map (chosen_in choices) needs) i h) in
    found_by (lookup (bytes_eq i.port) choices) (contains_filter (has_choice choices) (needed_in r.0) i r.2).1

made_order : (choices : List (List ℕ × Choice)) (is : List Instance) (ss : List Seat) → length ss ≡ length is → ((i : Instance) → Contains is i → (c : Choice) × (lookup (bytes_eq i.port) choices ≡ Some c)) → plain.order_of (made_all choices is ss) ≡ is
made_order choices [] ss long found = refl
made_order choices (i ∷ is) [] long found = absurd (omega (arith, long))
made_order choices (i ∷ is) (s ∷ ss) long found =
    let c = found i (contains_first i is) in
    let rest : length ss ≡ length is = omega (arith, long) in
    ap (λ o. plain.order_of (made_by i s o ++ made_all choices is ss)) c.1
    ∙ ap (λ l. i ∷ l) (made_order choices is ss rest (λ j h. found j (contains_later i j is h)))

-- an item is made of an instance and the seat at its place
pub record IsMade (choices : List (List ℕ × Choice)) (order : List Instance) (seats : List Seat) (item : Item) : Type 0 where
  pub place : ℕ
  pub instance : Instance
  pub seat : Seat
  pub choice : Choice
  pub at : slice_get order place ≡ Some instance
  pub seated : slice_get seats place ≡ Some seat
  pub found : lookup (bytes_eq instance.port) choices ≡ Some choice
  pub is : item ≡ made instance seat choice

made_one : (i : Instance) (s : Seat) (o : Option Choice) (item : Item) → Contains (made_by i s o) item → (c : Choice) × (o ≡ Some c) × (item ≡ made i s c)
made_one i s None item h = absurd (contains_nothing item h)
made_one i s (Some c) item h = (c, refl, sym (contains_single (made i s c) item h))

zip_place : {X Y : Type 0} (xs : List X) (ys : List Y) (e : X × Y) → Contains (zip xs ys) e → (n : ℕ) × (slice_get xs n ≡ Some e.0) × (slice_get ys n ≡ Some e.1)
zip_place [] ys e h = absurd (contains_nothing e h)
zip_place (x ∷ xs) [] e h = absurd (contains_nothing e h)
zip_place (x ∷ xs) (y ∷ ys) e h = elim (contains_cases (x, y) e (zip xs ys) h) [
  | inl same ↦ (zero, ap (λ k. Some k.0) same, ap (λ k. Some k.1) same)
  | inr later ↦ (let r = zip_place xs ys e later in (suc r.0, r.1, r.2))
]

pub item_made : (choices : List (List ℕ × Choice)) (order : List Instance) (seats : List Seat) (item : Item) → Contains (made_all choices order seats) item → IsMade choices order seats item
item_made choices order seats item h =
    let r = contains-flat_map (made_of choices) (zip order seats) item h in
    let z = zip_place order seats r.0 r.1 in
    let m = made_one r.0.0 r.0.1 (lookup (bytes_eq r.0.0.port) choices) item r.2 in
    record { place = z.0; instance = r.0.0; seat = r.0.1; choice = m.0; at = z.1; seated = z.2; found = m.1; is = m.2 }

-- ---- the items, whatever is told

put_long_by : {X : Type 0} (o : Ordering) (x y : X) (ys later : List X) → length later ≤ length ys + 1 → length (put_by o x y ys later) ≤ length (y ∷ ys) + 1
put_long_by Less x y ys later h = omega arith
put_long_by Equal x y ys later h = omega arith
put_long_by Greater x y ys later h = omega (arith, h)

put_long : {X : Type 0} (key : X → Key) (x : X) (ys : List X) → length (put_in key x ys) ≤ length ys + 1
put_long key x [] = omega arith
put_long key x (y ∷ ys) = put_long_by (key_cmp (key x) (key y)) x y ys (put_in key x ys) (put_long key x ys)

order_long : {X : Type 0} (key : X → Key) (xs : List X) → length (in_order key xs) ≤ length xs
order_long key [] = omega arith
order_long key (x ∷ xs) = let a = order_long key xs in let b = put_long key x (in_order key xs) in omega (arith, a, b)

needed_long : (x : Fact) → length (needed_in x) ≤ 1
needed_long (need (root t) f) = omega arith
needed_long (need (inst i) f) = omega arith
needed_long (floor p a) = omega arith
needed_long (visit i f a) = omega arith

filter_by : {X : Type 0} (b : Bool) (x : X) (kept : List X) (n : ℕ) → length kept ≤ n → length (cond b (x ∷ kept) kept) ≤ suc n
filter_by true x kept n h = omega (arith, h)
filter_by false x kept n h = omega (arith, h)

filter_long : {X : Type 0} (test : X → Bool) (xs : List X) → length (filter test xs) ≤ length xs
filter_long test [] = omega arith
filter_long test (x ∷ xs) = filter_by (test x) x (filter test xs) (length xs) (filter_long test xs)

instances_long : (choices : List (List ℕ × Choice)) (needs : List Fact) → length (flat_map (chosen_in choices) needs) ≤ length needs
instances_long choices [] = omega arith
instances_long choices (x ∷ needs) =
    let a = needed_long x in
    let b = filter_long (has_choice choices) (needed_in x) in
    let d = instances_long choices needs in
    let e = length-append (chosen_in choices x) (flat_map (chosen_in choices) needs) in
    omega (arith, a, b, d, e)

pub order_few : (choices : List (List ℕ × Choice)) (needs : List Fact) → length (seat_order choices needs) ≤ length needs
order_few choices needs = let a = order_long instance_key (flat_map (chosen_in choices) needs) in let b = instances_long choices needs in omega (arith, a, b)

module _ (choices : List (List ℕ × Choice)) (needs : List Fact) (edges : List (ℕ × ℕ)) (items : List Item) (are : AreAssembled choices needs edges items) where
  pub items_order : plain.order_of items ≡ seat_order choices needs
  items_order = ap plain.order_of are.made ∙ made_order choices (seat_order choices needs) are.seats are.are_seats.as_many (order_found choices needs)

  items_long : length items ≡ length (seat_order choices needs)
  items_long = sym (length-map items (λ (item : Item). item.instance)) ∙ ap length items_order

  pub items_few : length items ≤ length needs
  items_few = let a = items_long in let b = order_few choices needs in omega (arith, a, b)

  needs_within : (item : Item) (n : ℕ) → Contains items item → Contains item.needs n → n < length items
  needs_within item n h at =
      let m = item_made choices (seat_order choices needs) are.seats item (subst (λ l. Contains l item) are.made h) in
      let listed : Contains (in_order number_key m.seat.needs.items) n = subst (λ (k : Item). Contains k.needs n) m.is at in
      let seated : Contains m.seat.needs.items n = contains-in_order number_key m.seat.needs.items n listed in
      let same = are.are_seats.needs_same m.place (slice_get_within (seat_order choices needs) m.place m.instance m.at) in
      let linked = linked_is (seat_order choices needs) needs edges m.place n (same.to n (subst (λ o. Contains (needs_of_seat o) n) (sym m.seated) seated)) in
      let there = place_is (seat_order choices needs) linked.y n linked.to in
      let within : n < length (seat_order choices needs) = slice_get_within (seat_order choices needs) n there.instance there.at in
      let long = items_long in
      omega (arith, within, long)

  pub items_are : AreItems items
  items_are = record {
    ascends = subst (Ascends instance_key) (sym items_order) (in_order-ascends instance_key (flat_map (chosen_in choices) needs));
    needs = needs_within;
  }
