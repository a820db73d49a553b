-- What is put on seats.
use Rattle.std.proofs.Common.{◌≡◌, ◌<◌, ◌+◌, ◌==◌, ℕ, zero, suc, Bool, true, false, cond, List, [], ◌∷◌, ◌++◌, length, take, get_or, set, map, refl, ap, sym, ◌∙◌, subst, arith}
use Rattle.std.specs.Prelude.{Option, Some, None, slice_get, flat_map}
use Rattle.std.specs.List.{zip}
use Rattle.std.proofs.lemmas.List.{append_assoc, append-nil, length-set, length-map, length-append, map-append, take_more}
use Rattle.std.proofs.lemmas.Bool.Decides.{Decides-eqb}
use Rattle.vk_resolution.proofs.Members.{true_false}
use Rattle.std.proofs.lemmas.Option.{slice_get-get_or}
use Rattle.vk_base.specs.FeatureViews.{feature_view}
use Rattle.vk_planset.specs.declared.seats.Seat.{Seat}
use Rattle.vk_planset.specs.Members.{HasMore, HaveSame}
use Rattle.vk_planset.specs.Seats.{features_in, features_of_seat, features_at, needs_of_seat, needs_at, at_place, HaveMore, AreSeats}
use Rattle.vk_planset.specs.Items.{at_end}
use Rattle.vk_planset.specs.Places.{place_in}
use Rattle.vk_planset.proofs.MemberLemmas.{nothing_more, same_more, same_nothing}

set_here : {X : Type 0} (xs : List X) (i : ℕ) (y : X) → i < length xs → slice_get (set xs i y) i ≡ Some y
set_here [] i y h = absurd (omega (arith, h))
set_here (x ∷ xs) zero y h = refl
set_here (x ∷ xs) (suc i) y h = set_here xs i y (omega (arith, h))

set_elsewhere : {X : Type 0} (xs : List X) (i p : ℕ) (y : X) → (p ≡ i → ⊥) → slice_get (set xs i y) p ≡ slice_get xs p
set_elsewhere [] zero p y other = refl
set_elsewhere [] (suc i) p y other = refl
set_elsewhere (x ∷ xs) zero zero y other = absurd (other refl)
set_elsewhere (x ∷ xs) zero (suc p) y other = refl
set_elsewhere (x ∷ xs) (suc i) zero y other = refl
set_elsewhere (x ∷ xs) (suc i) (suc p) y other = set_elsewhere xs i p y (λ e. other (ap suc e))

nothing_there : {X : Type 0} (b : Bool) → cond {A = List X} b [] [] ≡ []
nothing_there true = refl
nothing_there false = refl

-- ---- one seat is written

module _ {Y : Type 0} (part : Option Seat → List Y) (seats : List Seat) (place : ℕ) (d new : Seat) (within : place < length seats) where
  abbrev old : Seat
  old = get_or seats place d

  there : slice_get seats place ≡ Some old
  there = slice_get-get_or seats place d within

  written_by : (p : ℕ) (b : Bool) (more : List Y) → (p == place) ≡ b → HasMore (part (Some old)) more (part (Some new)) → HasMore (part (slice_get seats p)) (cond b more []) (part (slice_get (set seats place new) p))
  written_by p true more at step =
      let same : p ≡ place = (Decides-eqb p place).0 at in
      subst (λ o. HasMore (part o) more (part (slice_get (set seats place new) p))) (sym (ap (slice_get seats) same ∙ there))
      (subst (λ o. HasMore (part (Some old)) more (part o)) (sym (ap (slice_get (set seats place new)) same ∙ set_here seats place new within)) step)
  written_by p false more at step =
      subst (λ o. HasMore (part (slice_get seats p)) [] (part o)) (sym (set_elsewhere seats place p new (λ same. true_false (p == place) ((Decides-eqb p place).1 same) at)))
      (nothing_more (part (slice_get seats p)))

  written : (p : ℕ) (more : List Y) → HasMore (part (Some old)) more (part (Some new)) → HasMore (part (slice_get seats p)) (at_place p place more) (part (slice_get (set seats place new) p))
  written p more step = written_by p (p == place) more refl step

  kept : (p : ℕ) → part (Some new) ≡ part (Some old) → HasMore (part (slice_get seats p)) [] (part (slice_get (set seats place new) p))
  kept p same = subst (λ l. HasMore (part (slice_get seats p)) l (part (slice_get (set seats place new) p))) (nothing_there (p == place)) (written p [] (subst (HasMore (part (Some old)) []) (sym same) (nothing_more (part (Some old)))))

module _ (seats : List Seat) (place : ℕ) (d new : Seat) (within : place < length seats) where
  pub need_set : (need : ℕ) → new.features.items ≡ (get_or seats place d).features.items → HasMore (get_or seats place d).needs.items (need ∷ []) new.needs.items → HaveMore (λ p. []) (λ p. at_place p place (need ∷ [])) seats (set seats place new)
  need_set need same step = record {
    as_long = length-set seats place new;
    features_more = λ p h. kept features_of_seat seats place d new within p (ap (map feature_view) same);
    needs_more = λ p h. written needs_of_seat seats place d new within p (need ∷ []) step;
  }

  pub feature_set : (listed : List (List ℕ)) → new.needs.items ≡ (get_or seats place d).needs.items → HasMore (features_in (get_or seats place d)) listed (features_in new) → HaveMore (λ p. at_place p place listed) (λ p. []) seats (set seats place new)
  feature_set listed same step = record {
    as_long = length-set seats place new;
    features_more = λ p h. written features_of_seat seats place d new within p listed step;
    needs_more = λ p h. kept needs_of_seat seats place d new within p same;
  }

-- ---- more and more

-- what a table of all has at a place
pub placed_at : {A X : Type 0} (view : A → X) (f : X → Option ℕ) (xs : List A) (n : ℕ) (x : A) → n < length xs → x ≡ get_or xs n x → place_in (slice_get (map f (map view xs)) n) ≡ f (view x)
placed_at view f [] n x within at = absurd (omega (arith, within))
placed_at view f (y ∷ ys) zero x within at = ap (λ z. f (view z)) (sym at)
placed_at view f (y ∷ ys) (suc n) x within at = placed_at view f ys n x (omega (arith, within)) at

pub seats_step : (count : ℕ) (features more : ℕ → List (List ℕ)) (needs further : ℕ → List ℕ) (old new : List Seat) (all : ℕ → List (List ℕ)) (every : ℕ → List ℕ)
    → AreSeats count features needs old → HaveMore more further old new → ((p : ℕ) → all p ≡ features p ++ more p) → ((p : ℕ) → every p ≡ needs p ++ further p) → AreSeats count all every new
seats_step count features more needs further old new all every are step is_all is_every = record {
  as_many = step.as_long ∙ are.as_many;
  features_same = λ p h. subst (HaveSame (features_at new p)) (sym (is_all p)) (same_more (features_at old p) (features p) (more p) (features_at new p) (are.features_same p h) (step.features_more p (subst (λ n. p < n) (sym are.as_many) h)));
  needs_same = λ p h. subst (HaveSame (needs_at new p)) (sym (is_every p)) (same_more (needs_at old p) (needs p) (further p) (needs_at new p) (are.needs_same p h) (step.needs_more p (subst (λ n. p < n) (sym are.as_many) h)));
}

pushed_at : {Y : Type 0} (part : Option Seat → List Y) (seats : List Seat) (s : Seat) (n p : ℕ) → part None ≡ [] → part (Some s) ≡ [] → ((p : ℕ) → p < length seats → HaveSame (part (slice_get seats p)) []) → p < length seats + 1 → HaveSame (part (slice_get (seats ++ s ∷ []) p)) []
pushed_at part [] s n zero none new each h = same_nothing (part (Some s)) new
pushed_at part [] s n (suc p) none new each h = same_nothing (part None) none
pushed_at part (t ∷ seats) s n zero none new each h = each zero (omega arith)
pushed_at part (t ∷ seats) s n (suc p) none new each h = pushed_at part seats s n p none new (λ q at. each (suc q) (omega (arith, at))) (omega (arith, h))

pub seats_push : (count : ℕ) (seats : List Seat) (s : Seat) → AreSeats count (λ p. []) (λ p. []) seats → features_in s ≡ [] → s.needs.items ≡ [] → AreSeats (count + 1) (λ p. []) (λ p. []) (seats ++ s ∷ [])
seats_push count seats s are no_features no_needs =
    let long : length (seats ++ s ∷ []) ≡ count + 1 = length-append seats (s ∷ []) ∙ ap (λ n. n + 1) are.as_many in record {
      as_many = long;
      features_same = λ p h. pushed_at features_of_seat seats s count p refl no_features (λ q at. are.features_same q (subst (λ n. q < n) are.as_many at)) (subst (λ n. p < n + 1) (sym are.as_many) h);
      needs_same = λ p h. pushed_at needs_of_seat seats s count p refl no_needs (λ q at. are.needs_same q (subst (λ n. q < n) are.as_many at)) (subst (λ n. p < n + 1) (sym are.as_many) h);
    }

-- ---- two lists side by side, one more

zip_push : {X Y Z : Type 0} (f : X × Y → List Z) (xs : List X) (x : X) (ys : List Y) → flat_map f (zip (xs ++ x ∷ []) ys) ≡ flat_map f (zip xs ys) ++ at_end f x (slice_get ys (length xs))
zip_push f [] x [] = refl
zip_push f [] x (y ∷ ys) = append-nil (f (x, y))
zip_push f (z ∷ xs) x [] = refl
zip_push f (z ∷ xs) x (y ∷ ys) = ap (λ l. f (z, y) ++ l) (zip_push f xs x ys) ∙ sym (append_assoc (f (z, y)) (flat_map f (zip xs ys)) (at_end f x (slice_get ys (length xs))))

length_take : {X : Type 0} (xs : List X) (i : ℕ) → i < length xs → length (take i xs) ≡ i
length_take xs zero h = refl
length_take [] (suc i) h = absurd (omega (arith, h))
length_take (x ∷ xs) (suc i) h = ap suc (length_take xs i (omega (arith, h)))

pub zip_more : {A X Y Z : Type 0} (view : A → X) (f : X × Y → List Z) (xs : List A) (ys : List Y) (n : ℕ) (x : A) → n < length xs → x ≡ get_or xs n x
    → flat_map f (zip (map view (take (n + 1) xs)) ys) ≡ flat_map f (zip (map view (take n xs)) ys) ++ at_end f (view x) (slice_get ys n)
zip_more view f xs ys n x within at =
    ap (λ l. flat_map f (zip (map view l) ys)) (take_more xs n x within ∙ ap (λ y. take n xs ++ y ∷ []) (sym at))
    ∙ ap (λ l. flat_map f (zip l ys)) (map-append view (take n xs) (x ∷ []))
    ∙ zip_push f (map view (take n xs)) (view x) ys
    ∙ ap (λ m. flat_map f (zip (map view (take n xs)) ys) ++ at_end f (view x) (slice_get ys m)) (length-map (take n xs) view ∙ length_take xs n within)

-- what is written into a vector in place
pub filled : {X : Type 0} (new rest : List X) (n : ℕ) → n ≡ length new → take n (new ++ rest) ≡ new
filled new rest n e = ap (λ m. take m (new ++ rest)) e ∙ front new rest
  where
    front : {X : Type 0} (new rest : List X) → take (length new) (new ++ rest) ≡ new
    front [] rest = refl
    front (x ∷ new) rest = ap (λ l. x ∷ l) (front new rest)
