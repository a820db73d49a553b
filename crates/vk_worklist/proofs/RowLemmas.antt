-- Rows at the places of ports: one more, a write, and ports that get places.
use Rattle.std.proofs.Common.{◌≡◌, ◌<◌, ◌≤◌, ℕ, zero, suc, Bool, true, false, cond, List, [], ◌∷◌, ◌++◌, length, slice_set, slice_index_or, refl, ap, sym, ◌∙◌, subst, arith}
use Rattle.std.specs.Prelude.{Option, Some, None, bytes_eq, slice_get, zip}
use Rattle.std.specs.Map.{lookup}
use Rattle.std.proofs.lemmas.List.{append-nil, length-append}
use Rattle.std.proofs.lemmas.Option.{slice_get_within, slice_get_read}
use Rattle.std.proofs.lemmas.Slice.Eq.{bytes_eq-Decides}
use Rattle.vk_resolution.specs.Settings.{root, inst}
use Rattle.vk_resolution.specs.Asking.{Fact, need, floor, visit}
use Rattle.vk_resolution.specs.Consequences.{Inputs}
use Rattle.vk_worklist.specs.Places.{IsSeat, IsSeatOf, KeepsSeats}
use Rattle.vk_worklist.specs.Rows.{needs_of, floors_of, HasLines, AreRows}
use Rattle.vk_worklist.specs.declared.rows.Row.{Row}

abbrev pub Seats : Type 0
Seats = List (List ℕ)

-- what a part of the rows has of a port
abbrev pub lines_of : (Option Row → List ℕ) → Seats → List Row → List ℕ → List ℕ
lines_of part seats rows p = part (lookup (bytes_eq p) (zip seats rows))

abbrev no_row : List Row
no_row = []

no_rows : (seats : Seats) → zip seats no_row ≡ []
no_rows [] = refl
no_rows (s ∷ seats) = refl

-- ---- an empty row more

same_behind : (part : Option Row → List ℕ) (r : Row) (x y : Option Row) (b : Bool) → part x ≡ part y → part (cond b (Some r) x) ≡ part (cond b (Some r) y)
same_behind part r x y true e = refl
same_behind part r x y false e = e

empty_here : (part : Option Row → List ℕ) (r : Row) (b : Bool) → part (Some r) ≡ part None → part (cond b (Some r) None) ≡ part None
empty_here part r true e = e
empty_here part r false e = refl

pub row_more : (part : Option Row → List ℕ) (r : Row) → part (Some r) ≡ part None → (seats : Seats) (rows : List Row) (p : List ℕ) → lines_of part seats (rows ++ r ∷ []) p ≡ lines_of part seats rows p
row_more part r empty [] rows p = refl
row_more part r empty (s ∷ seats) [] p = ap (λ es. part (cond (bytes_eq p s) (Some r) (lookup (bytes_eq p) es))) (no_rows seats) ∙ empty_here part r (bytes_eq p s) empty
row_more part r empty (s ∷ seats) (x ∷ rows) p = same_behind part x (lookup (bytes_eq p) (zip seats (rows ++ r ∷ []))) (lookup (bytes_eq p) (zip seats rows)) (bytes_eq p s) (row_more part r empty seats rows p)

pub few_more : (old new : List Row) (r : Row) (place most : ℕ) → new ≡ old ++ r ∷ [] → length old ≤ place → place < most → length new ≤ most
few_more old new r place most is low high = let long = ap length is ∙ length-append old (r ∷ []) in omega (arith, long, low, high)

-- ---- a row is written at its place

apart : (x y : List ℕ) → (x ≡ y → ⊥) → (b : Bool) → bytes_eq x y ≡ b → b ≡ false
apart x y differ true e = absurd (differ ((bytes_eq-Decides x y).0 e))
apart x y differ false e = refl

tail_seat : (s : List ℕ) (seats : Seats) (port : List ℕ) (k : ℕ) → IsSeat (s ∷ seats) port (suc k) → IsSeat seats port k
tail_seat s seats port k is = record { at = is.at; first = λ j other below e. is.first (suc j) other (omega (arith, below)) e }

-- the port stands at the place at hand
written_here : (part : Option Row → List ℕ) (port p : List ℕ) (w r : Row) (rest : Option Row) (ns : List ℕ) (b : Bool) → bytes_eq p port ≡ b → part (Some w) ≡ part (Some r) ++ ns → part (cond b (Some w) rest) ≡ part (cond b (Some r) rest) ++ cond (bytes_eq port p) ns []
written_here part port p w r rest ns true e h = h ∙ ap (λ b. part (Some r) ++ cond b ns []) (sym ((bytes_eq-Decides port p).1 (sym ((bytes_eq-Decides p port).0 e))))
written_here part port p w r rest ns false e h =
    sym (append-nil (part rest)) ∙ ap (λ b. part rest ++ cond b ns []) (sym (apart port p (λ same. clash ((bytes_eq-Decides p port).1 (sym same))) (bytes_eq port p) refl))
  where
    clash : bytes_eq p port ≡ true → ⊥
    clash so = (cc)

-- the port stands behind the place at hand
written_behind : (part : Option Row → List ℕ) (s port p : List ℕ) (r : Row) (x y : Option Row) (ns : List ℕ) (b : Bool) → bytes_eq p s ≡ b → bytes_eq port s ≡ false → part x ≡ part y ++ cond (bytes_eq port p) ns [] → part (cond b (Some r) x) ≡ part (cond b (Some r) y) ++ cond (bytes_eq port p) ns []
written_behind part s port p r x y ns true e other h =
    sym (append-nil (part (Some r))) ∙ ap (λ b. part (Some r) ++ cond b ns []) (sym (subst (λ q. bytes_eq port q ≡ false) (sym ((bytes_eq-Decides p s).0 e)) other))
written_behind part s port p r x y ns false e other h = h

pub written_at : (part : Option Row → List ℕ) (rows : List Row) (place : ℕ) (w r : Row) (ns : List ℕ) → slice_get rows place ≡ Some r → part (Some w) ≡ part (Some r) ++ ns
    → (seats : Seats) (port p : List ℕ) → IsSeat seats port place → lines_of part seats (slice_set rows place w) p ≡ lines_of part seats rows p ++ cond (bytes_eq port p) ns []
written_at part [] place w r ns at h seats port p is = (cc)
written_at part (x ∷ rows) zero w r ns at h [] port p is = let none = is.at in (cc)
written_at part (x ∷ rows) (suc k) w r ns at h [] port p is = let none = is.at in (cc)
written_at part (x ∷ rows) zero w r ns at h (s ∷ seats) port p is =
    let row : r ≡ x = (cc) in
    let there : port ≡ s = (let here = is.at in (cc)) in
    subst (λ q. part (cond (bytes_eq p q) (Some w) (lookup (bytes_eq p) (zip seats rows))) ≡ part (cond (bytes_eq p q) (Some x) (lookup (bytes_eq p) (zip seats rows))) ++ cond (bytes_eq port p) ns []) there
    (written_here part port p w x (lookup (bytes_eq p) (zip seats rows)) ns (bytes_eq p port) refl (h ∙ ap (λ z. part (Some z) ++ ns) row))
written_at part (x ∷ rows) (suc k) w r ns at h (s ∷ seats) port p is =
    written_behind part s port p x (lookup (bytes_eq p) (zip seats (slice_set rows k w))) (lookup (bytes_eq p) (zip seats rows)) ns (bytes_eq p s) refl (is.first 0 s (omega arith) refl)
    (written_at part rows k w r ns at h seats port p (tail_seat s seats port k is))

pub kept_at : (part : Option Row → List ℕ) (rows : List Row) (place : ℕ) (w r : Row) → slice_get rows place ≡ Some r → part (Some w) ≡ part (Some r) → (seats : Seats) (p : List ℕ) → lines_of part seats (slice_set rows place w) p ≡ lines_of part seats rows p
kept_at part [] place w r at h seats p = (cc)
kept_at part (x ∷ rows) zero w r at h [] p = refl
kept_at part (x ∷ rows) (suc k) w r at h [] p = refl
kept_at part (x ∷ rows) zero w r at h (s ∷ seats) p = by (bytes_eq p s)
  where
    row : r ≡ x
    row = (cc)

    by : (b : Bool) → part (cond b (Some w) (lookup (bytes_eq p) (zip seats rows))) ≡ part (cond b (Some x) (lookup (bytes_eq p) (zip seats rows)))
    by true = h ∙ ap (λ z. part (Some z)) row
    by false = refl
kept_at part (x ∷ rows) (suc k) w r at h (s ∷ seats) p = same_behind part x (lookup (bytes_eq p) (zip seats (slice_set rows k w))) (lookup (bytes_eq p) (zip seats rows)) (bytes_eq p s) (kept_at part rows k w r at h seats p)

-- the row at the place of a port is what a look-up of the port finds
pub found_at : (rows : List Row) (place : ℕ) (r : Row) → slice_get rows place ≡ Some r → (seats : Seats) (port : List ℕ) → IsSeat seats port place → lookup (bytes_eq port) (zip seats rows) ≡ Some r
found_at [] place r at seats port is = (cc)
found_at (x ∷ rows) zero r at [] port is = let none = is.at in (cc)
found_at (x ∷ rows) (suc k) r at [] port is = let none = is.at in (cc)
found_at (x ∷ rows) zero r at (s ∷ seats) port is =
    let row : x ≡ r = (cc) in
    let there : port ≡ s = (let here = is.at in (cc)) in
    ap (λ b. cond b (Some x) (lookup (bytes_eq port) (zip seats rows))) ((bytes_eq-Decides port s).1 there) ∙ ap Some row
found_at (x ∷ rows) (suc k) r at (s ∷ seats) port is =
    ap (λ b. cond b (Some x) (lookup (bytes_eq port) (zip seats rows))) (is.first 0 s (omega arith) refl) ∙ found_at rows k r at seats port (tail_seat s seats port k is)

-- ---- ports get places

tail_kept : (s t : List ℕ) (old new : Seats) → KeepsSeats (s ∷ old) (t ∷ new) → KeepsSeats old new
tail_kept s t old new keeps = λ k port e. keeps (suc k) port e

kept_long : (old new : Seats) → KeepsSeats old new → length old ≤ length new
kept_long [] new keeps = omega arith
kept_long (s ∷ old) [] keeps = let none = keeps 0 s refl in (cc)
kept_long (s ∷ old) (t ∷ new) keeps = let rest = kept_long old new (tail_kept s t old new keeps) in omega (arith, rest)

kept_zip : (old new : Seats) (rows : List Row) → length rows ≤ length old → KeepsSeats old new → zip new rows ≡ zip old rows
kept_zip old new [] few keeps = no_rows new ∙ sym (no_rows old)
kept_zip [] new (r ∷ rows) few keeps = absurd (omega (arith, few))
kept_zip (s ∷ old) [] (r ∷ rows) few keeps = let none = keeps 0 s refl in (cc)
kept_zip (s ∷ old) (t ∷ new) (r ∷ rows) few keeps =
    let same : t ≡ s = (let here = keeps 0 s refl in (cc)) in
    ap (λ q. (q, r) ∷ zip new rows) same ∙ ap (λ es. (s, r) ∷ es) (kept_zip old new rows (omega (arith, few)) (tail_kept s t old new keeps))

pub rows_kept : (inputs : Inputs) (old new : Seats) (rows : List Row) (taken : List Fact) → AreRows inputs old rows taken → KeepsSeats old new → AreRows inputs new rows taken
rows_kept inputs old new rows taken are keeps =
    let long = kept_long old new keeps in
    let few = are.within in
    record { within = omega (arith, long, few); lines = subst (λ es. HasLines inputs es taken) (sym (kept_zip old new rows are.within keeps)) are.lines }

pub seat_within : (seats : Seats) (x : Fact) (place : ℕ) → IsSeatOf seats x place → place < length seats
seat_within seats (need (root t) f) place is = absurd is
seat_within seats (need (inst i) f) place is = slice_get_within seats place i.port is.at
seat_within seats (floor p a) place is = slice_get_within seats place p is.at
seat_within seats (visit i f a) place is = absurd is

-- before anything is taken up there are no rows
pub rows_begin : (inputs : Inputs) (seats : Seats) (rows : List Row) → rows ≡ [] → AreRows inputs seats rows []
rows_begin inputs seats rows none = subst (λ rs. AreRows inputs seats rs []) (sym none) (record {
  within = omega arith;
  lines = record { needs = λ p. ap (λ es. needs_of es p) (no_rows seats); floors = λ p. ap (λ es. floors_of es p) (no_rows seats) };
})

-- what is read at a place
pub row_there : (rows : List Row) (place : ℕ) (r : Row) → place < length rows → r ≡ slice_index_or rows place r → slice_get rows place ≡ Some r
row_there rows place r within is = slice_get_read rows (length rows) place r refl within is
