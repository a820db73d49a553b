-- Reading the members of a list one after the other, as a loop does.
use Rattle.std.proofs.Common.{◌≡◌, ◌+◌, ◌<◌, ◌≤◌, ℕ, List, [], ◌∷◌, ◌++◌, length, drop, get_or, map, refl, ap, sym, ◌∙◌, append_assoc}
use Rattle.std.specs.Prelude.{Option, Some, None, Result, Ok, Err}
use Rattle.std.proofs.lemmas.List.{append-nil, drop_more, get_or-map, length-map, map-append}
use Rattle.std.proofs.Math.ListN.{drop_of_length-le}
use Rattle.vk_spec.specs.Reading.{◌>>=◌, read_each, read_after, Gives, Fails}

-- what was read before, and what is still read
abbrev pub with_front : {A F : Type 0} → List A → Result (List A) F → Result (List A) F
with_front front read = read >>= λ xs. Ok (front ++ xs)

-- what was read before the answer
pub bind_ok : {A B F : Type 0} (read : Result A F) (next : A → Result B F) (y : B) → (read >>= next) ≡ Ok y → (x : A) × (read ≡ Ok x) × (next x ≡ Ok y)
bind_ok (Ok x) next y e = (x, refl, e)
bind_ok (Err fault) next y e = (cc)

-- with nothing in front
pub nothing_yet : {A F : Type 0} (read : Result (List A) F) → with_front [] read ≡ read
nothing_yet (Ok xs) = refl
nothing_yet (Err fault) = refl

regroup : {A F : Type 0} (front : List A) (x : A) (read : Result (List A) F) → with_front front (read >>= λ xs. Ok (x ∷ xs)) ≡ with_front (front ++ x ∷ []) read
regroup front x (Ok xs) = ap Ok (sym (append_assoc front (x ∷ []) xs))
regroup front x (Err f) = refl

-- what is left to read from the place i on
abbrev pub left_from : {X A F : Type 0} → (ℕ → X → Result A F) → ℕ → List X → Result (List A) F
left_from f i xs = read_each f i (drop i xs)

left_more : {X A F : Type 0} (f : ℕ → X → Result A F) (i : ℕ) (xs : List X) (d : X) → i < length xs → left_from f i xs ≡ (f i (get_or xs i d) >>= λ y. left_from f (i + 1) xs >>= λ ys. Ok (y ∷ ys))
unfolding read_each
left_more f i xs d within = ap (λ l. read_each f i l) (drop_more xs i d within)

-- a member is read: the loop goes on
pub goes_on : {X A F : Type 0} (f : ℕ → X → Result A F) (front : List A) (y : A) (i : ℕ) (xs : List X) (d : X) (total : Result (List A) F) → i < length xs → f i (get_or xs i d) ≡ Ok y
    → with_front front (left_from f i xs) ≡ total → with_front (front ++ y ∷ []) (left_from f (i + 1) xs) ≡ total
goes_on f front y i xs d total within read so_far =
    let one : with_front front (left_from f i xs) ≡ with_front (front ++ y ∷ []) (left_from f (i + 1) xs) = rw (left_more f i xs d within, read) (regroup front y (left_from f (i + 1) xs)) in
    sym one ∙ so_far

-- a member has a fault: so has the list
pub ends : {X A F : Type 0} (told : Option F) (f : ℕ → X → Result A F) (front : List A) (i : ℕ) (xs : List X) (d : X) (total : Result (List A) F) → i < length xs → Fails told (f i (get_or xs i d))
    → with_front front (left_from f i xs) ≡ total → Fails told total
ends None f front i xs d total within fails so_far = tt
ends (Some fault) f front i xs d total within fails so_far =
    let one : with_front front (left_from f i xs) ≡ Err fault = rw (left_more f i xs d within, fails) refl in
    sym so_far ∙ one

-- no member is left: the list is read
pub is_done : {X A F : Type 0} (f : ℕ → X → Result A F) (front : List A) (i : ℕ) (xs : List X) (total : Result (List A) F) → length xs ≤ i → with_front front (left_from f i xs) ≡ total → total ≡ Ok front
unfolding read_each
is_done f front i xs total past so_far =
    let one : with_front front (left_from f i xs) ≡ Ok front = rw (drop_of_length-le xs past) (ap Ok (append-nil front)) in
    sym so_far ∙ one

-- the same where a loop goes over values and keeps values that stand for what is read
module _ {V X R A F : Type 0} (view : V → X) (out : R → A) (f : ℕ → X → Result A F) where
  pub goes_on_by : (front : List R) (y : R) (i : ℕ) (vs : List V) (v : V) (total : Result (List A) F) → i < length vs → v ≡ get_or vs i v → f i (view v) ≡ Ok (out y)
      → with_front (map out front) (left_from f i (map view vs)) ≡ total → with_front (map out (front ++ y ∷ [])) (left_from f (i + 1) (map view vs)) ≡ total
  goes_on_by front y i vs v total within is read so_far =
      rw (map-append out front (y ∷ []))
      (goes_on f (map out front) (out y) i (map view vs) (view v) total (rw (length-map vs view) within)
      (ap (f i) (get_or-map view vs i v (view v) within ∙ ap view (sym is)) ∙ read) so_far)

  pub ends_by : (told : Option F) (front : List R) (i : ℕ) (vs : List V) (v : V) (total : Result (List A) F) → i < length vs → v ≡ get_or vs i v → Fails told (f i (view v))
      → with_front (map out front) (left_from f i (map view vs)) ≡ total → Fails told total
  ends_by told front i vs v total within is fails so_far =
      ends told f (map out front) i (map view vs) (view v) total (rw (length-map vs view) within)
      (rw (get_or-map view vs i v (view v) within, ← is) fails) so_far

  pub is_done_by : (front : List R) (i : ℕ) (vs : List V) (total : Result (List A) F) → length vs ≤ i → with_front (map out front) (left_from f i (map view vs)) ≡ total → total ≡ Ok (map out front)
  is_done_by front i vs total past so_far = is_done f (map out front) i (map view vs) total (rw (length-map vs view) past) so_far

-- where the number of a member doesn't matter, what is left is read alike from any number on
any_number : {X A F : Type 0} (f : X → Result A F) (n m : ℕ) (xs : List X) → read_each (λ _. f) n xs ≡ read_each (λ _. f) m xs
unfolding read_each
any_number f n m [] = refl
any_number f n m (x ∷ xs) = rw (any_number f (n + 1) (m + 1) xs) refl

first_and_rest : {X A F : Type 0} (f : X → Result A F) (front : List A) (x : X) (xs : List X) → with_front front (read_each (λ _. f) 0 (x ∷ xs)) ≡ with_front front (f x >>= λ y. read_each (λ _. f) 0 xs >>= λ ys. Ok (y ∷ ys))
unfolding read_each
first_and_rest f front x xs = rw (any_number f 1 0 xs) refl

-- the same lemmas for a loop that keeps the members which are left
pub goes_on_with : {X A F : Type 0} (f : X → Result A F) (front : List A) (x : X) (y : A) (xs : List X) (total : Result (List A) F) → f x ≡ Ok y
    → with_front front (read_each (λ _. f) 0 (x ∷ xs)) ≡ total → with_front (front ++ y ∷ []) (read_each (λ _. f) 0 xs) ≡ total
goes_on_with f front x y xs total read so_far =
    let one : with_front front (read_each (λ _. f) 0 (x ∷ xs)) ≡ with_front (front ++ y ∷ []) (read_each (λ _. f) 0 xs) = rw (first_and_rest f front x xs, read) (regroup front y (read_each (λ _. f) 0 xs)) in
    sym one ∙ so_far

pub ends_with : {X A F : Type 0} (told : Option F) (f : X → Result A F) (front : List A) (x : X) (xs : List X) (total : Result (List A) F) → Fails told (f x)
    → with_front front (read_each (λ _. f) 0 (x ∷ xs)) ≡ total → Fails told total
ends_with None f front x xs total fails so_far = tt
ends_with (Some fault) f front x xs total fails so_far =
    let one : with_front front (read_each (λ _. f) 0 (x ∷ xs)) ≡ Err fault = rw (first_and_rest f front x xs, fails) refl in
    sym so_far ∙ one

pub is_done_with : {X A F : Type 0} (f : X → Result A F) (front : List A) (total : Result (List A) F) → with_front front (read_each (λ _. f) 0 []) ≡ total → total ≡ Ok front
unfolding read_each
is_done_with f front total so_far = sym so_far ∙ ap Ok (append-nil front)

-- a loop in which each member is read with those before it
after_more : {X A F : Type 0} (f : List A → ℕ → X → Result A F) (earlier : List A) (i : ℕ) (xs : List X) (d : X) → i < length xs → read_after f earlier i (drop i xs) ≡ (f earlier i (get_or xs i d) >>= λ y. read_after f (earlier ++ y ∷ []) (i + 1) (drop (i + 1) xs))
unfolding read_after
after_more f earlier i xs d within = ap (λ l. read_after f earlier i l) (drop_more xs i d within)

module _ {V X R A F : Type 0} (view : V → X) (out : R → A) (f : List A → ℕ → X → Result A F) where
  after_next : (front : List R) (i : ℕ) (vs : List V) (v : V) → i < length vs → v ≡ get_or vs i v
      → read_after f (map out front) i (drop i (map view vs)) ≡ (f (map out front) i (view v) >>= λ y. read_after f (map out front ++ y ∷ []) (i + 1) (drop (i + 1) (map view vs)))
  after_next front i vs v within is =
      after_more f (map out front) i (map view vs) (view v) (rw (length-map vs view) within)
      ∙ ap (λ x. f (map out front) i x >>= λ y. read_after f (map out front ++ y ∷ []) (i + 1) (drop (i + 1) (map view vs))) (get_or-map view vs i v (view v) within ∙ ap view (sym is))

  pub after_goes_on : (front : List R) (y : R) (i : ℕ) (vs : List V) (v : V) (total : Result (List A) F) → i < length vs → v ≡ get_or vs i v → f (map out front) i (view v) ≡ Ok (out y)
      → read_after f (map out front) i (drop i (map view vs)) ≡ total → read_after f (map out (front ++ y ∷ [])) (i + 1) (drop (i + 1) (map view vs)) ≡ total
  after_goes_on front y i vs v total within is read so_far =
      let one : read_after f (map out front) i (drop i (map view vs)) ≡ read_after f (map out front ++ out y ∷ []) (i + 1) (drop (i + 1) (map view vs)) = rw (after_next front i vs v within is, read) refl in
      rw (map-append out front (y ∷ [])) (sym one ∙ so_far)

  pub after_ends : (told : Option F) (front : List R) (i : ℕ) (vs : List V) (v : V) (total : Result (List A) F) → i < length vs → v ≡ get_or vs i v → Fails told (f (map out front) i (view v))
      → read_after f (map out front) i (drop i (map view vs)) ≡ total → Fails told total
  after_ends None front i vs v total within is fails so_far = tt
  after_ends (Some fault) front i vs v total within is fails so_far =
      let one : read_after f (map out front) i (drop i (map view vs)) ≡ Err fault = rw (after_next front i vs v within is, fails) refl in
      sym so_far ∙ one

  pub after_is_done : (front : List R) (i : ℕ) (vs : List V) (total : Result (List A) F) → length vs ≤ i → read_after f (map out front) i (drop i (map view vs)) ≡ total → total ≡ Ok (map out front)
  unfolding read_after
  after_is_done front i vs total past so_far =
      let past_all : length (map view vs) ≤ i = rw (length-map vs view) past in
      let one : read_after f (map out front) i (drop i (map view vs)) ≡ Ok (map out front) = rw (drop_of_length-le (map view vs) past_all) refl in
      sym so_far ∙ one

-- ---- one reading, and then the next

-- what failed fails on
pub fails_on : {A B F : Type 0} (told : Option F) (read : Result A F) (next : A → Result B F) → Fails told read → Fails told (read >>= next)
fails_on None read next fails = tt
fails_on (Some fault) read next fails = ap (λ r. r >>= next) fails

-- what the next step answers is what both give
pub gives_then : {X Y Z W E F : Type 0} (view : X → Y) (fault_of : E → Option F) (next_view : Z → W) (x : X) (answer : Result Z E) (read : Result Y F) (next : Y → Result W F) → read ≡ Ok (view x) → Gives next_view fault_of answer (next (view x)) → Gives next_view fault_of answer (read >>= next)
gives_then view fault_of next_view x answer read next is gives = rw is gives
