-- Notes that are kept under keys, as they are seen: looking one up, where it stands, and keeping one more.
use Rattle.std.proofs.Common.{◌≡◌, Bool, true, false, cond, ℕ, List, [], ◌∷◌, ◌++◌, ◌<◌, length, map, refl, ap, sym, ◌∙◌, true≢false, not, suc, arith, inl, inr, lt-ltb, ◌+◌}
use Rattle.std.specs.Prelude.{Option, Some, None, IfSome, option_map, slice_get, Result, Ok, Err, IsOk, OnOk}
use Rattle.std.specs.Option.{is_some}
use Rattle.std.specs.List.{position, position_or_len}
use Rattle.std.specs.Map.{keys_of, lookup}
use Rattle.std.proofs.lemmas.List.{length-append, length-map, map-append}
use Rattle.std.proofs.lemmas.Map.Made.{lookup-map_values}
use Rattle.std.proofs.lemmas.Option.{none-some, slice_get-map, slice_get_cases}
use Rattle.indexmap.specs.IndexMap.{IndexMap, insert_entry}
use Rattle.indexmap.proofs.CallerLemmas.{insert_entry-new}
use Rattle.vk_files.specs.Notes.{IsNoteAt}

where_ok : {X E P : Type 0} (r : Result X E) → IsOk r → OnOk r P → P
where_ok (Ok x) ok h = h
where_ok (Err e) ok h = (cc)

module _ {K V W : Type 0} (view : V → W) where
  abbrev pub noted : List (K × V) → List (K × W)
  noted es = map (λ e. (e.0, view e.1)) es

  pub found_noted : (test : K → Bool) (es : List (K × V)) → lookup test (noted es) ≡ option_map view (lookup test es)
  found_noted test es = lookup-map_values view test es

  pub none_noted : (test : K → Bool) (es : List (K × V)) → is_some (lookup test es) ≡ false → lookup test (noted es) ≡ None
  none_noted test es none = found_noted test es ∙ by (lookup test es) none
    where
      by : (o : Option V) → is_some o ≡ false → option_map view o ≡ None
      by None e = refl
      by (Some v) e = absurd (true≢false e)

  pub nothing_noted : (test : K → Bool) (es : List (K × V)) → lookup test (noted es) ≡ None → lookup test es ≡ None
  nothing_noted test es none = by (lookup test es) (sym (found_noted test es) ∙ none)
    where
      by : (o : Option V) → option_map view o ≡ None → o ≡ None
      by None e = refl
      by (Some v) e = (cc)

  pub length_noted : (es : List (K × V)) → length (noted es) ≡ length es
  length_noted [] = refl
  length_noted (e ∷ es) = ap suc (length_noted es)

  keys_noted : (es : List (K × V)) → keys_of (noted es) ≡ keys_of es
  keys_noted [] = refl
  keys_noted (e ∷ es) = ap (λ ks. e.0 ∷ ks) (keys_noted es)

  -- a note stands where the entry stands
  pub placed_note : (test : K → Bool) (es : List (K × V)) (place : ℕ) → Some place ≡ position test (keys_of es) → place < length es → slice_get (map (λ e. e.1) es) place ≡ lookup test es → IsNoteAt test (noted es) place
  placed_note test es place first within value = record {
    first = ap (position test) (keys_noted es) ∙ sym first;
    within = rw (length_noted es) within;
    found = found_noted test es ∙ ap (option_map view) (sym value ∙ slice_get-map (λ (e : K × V). e.1) es place) ∙ by (slice_get es place)
        ∙ ap (λ (o : Option (K × W)). option_map (λ (e : K × W). e.1) o) (sym (slice_get-map (λ e. (e.0, view e.1)) es place));
  }
    where
      by : (o : Option (K × V)) → option_map view (option_map (λ (e : K × V). e.1) o) ≡ option_map (λ (e : K × W). e.1) (option_map (λ (e : K × V). (e.0, view e.1)) o)
      by None = refl
      by (Some e) = refl

  pub more_noted : (es : List (K × V)) (k : K) (v : V) → noted (es ++ (k, v) ∷ []) ≡ noted es ++ (k, view v) ∷ []
  more_noted es k v = map-append (λ e. (e.0, view e.1)) es ((k, v) ∷ [])

  -- a key that has no note gets one, the last
  pub kept_last : {S X E : Type 0} (eq : K → K → Bool) (m : IndexMap K V S) (k : K) (v : V) (after : List (K × V)) (r : Result X E) → IsOk r → OnOk r (after ≡ insert_entry eq m.entries k v)
      → lookup (eq k) (noted m.entries) ≡ None → noted after ≡ noted m.entries ++ (k, view v) ∷ []
  kept_last eq m k v after r ok put none =
      ap noted (where_ok r ok put ∙ insert_entry-new eq m k v (nothing_noted (eq k) m.entries none)) ∙ more_noted m.entries k v

behind : {V : Type 0} (b : Bool) (first : V) (before after found : Option V) → cond b (Some first) before ≡ None → (before ≡ None → after ≡ found) → cond b (Some first) after ≡ found
behind true first before after found none then = absurd (none-some first (sym none))
behind false first before after found none then = then none

later : {V : Type 0} (b : Bool) (first : V) (before : Option V) (place n : ℕ) → cond b (Some first) before ≡ None → (before ≡ None → place ≡ n) → cond (not b) (1 + place) 0 ≡ suc n
later true first before place n none then = absurd (none-some first (sym none))
later false first before place n none then = ap (λ m. 1 + m) (then none) ∙ one_more n
  where
    one_more : (m : ℕ) → 1 + m ≡ suc m
    one_more m = omega arith

-- a key that has no note gets one, which stands behind the others
pub last_note : {K V : Type 0} (eq : K → K → Bool) (k : K) (v : V) (notes : List (K × V)) → eq k k ≡ true → lookup (eq k) notes ≡ None → IsNoteAt (eq k) (notes ++ (k, v) ∷ []) (length notes)
last_note {K = K} {V = V} eq k v notes same none = record { first = at notes none; within = omega (arith, length-append notes ((k, v) ∷ [])); found = by notes none }
  where
    passed : (notes : List (K × V)) → lookup (eq k) notes ≡ None → position_or_len (eq k) (keys_of (notes ++ (k, v) ∷ [])) ≡ length notes
    passed [] none = ap (λ b. cond (not b) (1 + 0) 0) same
    passed (e ∷ notes) none = later (eq k e.0) e.1 (lookup (eq k) notes) (position_or_len (eq k) (keys_of (notes ++ (k, v) ∷ []))) (length notes) none (passed notes)

    at : (notes : List (K × V)) → lookup (eq k) notes ≡ None → position (eq k) (keys_of (notes ++ (k, v) ∷ [])) ≡ Some (length notes)
    at notes none =
        let within : length notes < length (keys_of (notes ++ (k, v) ∷ [])) = omega (arith, length-map (notes ++ (k, v) ∷ []) (λ e. e.0), length-append notes ((k, v) ∷ [])) in
        rw (passed notes none) (rw (lt-ltb _ _ within) refl)

    by : (notes : List (K × V)) → lookup (eq k) notes ≡ None → lookup (eq k) (notes ++ (k, v) ∷ []) ≡ option_map (λ e. e.1) (slice_get (notes ++ (k, v) ∷ []) (length notes))
    by [] none = ap (λ b. cond b (Some v) None) same
    by (e ∷ notes) none = behind (eq k e.0) e.1 (lookup (eq k) notes) (lookup (eq k) (notes ++ (k, v) ∷ [])) _ none (by notes)

-- what is said of the note at a place is said of what is kept under the key
pub said_of_note : {K W : Type 0} (test : K → Bool) (notes : List (K × W)) (place : ℕ) (P : K × W → Type 0) → IsNoteAt test notes place → IfSome (slice_get notes place) P
    → (e : K × W) × (lookup test notes ≡ Some e.1) × P e
said_of_note {K} {W} test notes place P there said =
    elim (slice_get_cases notes place).1 [
      | inl found ↦ (found.0, there.found ∙ ap (λ (o : Option (K × W)). option_map (λ (e : K × W). e.1) o) found.2, rw found.2 at said)
      | inr past ↦ let within = there.within in absurd (omega (arith, past.0))
    ]
