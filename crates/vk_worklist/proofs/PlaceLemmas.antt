-- The place of an entry, and what stands there.
use Rattle.std.proofs.Common.{◌≡◌, ℕ, false, List, [], get_or, ◌∙◌, ap, sym, subst}
use Rattle.std.specs.Prelude.{Option, Some, None, IsSome, IfNone, bytes_eq, position, slice_get}
use Rattle.std.specs.Map.{lookup, lookup_key}
use Rattle.std.proofs.lemmas.List.Quantifiers.{position-Some}
use Rattle.std.proofs.lemmas.Option.{slice_get-get_or, get_or_from_slice_get}
use Rattle.std.proofs.lemmas.Map.Made.{lookup_key_same}
use Rattle.std.proofs.lemmas.Slice.Eq.{bytes_eq-Decides}
use Rattle.vk_worklist.specs.Places.{IsPlace, IsSeat}

-- the entry that a look-up found
pub placed : {A : Type 0} (es : List (List ℕ × A)) (port k : List ℕ) (a : A) (place : ℕ) → lookup_key (bytes_eq port) es ≡ Some k → slice_get es place ≡ Some (k, a) → IsPlace es port place
placed es port k a place e at = record { value = a; at = at ∙ ap (λ q. Some (q, a)) (sym (lookup_key_same bytes_eq-Decides port es k e)) }

pub same_key : {A : Type 0} (x y : List ℕ × A) → Some x ≡ Some y → y.0 ≡ x.0
same_key x y e = let same : x ≡ y = (cc) in ap (λ q. q.0) (sym same)

-- what stands at a place is what a look-up finds
pub value_there : {A : Type 0} (es : List (List ℕ × A)) (k : List ℕ) (a : A) (place : ℕ) → slice_get es place ≡ Some (k, a) → lookup (bytes_eq k) es ≡ Some a → (port : List ℕ) → IsPlace es port place → lookup (bytes_eq port) es ≡ Some a
value_there es k a place at found port is = subst (λ q. lookup (bytes_eq q) es ≡ Some a) (same_key (port, is.value) (k, a) (sym is.at ∙ at)) found

-- a place that is looked up
pub seat_found : (seats : List (List ℕ)) (port : List ℕ) (place : ℕ) → Some place ≡ position (bytes_eq port) seats → IsSeat seats port place
seat_found seats port place e =
    let p = position-Some (bytes_eq port) seats place [] (sym e) in
    record {
      at = slice_get-get_or seats place [] p.0 ∙ ap Some (sym ((bytes_eq-Decides port (get_or seats place [])).0 p.1));
      first = λ k other below there. subst (λ q. bytes_eq port q ≡ false) (get_or_from_slice_get seats k other [] there) (p.2 k below);
    }

-- what a look-up finds has a place
pub found_place : {A : Type 0} (r : Option ℕ) (o : Option A) → IfNone r (o ≡ None) → IsSome o → IsSome r
found_place None o none some = (cc)
found_place (Some place) o none some = (cc)
