-- The place of the first override for a port: one more, and what stands there.
use Rattle.std.proofs.Common.{◌≡◌, ◌+◌, ◌<◌, ◌≤◌, ℕ, Bool, true, false, not, cond, List, [], ◌∷◌, ◌++◌, length, take, get_or, map, refl, ap, sym, ◌∙◌, arith}
use Rattle.std.specs.Prelude.{Option, Some, None, unwrap_or, option_map, slice_get, bytes_eq, nat_lt, nat_eq, ◌||◌, if◌then◌else◌}
use Rattle.std.specs.Option.{is_some}
use Rattle.std.specs.List.{find, position, position_or_len}
use Rattle.std.specs.Map.{lookup}
use Rattle.std.proofs.lemmas.List.{length-append, length-map, length-take-le, map-append, take_more}
use Rattle.std.proofs.lemmas.List.Folds.{find_at, position_or_len_push}
use Rattle.std.proofs.lemmas.List.Sums.{prefix_len-le-length}
use Rattle.std.proofs.lemmas.Option.{slice_get-map, slice_get_past}
use Rattle.std.proofs.lemmas.Bool.Decides.{nat_tests}
use Rattle.std.proofs.lemmas.Slice.Eq.{bytes_eq-Decides}
use Rattle.vk_spec.specs.Versions.{Ask}
use Rattle.vk_spec.specs.Manifests.{Override}
use Rattle.vk_spec.specs.Pages.{has_override}
use Rattle.vk_version.specs.AskViews.{ask_view}
use Rattle.vk_model.specs.Views.{override_view}
use Rattle.vk_model.specs.declared.manifests.Override as declared
use Rattle.vk_root.specs.Overrides.{is_for, override_for, ArePlaces}

-- ---- one more

-- the first place in a list of n, and in one that is longer by one
abbrev first_of : ℕ → ℕ → Option ℕ
first_of place n = cond (nat_lt place n) (Some place) None

next_place : (place n : ℕ) (passes : Bool) → place ≤ n → first_of (cond (nat_eq place n) (n + cond passes 0 1) place) (n + 1) ≡ cond (nat_lt place n) (Some place) (cond passes (Some n) None)
next_place place n true most = grind (arith, nat_tests, most)
next_place place n false most = grind (arith, nat_tests, most)

-- the first place, or that of the new one
position_push : {X : Type 0} (p : X → Bool) (xs : List X) (y : X) → position p (xs ++ y ∷ []) ≡ cond (nat_lt (position_or_len p xs) (length xs)) (Some (position_or_len p xs)) (cond (p y) (Some (length xs)) None)
position_push p xs y = rw (position_or_len_push p xs y, length-append xs (y ∷ [])) (next_place (position_or_len p xs) (length xs) (p y) (prefix_len-le-length (λ x. not (p x)) xs))

noted_first : (there : Bool) (place n : ℕ) → Some (unwrap_or (cond there (Some place) None) n) ≡ cond there (Some place) (Some n)
noted_first true place n = refl
noted_first false place n = refl

pub more_places : (before : List Override) (one : Override) (w : ℕ) (old new : List (List ℕ × ℕ)) → ((port : List ℕ) → lookup (bytes_eq port) new ≡ cond (bytes_eq one.name port) (Some w) (lookup (bytes_eq port) old))
    → w ≡ unwrap_or (lookup (bytes_eq one.name) old) (length before) → ArePlaces before old → ArePlaces (before ++ one ∷ []) new
more_places before one w old new put is places port = put port ∙ by (bytes_eq one.name port) refl ∙ sym (position_push (is_for port) before one)
  where
    by : (same : Bool) → bytes_eq one.name port ≡ same → cond same (Some w) (lookup (bytes_eq port) old) ≡ cond (nat_lt (position_or_len (is_for port) before) (length before)) (Some (position_or_len (is_for port) before)) (cond same (Some (length before)) None)
    by true e =
        let same : one.name ≡ port = (bytes_eq-Decides one.name port).0 e in
        ap Some (is ∙ ap (λ name. unwrap_or (lookup (bytes_eq name) old) (length before)) same ∙ ap (λ o. unwrap_or o (length before)) (places port))
        ∙ noted_first (nat_lt (position_or_len (is_for port) before) (length before)) (position_or_len (is_for port) before) (length before)
    by false e = places port

-- the overrides up to the next place
pub one_more : (all : List declared.Override) (i : ℕ) (one : declared.Override) → i < length all → one ≡ get_or all i one → map override_view (take (i + 1) all) ≡ map override_view (take i all) ++ override_view one ∷ []
one_more all i one within is = ap (map override_view) (take_more all i one within ∙ ap (λ x. take i all ++ x ∷ []) (sym is)) ∙ map-append override_view (take i all) (one ∷ [])

pub so_many : (all : List declared.Override) (i : ℕ) → i < length all → length (map override_view (take i all)) ≡ i
so_many all i within = length-map (take i all) override_view ∙ length-take-le i all (omega (arith, within))

-- ---- what stands there

abbrev pub at_place : {X : Type 0} → List X → Option ℕ → Option X
at_place xs None = None
at_place xs (Some place) = slice_get xs place

found_at : {X : Type 0} (p : X → Bool) (xs : List X) → find p xs ≡ at_place xs (position p xs)
found_at p xs = find_at p xs ∙ by (nat_lt (position_or_len p xs) (length xs)) refl
  where
    by : (there : Bool) → nat_lt (position_or_len p xs) (length xs) ≡ there → slice_get xs (position_or_len p xs) ≡ at_place xs (cond there (Some (position_or_len p xs)) None)
    by true e = refl
    by false e = slice_get_past xs (position_or_len p xs) (grind (arith, nat_tests, e))

-- what is set for a port is that of the override at its place
pub set_at : (list : List declared.Override) (places : List (List ℕ × ℕ)) (port : List ℕ) (noted : Option ℕ) → ArePlaces (map override_view list) places → noted ≡ lookup (bytes_eq port) places
    → option_map (λ o. ask_view o.ask) (at_place list noted) ≡ override_for (map override_view list) port
set_at list places port noted are is = sym (ap (option_map (λ o. o.ask)) (found_at (is_for port) (map override_view list) ∙ ap (at_place (map override_view list)) (sym (are port) ∙ sym is) ∙ seen noted) ∙ twice (at_place list noted))
  where
    seen : (noted : Option ℕ) → at_place (map override_view list) noted ≡ option_map override_view (at_place list noted)
    seen None = refl
    seen (Some place) = slice_get-map override_view list place

    twice : (o : Option declared.Override) → option_map (λ o. o.ask) (option_map override_view o) ≡ option_map (λ o. ask_view o.ask) o
    twice None = refl
    twice (Some o) = refl

-- a version is set for a port where an override is for it
set_first : (o : Override) (overrides : List Override) (port : List ℕ) (same : Bool) → is_some (option_map (λ o. o.ask) (find (is_for port) overrides)) ≡ has_override overrides port
    → is_some (option_map (λ o. o.ask) (if same then Some o else find (is_for port) overrides)) ≡ (same || has_override overrides port)
set_first o overrides port true later = refl
set_first o overrides port false later = later

set_where : (overrides : List Override) (port : List ℕ) → is_some (override_for overrides port) ≡ has_override overrides port
set_where [] port = refl
set_where (o ∷ overrides) port = set_first o overrides port (bytes_eq o.name port) (set_where overrides port)

still_there : {X Y : Type 0} (f : X → Y) (found : Option X) → is_some (option_map f found) ≡ is_some found
still_there f None = refl
still_there f (Some x) = refl

pub has_where : {X : Type 0} (f : X → Ask) (found : Option X) (overrides : List Override) (port : List ℕ) → option_map f found ≡ override_for overrides port → is_some found ≡ has_override overrides port
has_where f found overrides port is = sym (still_there f found) ∙ ap is_some is ∙ set_where overrides port
