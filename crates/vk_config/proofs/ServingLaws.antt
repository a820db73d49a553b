-- The search finds the registry that a port comes from, and there is no other.
use Rattle.std.proofs.Common.{◌≡◌, ◌+◌, ◌<◌, ◌≤◌, ◌⊎◌, ◌↔◌, ℕ, zero, suc, Bool, true, false, List}
use Rattle.std.proofs.Common.{[], ◌∷◌, ◌++◌, length, inl, inr, refl, ap, sym, ◌∙◌, append_assoc}
use Rattle.std.proofs.Common.{arith}
use Rattle.std.specs.Prelude.{Option, Some, None, IfSome, slice_get, nat_le, if◌then◌else◌}
use Rattle.std.proofs.lemmas.Bool.{cases_lt}
use Rattle.std.proofs.lemmas.Bool.Decides.{nat_tests}
use Rattle.std.proofs.lemmas.List.{length-append, append-nil}
use Rattle.vk_config.specs.Configs.{Pattern, Registry, Config}
use Rattle.vk_config.specs.Serving.{patterns_of, HasPattern, IsBest, NoneTakes, has_default}
use Rattle.vk_config.specs.Serving.{IsServedAt, by_pattern, by_default, IsUnserved}
use Rattle.vk_config.specs.Closeness.{closeness, closest, Found, closer_place, closest_place}
use Rattle.vk_config.specs.Closeness.{place_or, place_of}
use Rattle.vk_config.proofs.ClosenessLemmas.{IsClosest, closest_is, close_is, takes_close, takes_is}
use Rattle.vk_config.proofs.ClosenessLemmas.{close_beats, beats_close}

none_is : {A : Type 0} {x : A} → None ≡ Some x → ⊥
none_is e = (cc)

none_is_some : (n : ℕ) → None ≡ Some n → ⊥
none_is_some n e = (cc)

some_is : {n m : ℕ} → Some n ≡ Some m → n ≡ m
some_is e = (cc)

-- ---- the registries

-- how closely the registry at a place takes a port
abbrev At : List ℕ → List Registry → ℕ → Option ℕ → Type 0
At port registries place found = (registry : Registry)
    × (slice_get registries place ≡ Some registry) × (closest port (patterns_of registry) ≡ found)

-- no registry takes the port, or this is the first of those that take it most closely
abbrev IsClosestPlace : List ℕ → List Registry → Option Found → Type 0
IsClosestPlace port registries None = (place n : ℕ) → At port registries place (Some n) → ⊥
IsClosestPlace port registries (Some found) =
    At port registries found.place (Some found.closeness)
    × ((place n : ℕ) → At port registries place (Some n) → (n ≤ found.closeness)
    × (place < found.place → n < found.closeness))

get_push : (registries : List Registry) (last : Registry)
    → slice_get (registries ++ last ∷ []) (length registries) ≡ Some last
get_push [] last = refl
get_push (registry ∷ registries) last = get_push registries last

get_before : (registries : List Registry) (last registry : Registry) (place : ℕ)
    → slice_get registries place ≡ Some registry
    → slice_get (registries ++ last ∷ []) place ≡ Some registry
get_before [] last registry place at = (cc)
get_before (one ∷ registries) last registry zero at = at
get_before (one ∷ registries) last registry (suc place) at =
    get_before registries last registry place at

get_cases : (registries : List Registry) (last registry : Registry) (place : ℕ)
    → slice_get (registries ++ last ∷ []) place ≡ Some registry
    → (slice_get registries place ≡ Some registry) × (place < length registries)
    ⊎ (place ≡ length registries) × (last ≡ registry)
get_cases [] last registry zero at = inr (refl, (cc))
get_cases [] last registry (suc place) at = (cc)
get_cases (one ∷ registries) last registry zero at = inl (at, omega arith)
get_cases (one ∷ registries) last registry (suc place) at =
    elim (get_cases registries last registry place at) [
      | inl before ↦ inl (before.0, omega (arith, before.1))
      | inr same ↦ inr (ap suc same.0, same.1)
    ]

within : (registries : List Registry) (registry : Registry) (place : ℕ)
    → slice_get registries place ≡ Some registry → place < length registries
within [] registry place at = (cc)
within (one ∷ registries) registry zero at = omega arith
within (one ∷ registries) registry (suc place) at =
    let less = within registries registry place at in omega (arith, less)

at_before : (port : List ℕ) (registries : List Registry) (last : Registry) (place : ℕ)
    (found : Option ℕ) → At port registries place found
    → At port (registries ++ last ∷ []) place found
at_before port registries last place found at =
    (at.0, get_before registries last at.0 place at.1, at.2)

-- what is at a place of one registry more
at_cases : (port : List ℕ) (registries : List Registry) (last : Registry) (place n : ℕ)
    → At port (registries ++ last ∷ []) place (Some n)
    → At port registries place (Some n) × (place < length registries) ⊎ (place ≡ length registries)
    × (closest port (patterns_of last) ≡ Some n)
at_cases port registries last place n at =
    elim (get_cases registries last at.0 place at.1) [
      | inl before ↦ inl ((at.0, before.0, at.2), before.1)
      | inr same ↦ inr (same.0, rw same.1 at.2)
    ]

-- one registry more, which takes the port so closely or doesn't take it
one_place : (port : List ℕ) (registries : List Registry) (last : Registry) (found : Option Found)
    (next : Option ℕ) → closest port (patterns_of last) ≡ next
    → IsClosestPlace port registries found
    → IsClosestPlace port (registries ++ last ∷ []) (closer_place found (length registries) next)
one_place port registries last None None is known = λ place n at.
    elim (at_cases port registries last place n at) [
      | inl before ↦ known place n before.0
      | inr same ↦ none_is_some n (sym is ∙ same.1)
    ]
one_place port registries last (Some f) None is known = (
  at_before port registries last f.place (Some f.closeness) known.0,
  λ place n at. elim (at_cases port registries last place n at) [
    | inl before ↦ known.1 place n before.0
    | inr same ↦ absurd (none_is_some n (sym is ∙ same.1))
  ],
)
one_place port registries last None (Some k) is known = (
  (last, get_push registries last, is),
  λ place n at. elim (at_cases port registries last place n at) [
    | inl before ↦ absurd (known place n before.0)
    | inr same ↦
        (let equal =
        some_is (sym is ∙ same.1) in
        (omega (arith, equal), λ less. absurd (omega (arith, less, same.0))))
  ],
)
one_place port registries last (Some f) (Some k) is known =
    two_places port registries last f k (nat_le k f.closeness) refl is known
  where
    two_places : (port : List ℕ) (registries : List Registry) (last : Registry) (f : Found) (k : ℕ)
        (test : Bool) → nat_le k f.closeness ≡ test → closest port (patterns_of last) ≡ Some k
        → IsClosestPlace port registries (Some f)
        → IsClosestPlace port (registries ++ last ∷ [])
        (if test then Some f else Some (record { place = length registries; closeness = k }))
    two_places port registries last f k true few is known =
        let most : k ≤ f.closeness = grind (arith, nat_tests) in (
          at_before port registries last f.place (Some f.closeness) known.0,
          λ place n at. elim (at_cases port registries last place n at) [
            | inl before ↦ known.1 place n before.0
            | inr same ↦
                (let equal =
                some_is (sym is ∙ same.1) in let inside =
                within registries known.0.0 f.place known.0.1 in
                (omega (arith, equal, most), λ less. absurd (omega (arith, less, same.0, inside))))
          ],
        )
    two_places port registries last f k false more is known =
        let greater : f.closeness < k = grind (arith, nat_tests) in (
          (last, get_push registries last, is),
          λ place n at. elim (at_cases port registries last place n at) [
            | inl before ↦
                (let few =
                known.1 place n before.0 in let most =
                few.0 in (omega (arith, greater, most), λ less. omega (arith, greater, most)))
            | inr same ↦
                (let equal =
                some_is (sym is ∙ same.1) in
                (omega (arith, equal), λ less. absurd (omega (arith, less, same.0))))
          ],
        )

places_after : (port : List ℕ) (before registries : List Registry) (found : Option Found)
    → IsClosestPlace port before found
    → IsClosestPlace port (before ++ registries)
    (closest_place port found (length before) registries)
places_after port before [] found known = rw (append-nil before) known
places_after port before (registry ∷ registries) found known =
    let count : length (before ++ registry ∷ []) ≡ length before + 1 =
    length-append before (registry ∷ []) in
    rw (sym (append_assoc before (registry ∷ []) registries), ← count)
    (places_after port (before ++ registry ∷ []) registries
    (closer_place found (length before) (closest port (patterns_of registry)))
    (one_place port before registry found (closest port (patterns_of registry)) refl known))

no_place : (port : List ℕ) → IsClosestPlace port [] None
no_place port place n at = let e : None ≡ Some at.0 = at.1 in none_is e

place_is : (port : List ℕ) (registries : List Registry)
    → IsClosestPlace port registries (closest_place port None 0 registries)
place_is port registries = places_after port [] registries None (no_place port)

-- ---- from numbers to patterns

-- a pattern that takes the port, in a registry that takes it at least so closely
taken_at : (port : List ℕ) (registries : List Registry) (place : ℕ) (pattern : Pattern)
    → HasPattern registries port place pattern → (n m : ℕ) × (closeness port pattern ≡ Some n)
    × At port registries place (Some m) × (n ≤ m)
taken_at port registries place pattern has =
    let close = takes_close port pattern has.takes in
    by (closest port (patterns_of has.registry)) refl
    (closest_is port (patterns_of has.registry)) close
  where
    by : (found : Option ℕ) → closest port (patterns_of has.registry) ≡ found
        → IsClosest port (patterns_of has.registry) found → (n : ℕ)
        × (closeness port pattern ≡ Some n) → (n m : ℕ) × (closeness port pattern ≡ Some n)
        × At port registries place (Some m) × (n ≤ m)
    by None is known close =
        absurd (none_is_some close.0 (sym (known pattern has.listed) ∙ close.1))
    by (Some m) is known close = (
      close.0,
      m,
      close.1,
      (has.registry, has.stands, is),
      known.1 pattern close.0 has.listed close.1,
    )

none_takes : (port : List ℕ) (registries : List Registry) → IsClosestPlace port registries None
    → NoneTakes registries port
none_takes port registries known place pattern has =
    let t = taken_at port registries place pattern has in known place t.1 t.3

best_at : (port : List ℕ) (registries : List Registry) (found : Found)
    → IsClosestPlace port registries (Some found) → IsBest registries port found.place
best_at port registries found known =
    let at = known.0 in
    let closest_one : IsClosest port (patterns_of at.0) (Some found.closeness) =
    rw at.2 at (closest_is port (patterns_of at.0)) in
    let pattern = closest_one.0.0 in
    let close = close_is port pattern found.closeness closest_one.0.2 in
    record {
      pattern = pattern;
      has =
          record {
            registry =
                at.0;
            stands =
                at.1;
            listed = closest_one.0.1;
            takes = takes_is port pattern found.closeness close;
          };
      unbeaten = λ other rival has beats.
          let t = taken_at port registries other rival has in
          let less =
          beats_close port pattern rival found.closeness t.0 close
          (close_is port rival t.0 t.2) beats in
          let most = (known.1 other t.1 t.3).0 in
          let few = t.4 in
          omega (arith, less, most, few);
      first = λ other rival before has.
          let t = taken_at port registries other rival has in
          let less = (known.1 other t.1 t.3).1 before in
          let few = t.4 in
          close_beats port rival pattern t.0 found.closeness (close_is port rival t.0 t.2) close
          (omega (arith, less, few));
    }

-- ---- the registry that a port comes from

served_by : (config : Config) (port : List ℕ) (found : Option Found) (default : Bool)
    → IsClosestPlace port config.registries found → has_default config ≡ default
    → IfSome (place_or (if default then Some (length config.registries) else None) found)
    (IsServedAt config port)
served_by config port (Some found) default known is =
    by_pattern found.place (best_at port config.registries found known)
served_by config port None true known is = by_default (none_takes port config.registries known) is
served_by config port None false known is = tt

pub served : (config : Config) (port : List ℕ)
    → IfSome (place_of config port) (IsServedAt config port)
served config port =
    served_by config port (closest_place port None 0 config.registries) (has_default config)
    (place_is port config.registries) refl

unserved_by : (config : Config) (port : List ℕ) (found : Option Found) (default : Bool)
    → IsClosestPlace port config.registries found → has_default config ≡ default
    → place_or (if default then Some (length config.registries) else None) found ≡ None
    → IsUnserved config port
unserved_by config port (Some found) default known is e = absurd (none_is (sym e))
unserved_by config port None true known is e = absurd (none_is (sym e))
unserved_by config port None false known is e =
    record { taken = none_takes port config.registries known; default = is }

not_both : (config : Config) (port : List ℕ) (place : ℕ) → IsServedAt config port place
    → IsUnserved config port → ⊥
not_both config port place (by_pattern at best) none = none.taken at best.pattern best.has
not_both config port place (by_default nobody default) none = let clash : true ≡ false = sym default
    ∙ none.default in (cc)

none_by : (config : Config) (port : List ℕ) (answer : Option ℕ)
    → IfSome answer (IsServedAt config port) → IsUnserved config port → answer ≡ None
none_by config port None at none = refl
none_by config port (Some place) at none = absurd (not_both config port place at none)

pub unserved : (config : Config) (port : List ℕ) → place_of config port ≡ None
    ↔ IsUnserved config port
unserved config port = (
  unserved_by config port (closest_place port None 0 config.registries) (has_default config)
      (place_is port config.registries) refl,
  none_by config port (place_of config port) (served config port),
)

-- at most one place is best
one_best : (registries : List Registry) (port : List ℕ) (place other : ℕ)
    → IsBest registries port place → IsBest registries port other → place < other → ⊥
one_best registries port place other one two before =
    one.unbeaten other two.pattern two.has (two.first place one.pattern before one.has)

same_place : (registries : List Registry) (port : List ℕ) (place other : ℕ)
    → IsBest registries port place → IsBest registries port other → place ≡ other
same_place registries port place other one two =
    elim (cases_lt place other) [
      | inl before ↦ absurd (one_best registries port place other one two before)
      | inr most ↦ elim (cases_lt other place) [
        | inl after ↦ absurd (one_best registries port other place two one after)
        | inr least ↦ omega (arith, most, least)
      ]
    ]

pub one_registry : (config : Config) (port : List ℕ) (place other : ℕ)
    → IsServedAt config port place → IsServedAt config port other → place ≡ other
one_registry config port place other (by_pattern p one) (by_pattern q two) =
    same_place config.registries port p q one two
one_registry config port place other (by_pattern p one) (by_default nobody default) =
    absurd (nobody p one.pattern one.has)
one_registry config port place other (by_default nobody default) (by_pattern q two) =
    absurd (nobody q two.pattern two.has)
one_registry config port place other (by_default nobody default) (by_default again also) = refl

is_served : (config : Config) (port : List ℕ) (answer : Option ℕ) (place : ℕ)
    → IfSome answer (IsServedAt config port) → answer ≡ Some place → IsServedAt config port place
is_served config port answer place at is = rw is at at

-- a port that comes from a place is served by what the search finds
is_found : (config : Config) (port : List ℕ) (answer : Option ℕ) (place : ℕ)
    → IfSome answer (IsServedAt config port) → (answer ≡ None → IsUnserved config port)
    → IsServedAt config port place → answer ≡ Some place
is_found config port None place at none here = absurd (not_both config port place here (none refl))
is_found config port (Some found) place at none here =
    ap Some (one_registry config port found place at here)

pub served_exactly : (config : Config) (port : List ℕ) (place : ℕ)
    → place_of config port ≡ Some place ↔ IsServedAt config port place
served_exactly config port place = (
  is_served config port (place_of config port) place (served config port),
  is_found config port (place_of config port) place (served config port) (unserved config port).0,
)
