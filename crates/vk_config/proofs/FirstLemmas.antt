-- The first registry that has a pattern, and the registry that a port comes from by it.
use Rattle.std.proofs.Common.{◌≡◌, ◌+◌, ◌<◌, ◌≤◌, ◌||◌, ℕ, zero, suc, Bool, true, false, List, [], ◌∷◌, ◌++◌}
use Rattle.std.proofs.Common.{length, take, drop, map, get_or, inl, inr, refl, ap, sym, subst, ◌∙◌, arith}
use Rattle.std.specs.Prelude.{Option, Some, None, IfSome, IfNone, slice_get, cond, not, if◌then◌else◌}
use Rattle.std.specs.List.{Contains, list_any, position_from}
use Rattle.std.specs.Map.{lookup}
use Rattle.std.specs.Option.{option_or, is_some}
use Rattle.std.proofs.lemmas.Bool.{cases_lt}
use Rattle.std.proofs.Math.Seq.{take-append_seam}
use Rattle.std.proofs.lemmas.List.{length-append, length-map, length-take-le, take-append-drop}
use Rattle.std.proofs.lemmas.List.{take_more, map-append}
use Rattle.std.proofs.lemmas.List.Folds.{list_any_at, list_any-append}
use Rattle.std.proofs.lemmas.Map.Views.{Contains-from_any}
use Rattle.std.proofs.lemmas.Slice.Eq.{bytes_eq-Decides}
use Rattle.vk_config.specs.Configs.{Pattern, exact, starting, Registry, Config}
use Rattle.vk_config.specs.Serving.{Takes, Beats, patterns_of, HasPattern, IsBest, NoneTakes}
use Rattle.vk_config.specs.Serving.{has_default, by_pattern, by_default}
use Rattle.vk_config.specs.Closeness.{default_place, place_of}
use Rattle.vk_config.specs.FirstPlaces.{is_same, has_pattern, first_with, NoLonger, IsLongest}
use Rattle.vk_config.specs.FirstPlaces.{NoneBegins, PatternPlaces}
use Rattle.vk_config.proofs.ServingLaws.{served_exactly, unserved}

-- ---- the first of a list

-- one member more
pub position_more : {X : Type 0} (test : X → Bool) (i : ℕ) (xs : List X) (x : X)
    → position_from test i (xs ++ x ∷ [])
    ≡ option_or (position_from test i xs) (if test x then Some (i + length xs) else None)
position_more test i [] x = grind arith
position_more test i (y ∷ ys) x =
    by (test y) (position_from test (i + 1) ys)
    (if test x then Some (i + length (y ∷ ys)) else None) (position_from test (i + 1) (ys ++ x ∷ []))
    (position_more test (i + 1) ys x ∙ rw (shift i (length ys)) refl)
  where
    shift : (i n : ℕ) → i + 1 + n ≡ i + suc n
    shift i n = omega arith

    by : (here : Bool) (one two rest : Option ℕ) → rest ≡ option_or one two
        → cond here (Some i) rest ≡ option_or (cond here (Some i) one) two
    by true one two rest e = refl
    by false one two rest e = e

-- one entry more
pub lookup_more : {K : Type 0} (test : K → Bool) (entries : List (K × ℕ)) (key : K) (place : ℕ)
    → lookup test (entries ++ (key, place) ∷ [])
    ≡ option_or (lookup test entries) (if test key then Some place else None)
lookup_more test [] key place = by (test key)
  where
    by : (here : Bool) → cond here (Some place) None ≡ (if here then Some place else None)
    by true = refl
    by false = refl
lookup_more test (entry ∷ entries) key place =
    by (test entry.0) (lookup test (entries ++ (key, place) ∷ [])) (lookup test entries)
    (if test key then Some place else None) (lookup_more test entries key place)
  where
    by : (here : Bool) (rest one two : Option ℕ) → rest ≡ option_or one two
        → cond here (Some entry.1) rest ≡ option_or (cond here (Some entry.1) one) two
    by true rest one two e = refl
    by false rest one two e = e

pub is_nothing : (found kept : Option ℕ) (none : Bool) → is_some found ≡ not none → none ≡ true
    → found ≡ kept → kept ≡ None
is_nothing None kept none is holds e = sym e
is_nothing (Some n) kept none is holds e =
    let differ : true ≡ false = is ∙ ap not holds in (cc)

-- one member more, of which any may pass
pub any_more : {X : Type 0} (test : X → Bool) (xs : List X) (x : X) (place : ℕ)
    (before : Option ℕ)
    → option_or (option_or before (if list_any test xs then Some place else None))
    (if test x then Some place else None)
    ≡ option_or before (if list_any test (xs ++ x ∷ []) then Some place else None)
any_more test xs x place before =
    rw (list_any-append test xs (x ∷ [])) (by before (list_any test xs) (test x))
  where
    by : (before : Option ℕ) (one two : Bool)
        → option_or (option_or before (if one then Some place else None))
        (if two then Some place else None)
        ≡ option_or before (if one || (two || false) then Some place else None)
    by (Some n) one two = refl
    by None true two = refl
    by None false true = refl
    by None false false = refl

-- the first of one member more, by its view
pub first_more : {R X : Type 0} (view : R → X) (test : X → Bool) (xs : List R) (i : ℕ) (x : R)
    → i < length xs → get_or xs i x ≡ x
    → option_or (position_from test 0 (map view (take i xs)))
    (if test (view x) then Some i else None)
    ≡ position_from test 0 (map view (take (i + 1) xs))
first_more view test xs i x less is =
    let size = length-map (take i xs) view ∙ length-take-le i xs (omega (arith, less)) in
    let long : 0 + length (map view (take i xs)) ≡ i = omega (arith, size) in
    let more = take_more xs i x less ∙ ap (λ y. take i xs ++ y ∷ []) is in
    rw more
    (rw (map-append view (take i xs) (x ∷ []))
    (sym
    (position_more test 0 (map view (take i xs)) (view x)
    ∙ ap (λ n. option_or (position_from test 0 (map view (take i xs)))
    (if test (view x) then Some n else None)) long)))

-- where it stands
record IsAt {X : Type 0} (test : X → Bool) (i : ℕ) (xs : List X) (n : ℕ) : Type 0 where
  pub place : ℕ
  pub member : X
  pub counted : n ≡ i + place
  pub stands : slice_get xs place ≡ Some member
  pub passes : test member ≡ true

position_at : {X : Type 0} (test : X → Bool) (i : ℕ) (xs : List X) (n : ℕ)
    → position_from test i xs ≡ Some n → IsAt test i xs n
position_at test i [] n e = (cc)
position_at test i (x ∷ xs) n e = by (test x) refl e (position_at test (i + 1) xs n)
  where
    by : (here : Bool) → test x ≡ here → cond here (Some i) (position_from test (i + 1) xs) ≡ Some n
        → (position_from test (i + 1) xs ≡ Some n → IsAt test (i + 1) xs n)
        → IsAt test i (x ∷ xs) n
    by true is e rest =
        let same : i ≡ n = (cc) in
        record { place = 0; member = x; counted = omega (arith, same); stands = refl; passes = is }
    by false is e rest =
        let at = rest e in
        let count = at.counted in
        record {
          place = suc at.place;
          member = at.member;
          counted = omega (arith, count);
          stands = at.stands;
          passes = at.passes;
        }

-- none before it passes
position_before : {X : Type 0} (test : X → Bool) (i : ℕ) (xs : List X) (n : ℕ)
    → position_from test i xs ≡ Some n → (k : ℕ) (x : X) → i + k < n → slice_get xs k ≡ Some x
    → test x ≡ false
position_before test i [] n e k x less at = (cc)
position_before test i (y ∷ ys) n e k x less at =
    by (test y) refl e k less at (λ e j. position_before test (i + 1) ys n e j x)
  where
    by : (here : Bool) → test y ≡ here → cond here (Some i) (position_from test (i + 1) ys) ≡ Some n
        → (k : ℕ) → i + k < n → slice_get (y ∷ ys) k ≡ Some x
        → (position_from test (i + 1) ys ≡ Some n → (j : ℕ) → i + 1 + j < n
        → slice_get ys j ≡ Some x → test x ≡ false)
        → test x ≡ false
    by true is e k less at rest = let same : i ≡ n = (cc) in absurd (omega (arith, same, less))
    by false is e zero less at rest = let same : y ≡ x = (cc) in rw (sym same) is
    by false is e (suc k) less at rest = rest e k (omega (arith, less)) at

position_none : {X : Type 0} (test : X → Bool) (i : ℕ) (xs : List X)
    → position_from test i xs ≡ None → (k : ℕ) (x : X) → slice_get xs k ≡ Some x → test x ≡ false
position_none test i [] e k x at = (cc)
position_none test i (y ∷ ys) e k x at =
    by (test y) refl e k at (λ e j. position_none test (i + 1) ys e j x)
  where
    by : (here : Bool) → test y ≡ here → cond here (Some i) (position_from test (i + 1) ys) ≡ None
        → (k : ℕ) → slice_get (y ∷ ys) k ≡ Some x
        → (position_from test (i + 1) ys ≡ None → (j : ℕ) → slice_get ys j ≡ Some x
        → test x ≡ false)
        → test x ≡ false
    by true is e k at rest = (cc)
    by false is e zero at rest = let same : y ≡ x = (cc) in rw (sym same) is
    by false is e (suc k) at rest = rest e k at

-- ---- registries that have a pattern

same_is : (one other : Pattern) → is_same one other ≡ true → one ≡ other
same_is (exact name) (exact other) e = ap exact ((bytes_eq-Decides name other).0 e)
same_is (exact name) (starting other) e = (cc)
same_is (starting text) (exact other) e = (cc)
same_is (starting text) (starting other) e = ap starting ((bytes_eq-Decides text other).0 e)

same_self : (pattern : Pattern) → is_same pattern pattern ≡ true
same_self (exact name) = (bytes_eq-Decides name name).1 refl
same_self (starting text) = (bytes_eq-Decides text text).1 refl

has_it : (pattern : Pattern) (registry : Registry) → Contains (patterns_of registry) pattern
    → has_pattern pattern registry ≡ true
has_it pattern registry at =
    list_any_at (is_same pattern) (patterns_of registry) at.0 pattern at.1
    (rw at.2 (same_self pattern))

clash : {b : Bool} → b ≡ true → b ≡ false → ⊥
clash holds fails = let e : true ≡ false = sym holds ∙ fails in (cc)

-- a pattern that no registry has
never : (registries : List Registry) (pattern : Pattern) → first_with registries pattern ≡ None
    → (place : ℕ) (registry : Registry) → slice_get registries place ≡ Some registry
    → Contains (patterns_of registry) pattern → ⊥
never registries pattern none place registry stands at =
    clash (has_it pattern registry at)
    (position_none (has_pattern pattern) 0 registries none place registry stands)

-- a pattern that a registry before the first has
earlier : (registries : List Registry) (pattern : Pattern) (first : ℕ)
    → first_with registries pattern ≡ Some first → (place : ℕ) (registry : Registry)
    → place < first → slice_get registries place ≡ Some registry
    → Contains (patterns_of registry) pattern → ⊥
earlier registries pattern first is place registry less stands at =
    clash (has_it pattern registry at)
    (position_before (has_pattern pattern) 0 registries first is place registry
    (omega (arith, less)) stands)

first_has : (registries : List Registry) (port : List ℕ) (pattern : Pattern) (first : ℕ)
    → first_with registries pattern ≡ Some first → Takes pattern port
    → HasPattern registries port first pattern
first_has registries port pattern first is takes =
    let at = position_at (has_pattern pattern) 0 registries first is in
    let same : at.place ≡ first = let count = at.counted in omega (arith, count) in
    record {
      registry = at.member;
      stands = rw same at at.stands;
      listed = Contains-from_any same_is pattern (patterns_of at.member) at.passes;
      takes = takes;
    }

-- ---- the best pattern

no_name_beaten : (rival : Pattern) (name : List ℕ) → Beats rival (exact name) → ⊥
no_name_beaten (exact other) name beats = beats
no_name_beaten (starting text) name beats = beats

pub best_by_name : (registries : List Registry) (port : List ℕ) (place : ℕ)
    → first_with registries (exact port) ≡ Some place → IsBest registries port place
best_by_name registries port place is =
    record {
      pattern = exact port;
      has = first_has registries port (exact port) place is refl;
      unbeaten = λ other rival has beats. no_name_beaten rival port beats;
      first = λ other rival before has.
          later rival has.registry before has.stands has.listed has.takes;
    }
  where
    later : {other : ℕ} (rival : Pattern) (registry : Registry) → other < place
        → slice_get registries other ≡ Some registry → Contains (patterns_of registry) rival
        → Takes rival port → Beats (exact port) rival
    later {other} (exact name) registry before stands listed takes =
        absurd
        (earlier registries (exact port) place is other registry before stands
        (subst (λ n. Contains (patterns_of registry) (exact n)) takes listed))
    later (starting text) registry before stands listed takes = tt

-- a beginning is the first bytes
begins : (text rest port : List ℕ) → port ≡ text ++ rest → text ≡ take (length text) port
begins text rest port e = sym (ap (take (length text)) e ∙ take-append_seam text rest)

fits : (text rest port : List ℕ) → port ≡ text ++ rest → length text ≤ length port
fits text rest port e =
    let long = ap length e ∙ length-append text rest in omega (arith, long)

-- a name that no registry has, where no beginning longer than this is had
no_rival : (registries : List Registry) (port : List ℕ) (size : ℕ)
    → first_with registries (exact port) ≡ None → NoLonger (first_with registries) port size
    → (place : ℕ) (rival : Pattern) → HasPattern registries port place rival
    → Beats rival (starting (take size port)) → length (take size port) ≡ size → ⊥
no_rival registries port size unnamed longest place rival has beats long =
    by rival has.listed has.takes beats
  where
    by : (rival : Pattern) → Contains (patterns_of has.registry) rival → Takes rival port
        → Beats rival (starting (take size port)) → ⊥
    by (exact name) listed takes beats =
        never registries (exact port) unnamed place has.registry has.stands
        (subst (λ n. Contains (patterns_of has.registry) (exact n)) takes listed)
    by (starting text) listed takes beats =
        let few = fits text takes.0 port takes.1 in
        never registries (starting (take (length text) port))
        (longest (length text) (omega (arith, beats, long)) few) place has.registry has.stands
        (subst (λ t. Contains (patterns_of has.registry) (starting t))
        (begins text takes.0 port takes.1) listed)

-- nor is it had before its first registry, nor is another as long
beats_before : (registries : List Registry) (port : List ℕ) (size first : ℕ)
    → first_with registries (exact port) ≡ None → NoLonger (first_with registries) port size
    → first_with registries (starting (take size port)) ≡ Some first
    → length (take size port) ≡ size → (place : ℕ) (rival : Pattern) → place < first
    → HasPattern registries port place rival → Beats (starting (take size port)) rival
beats_before registries port size first unnamed longest is long place rival before has =
    by rival has.listed has.takes
  where
    by : (rival : Pattern) → Contains (patterns_of has.registry) rival → Takes rival port
        → Beats (starting (take size port)) rival
    by (exact name) listed takes =
        absurd
        (never registries (exact port) unnamed place has.registry has.stands
        (subst (λ n. Contains (patterns_of has.registry) (exact n)) takes listed))
    by (starting text) listed takes =
        let few = fits text takes.0 port takes.1 in
        let here : Contains (patterns_of has.registry) (starting (take (length text) port)) =
        subst (λ t. Contains (patterns_of has.registry) (starting t))
        (begins text takes.0 port takes.1) listed in
        elim (cases_lt (length text) size) [
          | inl less ↦ omega (arith, less, long)
          | inr most ↦ elim (cases_lt size (length text)) [
            | inl more ↦ absurd
                (never registries (starting (take (length text) port))
                (longest (length text) more few) place has.registry has.stands here)
            | inr same ↦
                (let equal : length text ≡ size = omega (arith, most, same) in
                absurd
                (earlier registries (starting (take size port)) first is place has.registry before
                has.stands
                (subst (λ n. Contains (patterns_of has.registry) (starting (take n port))) equal
                here)))
          ]
        ]

pub best_by_beginning : (registries : List Registry) (port : List ℕ) (place : ℕ)
    → first_with registries (exact port) ≡ None → IsLongest (first_with registries) port place
    → IsBest registries port place
best_by_beginning registries port place unnamed is =
    let long = length-take-le is.size port is.within in
    record {
      pattern = starting (take is.size port);
      has =
          first_has registries port (starting (take is.size port)) place is.at
          (drop is.size port, sym (take-append-drop is.size port));
      unbeaten = λ other rival has beats.
          no_rival registries port is.size unnamed is.longest other rival has beats long;
      first = λ other rival before has.
          beats_before registries port is.size place unnamed is.longest is.at long other rival
          before has;
    }

pub none_takes : (registries : List Registry) (port : List ℕ)
    → first_with registries (exact port) ≡ None → NoneBegins (first_with registries) port
    → NoneTakes registries port
none_takes registries port unnamed none place pattern has =
    by pattern has.listed has.takes
  where
    by : (pattern : Pattern) → Contains (patterns_of has.registry) pattern → Takes pattern port → ⊥
    by (exact name) listed takes =
        never registries (exact port) unnamed place has.registry has.stands
        (subst (λ n. Contains (patterns_of has.registry) (exact n)) takes listed)
    by (starting text) listed takes =
        never registries (starting (take (length text) port))
        (none (length text) (fits text takes.0 port takes.1)) place has.registry has.stands
        (subst (λ t. Contains (patterns_of has.registry) (starting t))
        (begins text takes.0 port takes.1) listed)

-- what an index of the registries answers for beginnings, where it has no name

pub best_here : (registries : List Registry) (port : List ℕ) (places : PatternPlaces)
    (found : Option ℕ) → ((pattern : Pattern) → places pattern ≡ first_with registries pattern)
    → places (exact port) ≡ None → IfSome found (IsLongest places port)
    → IfSome found (IsBest registries port)
best_here registries port places None are unnamed is = is
best_here registries port places (Some place) are unnamed is =
    best_by_beginning registries port place (sym (are (exact port)) ∙ unnamed)
    (record {
      size = is.size;
      within = is.within;
      at = sym (are (starting (take is.size port))) ∙ is.at;
      longest = λ n less few. sym (are (starting (take n port))) ∙ is.longest n less few;
    })

pub none_here : (registries : List Registry) (port : List ℕ) (places : PatternPlaces)
    (found : Option ℕ) → ((pattern : Pattern) → places pattern ≡ first_with registries pattern)
    → places (exact port) ≡ None → IfNone found (NoneBegins places port)
    → IfNone found (NoneTakes registries port)
none_here registries port places (Some place) are unnamed is = is
none_here registries port places None are unnamed is =
    none_takes registries port (sym (are (exact port)) ∙ unnamed)
    (λ n few. sym (are (starting (take n port))) ∙ is n few)

-- ---- the registry that a port comes from

pub found_place : (config : Config) (port : List ℕ) (place : ℕ)
    → IsBest config.registries port place → Some place ≡ place_of config port
found_place config port place best =
    sym ((served_exactly config port place).1 (by_pattern place best))

pub default_found : (config : Config) (port : List ℕ) → NoneTakes config.registries port
    → default_place config ≡ place_of config port
default_found config port none = by (has_default config) refl
  where
    by : (default : Bool) → has_default config ≡ default
        → (if default then Some (length config.registries) else None) ≡ place_of config port
    by true is =
        sym ((served_exactly config port (length config.registries)).1 (by_default none is))
    by false is = sym ((unserved config port).1 (record { taken = none; default = is }))
