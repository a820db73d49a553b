-- Members whose keys ascend as they are written are in order already.
use Rattle.std.proofs.Common.{◌≡◌, ◌+◌, ◌<◌, ℕ, Bool, true, false, List, [], ◌∷◌, length, get_or, drop, map, Ordering, Bor, refl, ap, sym, ◌∙◌, subst, arith}
use Rattle.std.specs.Prelude.{IsTrue}
use Rattle.std.specs.declared.alloc.Global.{Global}
use Rattle.std.specs.declared.cmp.Ordering.TheVariants.{Less, Equal, Greater}
use Rattle.std.specs.List.{AllByRecursion, AllAdjacentBelow, IsAllAdjacentAnswer}
use Rattle.std.specs.List.Sorted.{IsStrictlySortedBy}
use Rattle.std.specs.Ordering.{nat_cmp, ordering_reverse, is_lt}
use Rattle.std.specs.Cmp.Lexicographic.{slice_cmp}
use native.Mathlib.Numerals.{unary_clauses}
use Rattle.std.proofs.lemmas.Cmp.{nat_list_cmp_total}
use Rattle.std.proofs.lemmas.List.{drop_more}
use Rattle.json.specs.Json as json
use Rattle.json.specs.Value.{members_view}
use Rattle.json.specs.declared.value.Value.{Value}
use Rattle.serde_json.specs.Data.{Data, Members, no_members, member, put}
use Rattle.vk_json.specs.KeyOrders.{Ascend}
use Rattle.vk_json.specs.Looks.{names_of}
use Rattle.vk_json.specs.Readings.{pairs_of}
use Rattle.vk_json.specs.Values.{data_of, members_data, pair_of}

abbrev bytes_cmp : List ℕ → List ℕ → Ordering
bytes_cmp = slice_cmp nat_cmp

abbrev Written : Type 0
Written = Bor (List ℕ) × Value Global

-- members behind others
abbrev behind : Members → Members → Members
behind no_members more = more
behind (member k d ms) more = member k d (behind ms more)

behind_nothing : (ms : Members) → behind ms no_members ≡ ms
behind_nothing no_members = refl
behind_nothing (member k d ms) = ap (member k d) (behind_nothing ms)

behind_both : (ms ns more : Members) → behind (behind ms ns) more ≡ behind ms (behind ns more)
behind_both no_members ns more = refl
behind_both (member k d ms) ns more = ap (member k d) (behind_both ms ns more)

-- members as they are written
abbrev straight : json.Members → Members
straight json.no_members = no_members
straight (json.member k j ms) = member k (data_of j) (straight ms)

abbrev Below : List ℕ → List (List ℕ) → Type 0
Below k names = AllByRecursion (λ l. bytes_cmp l k ≡ Less) names

-- what holds of all keys holds of the one in the middle
at_middle : (P : List ℕ → Type 0) (ms : Members) (k : List ℕ) (d : Data) (more : Members) → AllByRecursion P (names_of (behind ms (member k d more))) → P k
at_middle P no_members k d more all = all.0
at_middle P (member l e ms) k d more all = at_middle P ms k d more all.1

below_middle : (ms : Members) (k : List ℕ) (d : Data) (more : Members) → Ascend (names_of (behind ms (member k d more))) → Below k (names_of ms)
unfolding IsStrictlySortedBy
below_middle no_members k d more s = tt
below_middle (member l e ms) k d more s = (at_middle (λ n. bytes_cmp l n ≡ Less) ms k d more s.0, below_middle ms k d more s.1)

-- a member beyond all others is put behind them
put_behind : (k : List ℕ) (d : Data) (ms : Members) → Below k (names_of ms) → put k d ms ≡ behind ms (member k d no_members)
put_behind k d no_members b = refl
put_behind k d (member l e ms) b =
    let greater : bytes_cmp k l ≡ Greater = nat_list_cmp_total.antisymm k l ∙ ap ordering_reverse b.0 in
    rw greater (ap (member l e) (put_behind k d ms b.1))

in_order : (ms : json.Members) (before : Members) → Ascend (names_of (behind before (straight ms))) → members_data ms before ≡ behind before (straight ms)
in_order json.no_members before s = sym (behind_nothing before)
in_order (json.member k j ms) before s =
    let d = data_of j in
    let one = put_behind k d before (below_middle before k d (straight ms) s) in
    let both = behind_both before (member k d no_members) (straight ms) in
    ap (members_data ms) one
    ∙ in_order ms (behind before (member k d no_members)) (subst (λ all. Ascend (names_of all)) (sym both) s)
    ∙ both

names_written : (ms : List Written) → names_of (straight (members_view ms)) ≡ map (λ m. m.0.now) ms
names_written [] = refl
names_written (m ∷ ms) = ap (λ ns. m.0.now ∷ ns) (names_written ms)

pairs_written : (ms : List Written) → pairs_of (straight (members_view ms)) ≡ map pair_of ms
pairs_written [] = refl
pairs_written (m ∷ ms) = ap (λ ps. pair_of m ∷ ps) (pairs_written ms)

-- members whose keys ascend, one after the other, are the members by their keys
pub written_in_order : (ms : List Written) → Ascend (map (λ m. m.0.now) ms) → pairs_of (members_data (members_view ms) no_members) ≡ map pair_of ms
written_in_order ms s =
    ap pairs_of (in_order (members_view ms) no_members (subst Ascend (sym (names_written ms)) s))
    ∙ pairs_written ms

-- the members from a place on are the one that stands there and those after it
pub one_more : (ms : List Written) (i : ℕ) (m : Written) → i < length ms → m ≡ get_or ms i m → map pair_of (drop i ms) ≡ pair_of m ∷ map pair_of (drop (i + 1) ms)
one_more ms i m within is =
    ap (map pair_of) (drop_more ms i m within)
    ∙ ap (λ n. pair_of n ∷ map pair_of (drop (i + 1) ms)) (sym is)

-- keys that each are below the next one ascend
abbrev pub is_below : Written → Written → Bool
is_below m n = is_lt (bytes_cmp m.0.now n.0.now)

lt_is_less : (o : Ordering) → is_lt o ≡ true → o ≡ Less
lt_is_less Less e = refl
lt_is_less Equal e = (cc)
lt_is_less Greater e = (cc)

below_later : (k l : List ℕ) (names : List (List ℕ)) → bytes_cmp k l ≡ Less → AllByRecursion (λ n. bytes_cmp l n ≡ Less) names → AllByRecursion (λ n. bytes_cmp k n ≡ Less) names
below_later k l [] less all = tt
below_later k l (n ∷ names) less all = (nat_list_cmp_total.trans k l n less all.0, below_later k l names less all.1)

get_next : (m : Written) (ms : List Written) (k : ℕ) (d : Written) → get_or (m ∷ ms) (k + 1) d ≡ get_or ms k d
get_next m ms k d = simp unary_clauses refl

pub adjacent_ascend : (ms : List Written) → AllAdjacentBelow (λ m n. is_below m n ≡ true) ms (length ms) → Ascend (map (λ m. m.0.now) ms)
unfolding IsStrictlySortedBy
adjacent_ascend [] each = tt
adjacent_ascend (m ∷ []) each = (tt, tt)
adjacent_ascend (m ∷ n ∷ ms) each =
    let rest = adjacent_ascend (n ∷ ms) (λ k d within. rw (get_next m (n ∷ ms) k d, get_next m (n ∷ ms) (k + 1) d) at (each (k + 1) d (omega (arith, within)))) in
    let less = lt_is_less (bytes_cmp m.0.now n.0.now) (each 0 m (omega arith)) in
    ((less, below_later m.0.now n.0.now (map (λ m. m.0.now) ms) less rest.0), rest)

pub adjacent : (ms : List Written) (answer : Bool) → IsTrue answer → IsAllAdjacentAnswer (λ m n b. b ≡ is_below m n) ms answer → AllAdjacentBelow (λ m n. is_below m n ≡ true) ms (length ms)
adjacent ms true holds each = λ k d within. sym (each k d within)
adjacent ms false holds each = let no : false ≡ true = holds in (cc)
