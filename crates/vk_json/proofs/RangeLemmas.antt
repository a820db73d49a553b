-- Whether each number of a value is in range, part by part.
use Rattle.std.proofs.Common.{◌≡◌, ◌&&◌, ◌+◌, ◌<◌, ◌≤◌, ℕ, List, Bool, true, false, length, drop, get_or, Option, Some, None, option_map, option_and_then, Bor, Vec, refl, ap, sym, ◌∙◌, drop_of_length-le}
use Rattle.std.specs.Option.{is_some}
use Rattle.std.specs.declared.alloc.Global.{Global}
use Rattle.std.proofs.lemmas.List.{drop_more}
use Rattle.json.specs.Json as json
use Rattle.json.specs.Value.{value_view, items_view, members_view}
use Rattle.json.specs.declared.value.Value.{Value, Object}
use Rattle.json.proofs.Trees.{view-Object}
use Rattle.serde_json.specs.Data.{Data, Num, Items, item, Members, no_members, put}
use Rattle.serde_json.specs.Data as the
use Rattle.serde_json.specs.Read.{number_of, of_json, of_items, of_members}
use Rattle.vk_json.specs.Values.{number_or_large, data_of, items_data, members_data}
use Rattle.vk_json.proofs.OptionLemmas.{and_then_some, map_some}

-- ---- what is in range is what was read

number_is : (found : Option Num) (d : Data) → option_map the.number found ≡ Some d → the.number (number_or_large found) ≡ d
number_is None d e = (cc)
number_is (Some n) d e = (cc)

mutual
  -- a value whose numbers are all in range is read as its data
  pub json_is : (j : json.Json) (d : Data) → of_json j ≡ Some d → data_of j ≡ d
  json_is json.null d e = (cc)
  json_is (json.boolean b) d e = (cc)
  json_is (json.number s) d e = number_is (number_of s) d e
  json_is (json.string s) d e = (cc)
  json_is (json.array js) d e = let is = map_some (of_items js) the.array d e in ap the.array (items_are js is.0 is.1) ∙ sym is.2
  json_is (json.object ms) d e = let is = map_some (of_members ms no_members) the.object d e in ap the.object (members_are ms no_members is.0 is.1) ∙ sym is.2

  items_are : (js : json.Items) (ds : Items) → of_items js ≡ Some ds → items_data js ≡ ds
  items_are json.no_items ds e = (cc)
  items_are (json.item j js) ds e =
      let first = and_then_some (of_json j) (λ d. option_map (item d) (of_items js)) ds e in
      let rest = map_some (of_items js) (item first.0) ds first.2 in
      rw (json_is j first.0 first.1, items_are js rest.0 rest.1) (sym rest.2)

  members_are : (ms : json.Members) (before out : Members) → of_members ms before ≡ Some out → members_data ms before ≡ out
  members_are json.no_members before out e = (cc)
  members_are (json.member k j ms) before out e =
      let first = and_then_some (of_json j) (λ d. of_members ms (put k d before)) out e in
      rw (json_is j first.0 first.1) (members_are ms (put k first.0 before) out first.2)

-- ---- part by part

some_mapped : {A B : Type 0} (f : A → B) (found : Option A) → is_some (option_map f found) ≡ is_some found
some_mapped f None = refl
some_mapped f (Some x) = refl

item_too : (found : Option Data) (rest : Option Items) → is_some (option_and_then (λ d. option_map (item d) rest) found) ≡ is_some found && is_some rest
item_too None rest = refl
item_too (Some d) rest = some_mapped (item d) rest

-- what was found before doesn't matter
any_before : (ms : json.Members) (a b : Members) → is_some (of_members ms a) ≡ is_some (of_members ms b)
any_before json.no_members a b = refl
any_before (json.member k j ms) a b = by (of_json j) (λ d. any_before ms (put k d a) (put k d b))
  where
    by : (found : Option Data) → ((d : Data) → is_some (of_members ms (put k d a)) ≡ is_some (of_members ms (put k d b)))
        → is_some (option_and_then (λ d. of_members ms (put k d a)) found) ≡ is_some (option_and_then (λ d. of_members ms (put k d b)) found)
    by None same = refl
    by (Some d) same = same d

member_too : (k : List ℕ) (ms : json.Members) (before : Members) (found : Option Data) → is_some (option_and_then (λ d. of_members ms (put k d before)) found) ≡ is_some found && is_some (of_members ms before)
member_too k ms before None = refl
member_too k ms before (Some d) = any_before ms (put k d before) before

-- ---- step by step over a list

abbrev pub items_in_range : List (Value Global) → Bool
items_in_range vs = is_some (of_items (items_view vs))

abbrev pub members_in_range : List (Bor (List ℕ) × Value Global) → Bool
members_in_range ms = is_some (of_members (members_view ms) no_members)

abbrev in_range : Value Global → Bool
in_range v = is_some (of_json (value_view v))

pub items_step : (vs : List (Value Global)) (i : ℕ) (v : Value Global) → i < length vs → v ≡ get_or vs i v
    → items_in_range (drop i vs) ≡ in_range v && items_in_range (drop (i + 1) vs)
items_step vs i v within is = ap items_in_range (drop_more vs i v within) ∙ item_too (of_json (value_view (get_or vs i v))) (of_items (items_view (drop (i + 1) vs))) ∙ ap (λ w. in_range w && items_in_range (drop (i + 1) vs)) (sym is)

pub items_end : (vs : List (Value Global)) (i : ℕ) → length vs ≤ i → items_in_range (drop i vs) ≡ true
items_end vs i past = ap items_in_range (drop_of_length-le vs past)

pub members_step : (ms : List (Bor (List ℕ) × Value Global)) (i : ℕ) (m : Bor (List ℕ) × Value Global) → i < length ms → m ≡ get_or ms i m
    → members_in_range (drop i ms) ≡ in_range m.1 && members_in_range (drop (i + 1) ms)
members_step ms i m within is =
    ap members_in_range (drop_more ms i m within)
    ∙ member_too (get_or ms i m).0.now (members_view (drop (i + 1) ms)) no_members (of_json (value_view (get_or ms i m).1))
    ∙ ap (λ n. in_range n.1 && members_in_range (drop (i + 1) ms)) (sym is)

pub members_end : (ms : List (Bor (List ℕ) × Value Global)) (i : ℕ) → length ms ≤ i → members_in_range (drop i ms) ≡ true
members_end ms i past = ap members_in_range (drop_of_length-le ms past)

-- ---- the whole list, by what is left of it

pub ends_at : {whole left first : Bool} (rest : Bool) → left ≡ whole → left ≡ first && rest → false ≡ first → false ≡ whole
ends_at rest same step ends = let e = rw (sym ends) at step in sym e ∙ same

pub goes_on_at : {whole left first rest : Bool} → left ≡ whole → left ≡ first && rest → true ≡ first → rest ≡ whole
goes_on_at same step holds = let e = rw (sym holds) at step in sym e ∙ same

pub object_too : (v : Value Global) (ms : Vec (Bor (List ℕ) × Value Global) Global) {listed : List (Bor (List ℕ) × Value Global)} {found : Bool} → listed ≡ ms.items → v ≡ Object ms → found ≡ members_in_range listed → found ≡ in_range v
object_too v ms same is found = rw is (rw same at found ∙ sym (some_mapped the.object (of_members (members_view ms.items) no_members)) ∙ ap (λ j. is_some (of_json j)) (sym (view-Object ms)))
