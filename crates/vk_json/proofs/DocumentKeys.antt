-- In what is read of bytes, the keys of each object ascend.
use Rattle.std.proofs.Common.{◌≡◌, ℕ, suc, zero, Bool, true, false, List, [], ◌∷◌, Ordering, inl, inr, refl, ap, ◌∙◌, subst}
use Rattle.std.specs.Prelude.{Option, Some, None, Ok, option_and_then, slice_get}
use Rattle.std.specs.List.{AllByRecursion, Contains}
use Rattle.std.specs.List.Sorted.{IsStrictlySortedBy}
use Rattle.std.specs.Str.{is_utf8}
use Rattle.std.specs.declared.cmp.Ordering.TheVariants.{Less, Equal, Greater}
use Rattle.std.specs.Ordering.{nat_cmp, match_ordering, ordering_reverse}
use Rattle.std.specs.Cmp.Lexicographic.{slice_cmp}
use Rattle.std.proofs.lemmas.Cmp.{nat_list_cmp_total}
use Rattle.json.specs.Lex.{tokens}
use Rattle.json.specs.Json as json
use Rattle.serde_json.specs.Data.{Data, Items, no_items, item, Members, no_members, member, put}
use Rattle.serde_json.specs.Data as the
use Rattle.serde_json.specs.Read.{of_json, max_depth, read}
use Rattle.vk_spec.specs.Reading.{or_fault}
use Rattle.vk_spec.proofs.ListLemmas.{contains_nothing, contains_cases}
use Rattle.vk_json.specs.declared.faults.FileFault.{FileFault}
use Rattle.vk_json.specs.Documents.{json_of, value_of, without_mark}
use Rattle.vk_json.specs.Looks.{list_of, names_of}
use Rattle.vk_json.specs.KeyOrders.{KeysAscend}
use Rattle.vk_json.specs.Readings.{pairs_of}
use Rattle.vk_json.specs.Values.{data_of, items_data, members_data}
use Rattle.vk_json.proofs.OptionLemmas.{and_then_some}
use Rattle.vk_json.proofs.RangeLemmas.{json_is}
use Rattle.vk_json.specs.Standing.{Leads, itself, by_member, by_item}

abbrev bytes_cmp : List ℕ → List ℕ → Ordering
bytes_cmp = slice_cmp nat_cmp

-- the keys of each object ascend, at any depth
abbrev mutual
  Orderly : Data → Type 0
  Orderly the.null = Unit {0}
  Orderly (the.boolean b) = Unit {0}
  Orderly (the.number n) = Unit {0}
  Orderly (the.string s) = Unit {0}
  Orderly (the.array ds) = OrderlyItems ds
  Orderly (the.object ms) = IsStrictlySortedBy bytes_cmp (names_of ms) × OrderlyMembers ms

  OrderlyItems : Items → Type 0
  OrderlyItems no_items = Unit {0}
  OrderlyItems (item d ds) = Orderly d × OrderlyItems ds

  OrderlyMembers : Members → Type 0
  OrderlyMembers no_members = Unit {0}
  OrderlyMembers (member k d ms) = Orderly d × OrderlyMembers ms

-- ---- a member is put in its place

abbrev After : List ℕ → List (List ℕ) → Type 0
After k names = AllByRecursion (λ l. bytes_cmp k l ≡ Less) names

after_later : (k l : List ℕ) (names : List (List ℕ)) → bytes_cmp k l ≡ Less → After l names → After k names
after_later k l [] less after = tt
after_later k l (n ∷ names) less after = (nat_list_cmp_total.trans k l n less after.0, after_later k l names less after.1)

-- what was after a key is so still, where one that is after it is put
put_after : (l k : List ℕ) (d : Data) (ms : Members) → bytes_cmp l k ≡ Less → After l (names_of ms) → After l (names_of (put k d ms))
put_after l k d no_members less after = (less, tt)
put_after l k d (member m e ms) less after = put_by (bytes_cmp k m) (put_after l k d ms less after.1)
  where
    put_by : (o : Ordering) → After l (names_of (put k d ms)) → After l (names_of (match_ordering o (member k d (member m e ms)) (member m d ms) (member m e (put k d ms))))
    put_by Less rest = (less, after)
    put_by Equal rest = after
    put_by Greater rest = (after.0, rest)

nothing_sorted : IsStrictlySortedBy bytes_cmp []
unfolding IsStrictlySortedBy
nothing_sorted = tt

put_sorted : (k : List ℕ) (d : Data) (ms : Members) → IsStrictlySortedBy bytes_cmp (names_of ms) → IsStrictlySortedBy bytes_cmp (names_of (put k d ms))
unfolding IsStrictlySortedBy
put_sorted k d no_members s = (tt, tt)
put_sorted k d (member m e ms) s = put_by (bytes_cmp k m) refl (put_sorted k d ms s.1)
  where
    put_by : (o : Ordering) → bytes_cmp k m ≡ o → IsStrictlySortedBy bytes_cmp (names_of (put k d ms)) → IsStrictlySortedBy bytes_cmp (names_of (match_ordering o (member k d (member m e ms)) (member m d ms) (member m e (put k d ms))))
    put_by Less is rest = ((is, after_later k m (names_of ms) is s.0), s)
    put_by Equal is rest = s
    put_by Greater is rest =
        let less : bytes_cmp m k ≡ Less = nat_list_cmp_total.antisymm m k ∙ ap ordering_reverse is in
        (put_after m k d ms less s.0, rest)

put_orderly : (k : List ℕ) (d : Data) (ms : Members) → Orderly d → OrderlyMembers ms → OrderlyMembers (put k d ms)
put_orderly k d no_members one all = (one, tt)
put_orderly k d (member m e ms) one all = put_by (bytes_cmp k m) (put_orderly k d ms one all.1)
  where
    put_by : (o : Ordering) → OrderlyMembers (put k d ms) → OrderlyMembers (match_ordering o (member k d (member m e ms)) (member m d ms) (member m e (put k d ms)))
    put_by Less rest = (one, all)
    put_by Equal rest = (one, all.1)
    put_by Greater rest = (all.0, rest)

-- ---- what is read is orderly

mutual
  data_orderly : (j : json.Json) → Orderly (data_of j)
  data_orderly json.null = tt
  data_orderly (json.boolean b) = tt
  data_orderly (json.number s) = tt
  data_orderly (json.string s) = tt
  data_orderly (json.array js) = items_orderly js
  data_orderly (json.object ms) = members_orderly ms no_members nothing_sorted tt

  items_orderly : (js : json.Items) → OrderlyItems (items_data js)
  items_orderly json.no_items = tt
  items_orderly (json.item j js) = (data_orderly j, items_orderly js)

  members_orderly : (ms : json.Members) (before : Members) → IsStrictlySortedBy bytes_cmp (names_of before) → OrderlyMembers before
      → IsStrictlySortedBy bytes_cmp (names_of (members_data ms before)) × OrderlyMembers (members_data ms before)
  members_orderly json.no_members before s all = (s, all)
  members_orderly (json.member k j ms) before s all = members_orderly ms (put k (data_of j) before) (put_sorted k (data_of j) before s) (put_orderly k (data_of j) before (data_orderly j) all)

read_orderly : (bytes : List ℕ) (d : Data) → read bytes ≡ Some d → Orderly d
read_orderly bytes d e =
    let whole = option_and_then (λ p. json.if_last p.0 p.1) (json.value max_depth (tokens bytes)) in
    let is = and_then_some whole of_json d e in
    subst Orderly (json_is is.0 d is.2) (data_orderly is.0)

value_orderly : (bytes : List ℕ) (b : Bool) (d : Data) → is_utf8 bytes ≡ b → value_of bytes ≡ Some d → Orderly d
value_orderly bytes true d is e = read_orderly bytes d (rw is at e)
value_orderly bytes false d is e = let no : None ≡ Some d = rw is at e in (cc)

there_is : (o : Option Data) (fault : FileFault) (d : Data) → or_fault fault o ≡ Ok d → o ≡ Some d
there_is None fault d e = (cc)
there_is (Some v) fault d e = let is : v ≡ d = (cc) in ap Some is

-- ---- and so is what stands in it

member_orderly : (ms : Members) (key : List ℕ) (d : Data) → Contains (pairs_of ms) (key, d) → OrderlyMembers ms → Orderly d
member_orderly no_members key d has all = absurd (contains_nothing (key, d) has)
member_orderly (member k e ms) key d has all =
    elim (contains_cases (k, e) (key, d) (pairs_of ms) has) [
      | inl first ↦ subst Orderly (ap (λ (m : List ℕ × Data). m.1) first) all.0
      | inr later ↦ member_orderly ms key d later all.1
    ]

item_orderly : (ds : Items) (n : ℕ) (d : Data) → slice_get (list_of ds) n ≡ Some d → OrderlyItems ds → Orderly d
item_orderly no_items n d has all = (cc)
item_orderly (item e ds) zero d has all = let is : e ≡ d = (cc) in subst Orderly is all.0
item_orderly (item e ds) (suc n) d has all = item_orderly ds n d has all.1

within_orderly : (place : List ℕ) (d found : Data) → Leads place d found → Orderly d → Orderly found
within_orderly _ _ _ (itself d) all = all
within_orderly _ _ _ (by_member ms key rest d found has leads) all = within_orderly rest d found leads (member_orderly ms key d has all.1)
within_orderly _ _ _ (by_item ds n rest d found has leads) all = within_orderly rest d found leads (item_orderly ds n d has all)

keys_of_orderly : (d : Data) → Orderly d → KeysAscend d
keys_of_orderly the.null all = tt
keys_of_orderly (the.boolean b) all = tt
keys_of_orderly (the.number n) all = tt
keys_of_orderly (the.string s) all = tt
keys_of_orderly (the.array ds) all = tt
keys_of_orderly (the.object ms) all = all.0

-- the keys of a value that was read ascend
pub value_ascends : (j : json.Json) → KeysAscend (data_of j)
value_ascends j = keys_of_orderly (data_of j) (data_orderly j)

pub keys_ascend : (bytes place : List ℕ) (d found : Data) → json_of bytes ≡ Ok d → Leads place d found → KeysAscend found
unfolding json_of
keys_ascend bytes place d found e leads =
    let value = there_is (value_of (without_mark bytes)) _ d e in
    keys_of_orderly found (within_orderly place d found leads (value_orderly (without_mark bytes) (is_utf8 (without_mark bytes)) d refl value))
