-- A value that was read, beside the data that it stands for.
use Rattle.std.proofs.Common.{◌≡◌, ◌<◌, ◌+◌, ℕ, List, length, drop, get_or, [], ◌∷◌, Bool, true, false, cond, Option, Some, None, option_map, Ordering, Less, Equal, Greater, Bor, Vec, map, bytes_eq, refl, ap, sym, ◌∙◌}
use Rattle.std.specs.declared.alloc.Global.{Global}
use Rattle.std.specs.BTreeMap.{insert_entry}
use Rattle.std.specs.Ordering.{nat_cmp, match_ordering}
use Rattle.std.specs.Cmp.Lexicographic.{slice_cmp}
use Rattle.std.proofs.lemmas.Slice.Eq.{bytes_eq-Decides}
use Rattle.json.specs.Json as json
use Rattle.json.specs.Find as look
use Rattle.json.specs.Value.{value_view, members_view}
use Rattle.std.proofs.lemmas.List.{drop_more}
use Rattle.json.specs.declared.value.Value.{Value, Array}
use Rattle.json.proofs.Trees.{view-Array}
use Rattle.serde_json.specs.Data.{Data, Members, no_members, put}
use Rattle.serde_json.specs.Find.{get, get_member}
use Rattle.serde_json.proofs.Views.{get_member-put, get_member-put_other}
use Rattle.vk_json.specs.Looks.{items_of}
use Rattle.vk_json.proofs.ItemLemmas.{items_listed}
use Rattle.vk_json.specs.Values.{data_of, members_data, view, entries_view}

-- ---- members by their keys

-- the last of the members, or what was found before
abbrev or_before : Option Data → Option Data → Option Data
or_before None before = before
or_before (Some d) before = Some d

later_is : (found : Option json.Json) (j : json.Json) (before : Option Data) → or_before (option_map data_of found) (Some (data_of j)) ≡ or_before (option_map data_of (look.later_or found (Some j))) before
later_is None j before = refl
later_is (Some later) j before = refl

none_later : (found : Option json.Json) → look.later_or found None ≡ found
none_later None = refl
none_later (Some later) = refl

differ : (k key : List ℕ) → bytes_eq k key ≡ false → key ≡ k → ⊥
differ k key apart same = let alike = (bytes_eq-Decides k key).1 (sym same) in let clash : true ≡ false = sym alike ∙ apart in (cc)

found_in : (key : List ℕ) (ms : json.Members) (before : Members) → get_member key (members_data ms before) ≡ or_before (option_map data_of (look.get_member key ms)) (get_member key before)
found_in key json.no_members before = refl
found_in key (json.member k j ms) before = found_in key ms (put k (data_of j) before) ∙ by (bytes_eq k key) refl
  where
    by : (b : Bool) → bytes_eq k key ≡ b → or_before (option_map data_of (look.get_member key ms)) (get_member key (put k (data_of j) before)) ≡ or_before (option_map data_of (look.later_or (look.get_member key ms) (cond b (Some j) None))) (get_member key before)
    by true is = let same : k ≡ key = (bytes_eq-Decides k key).0 is in
        rw (sym same) (ap (or_before (option_map data_of (look.get_member k ms))) (get_member-put k (data_of j) before) ∙ later_is (look.get_member k ms) j (get_member k before))
    by false is = ap (or_before (option_map data_of (look.get_member key ms))) (get_member-put_other key k (data_of j) before (differ k key is)) ∙ ap (λ found. or_before (option_map data_of found) (get_member key before)) (sym (none_later (look.get_member key ms)))

or_none : (found : Option Data) → or_before found None ≡ found
or_none None = refl
or_none (Some d) = refl

-- the member of a value is the member of its data
pub get_same : (key : List ℕ) (j : json.Json) → option_map data_of (look.get key j) ≡ get key (data_of j)
get_same key json.null = refl
get_same key (json.boolean b) = refl
get_same key (json.number s) = refl
get_same key (json.string s) = refl
get_same key (json.array js) = refl
get_same key (json.object ms) = sym (found_in key ms no_members ∙ or_none (option_map data_of (look.get_member key ms)))

abbrev pub Entry : Type 0
Entry = Bor (List ℕ) × Bor (Value Global)

entries_by : (o : Ordering) (a b c : List Entry) → entries_view (match_ordering o a b c) ≡ match_ordering o (entries_view a) (entries_view b) (entries_view c)
entries_by Less a b c = refl
entries_by Equal a b c = refl
entries_by Greater a b c = refl

-- an entry that is put into a map is a member that is put among members
pub entry_put : (es : List Entry) (key : Bor (List ℕ)) (value : Bor (Value Global)) → entries_view (insert_entry (λ a b. slice_cmp nat_cmp a.now b.now) es key value) ≡ put key.now (view value.now) (entries_view es)
entry_put [] key value = refl
entry_put (e ∷ es) key value = entries_by (slice_cmp nat_cmp key.now e.0.now) _ _ _ ∙ rw (entry_put es key value)

-- one more member of an object is put into a map
pub member_put : (ms : List (Bor (List ℕ) × Value Global)) (i : ℕ) (m : Bor (List ℕ) × Value Global) (es new : List Entry) → i < length ms → m ≡ get_or ms i m
    → entries_view new ≡ put m.0.now (view m.1) (entries_view es) → members_data (members_view (drop i ms)) (entries_view es) ≡ members_data (members_view (drop (i + 1) ms)) (entries_view new)
member_put ms i m es new within is noted =
    ap (λ l. members_data (members_view l) (entries_view es)) (drop_more ms i m within)
    ∙ ap (λ n. members_data (members_view (drop (i + 1) ms)) (put n.0.now (view n.1) (entries_view es))) (sym is)
    ∙ ap (members_data (members_view (drop (i + 1) ms))) (sym noted)

-- ---- as getters answer

pub found_member : (key : List ℕ) (v : Value Global) (found : Option (Bor (Value Global))) → option_map (λ w. value_view w.now) found ≡ look.get key (value_view v)
    → option_map (λ w. view w.now) found ≡ get key (view v)
found_member key v None e = ap (option_map data_of) e ∙ get_same key (value_view v)
found_member key v (Some w) e = ap (option_map data_of) e ∙ get_same key (value_view v)

pub items_seen : (v : Value Global) (items : Vec (Value Global) Global) {listed : List (Value Global)} → listed ≡ items.items → v ≡ Array items → Some (map view listed) ≡ items_of (view v)
items_seen v items same is = rw (is, same) (sym (ap Some (items_listed items.items)) ∙ ap (λ j. items_of (data_of j)) (sym (view-Array items)))
