-- A baseline's entries stand in the order of their keys, and are found by their ports.
use Rattle.std.proofs.Common.{◌≡◌, ◌+◌, ◌<◌, ◌≤◌, ◌⊎◌, ℕ, zero, suc, Bool, true, false, not, List}
use Rattle.std.proofs.Common.{[], ◌∷◌, length, map, filter, get_or, bytes_eq, Ordering, inl, inr}
use Rattle.std.proofs.Common.{refl, ap, sym, ◌∙◌, arith}
use Rattle.std.specs.Prelude.{Option, Some, None, option_map, Result, Ok, Err, codes, if◌then◌else◌}
use Rattle.std.specs.declared.cmp.Ordering.TheVariants.{Less, Equal, Greater}
use Rattle.std.specs.List.{Contains}
use Rattle.std.specs.List.Sorted.{IsStrictlySortedBy, IsNonDecreasingBy, IsPartitionPoint}
use Rattle.std.specs.Ordering.{nat_cmp, ordering_index, is_eq}
use Rattle.std.specs.Cmp.Lexicographic.{slice_cmp}
use Rattle.std.specs.FinMap.{slice_cmp-IsAntisymmetric, nat_cmp-IsAntisymmetric}
use Rattle.std.proofs.lemmas.Cmp.{nat_list_cmp_total}
use Rattle.std.proofs.lemmas.Bool.{cases_lt}
use Rattle.std.proofs.lemmas.List.{get_or-map, length-map}
use Rattle.std.proofs.lemmas.List.Kept.{IsStrictlySortedBy-filter}
use Rattle.std.proofs.lemmas.Map.Keys.{Less-from_sorted}
use Rattle.std.proofs.lemmas.Map.Text.{is_eq-slice_cmp}
use Rattle.std.proofs.lemmas.Slice.Eq.{bytes_eq-Decides}
use Rattle.serde_json.specs.Find.{as_object}
use Rattle.serde_json.specs.Data.{Data, Members, no_members, member}
use Rattle.vk_spec.specs.Reading.{◌>>=◌, read_each}
use Rattle.vk_spec.specs.Versions.{Ask}
use Rattle.vk_spec.proofs.ListLemmas.{contains_first, contains_later}
use Rattle.vk_base.specs.Names.{reads_name, port_rule, named, name_fault}
use Rattle.vk_json.specs.declared.faults.FileFault.{FileFault}
use Rattle.vk_json.specs.Looks.{names_of}
use Rattle.vk_json.specs.Places.{here, member_step}
use Rattle.vk_json.specs.declared.faults.Why.TheVariants as why
use Rattle.vk_json.specs.Readings.{members_at, object_at, member_at, pairs_of, each_member}
use Rattle.vk_fields.specs.Saying.{said_here}
use Rattle.vk_fields.specs.Wording.{name_word}
use Rattle.vk_fields.specs.Versions.{ask_under}
use Rattle.vk_json.specs.KeyOrders.{KeysAscend}
use Rattle.vk_registry.specs.Baselines.{Entry, is_note, entry_at, entry_unless_note, those_there}
use Rattle.vk_registry.specs.Baselines.{IsInOrder, ask_for}
use Rattle.vk_registry.specs.BaselineViews.{entry_view}
use Rattle.vk_registry.specs.declared.baselines.BaselineEntry.{BaselineEntry}
use Rattle.vk_version.specs.AskViews.{ask_view}
use Rattle.vk_registry.proofs.StepLemmas.{inside_ok, there_ok}
use Rattle.vk_spec.proofs.ReadingLemmas.{bind_ok}

abbrev bytes_cmp : List ℕ → List ℕ → Ordering
bytes_cmp = slice_cmp nat_cmp

-- ---- the order of the entries

-- a name that is told is the text itself
name_is : (text name : List ℕ) (fault : Option ℕ) → said_here name_word (named text fault) ≡ Ok name
    → name ≡ text
name_is text name None e = (cc)
name_is text name (Some at) e = (cc)

-- an entry's port is its key
port_is : (key : List ℕ) (d : Data) (entry : Entry) → entry_at key d ≡ Ok entry → entry.port ≡ key
unfolding entry_at
port_is key d entry e =
    let name =
    bind_ok (said_here name_word (reads_name port_rule key))
    (λ port. object_at d >>= λ o. ask_under (codes "baseline") d
    >>= λ ask. Ok (record { port = port; ask = ask })) entry e in
    let object =
    bind_ok (object_at d)
    (λ o. ask_under (codes "baseline") d
    >>= λ ask. Ok (record { port = name.0; ask = ask })) entry name.2 in
    let ask =
    bind_ok (ask_under (codes "baseline") d)
    (λ ask. Ok (record { port = name.0; ask = ask })) entry object.2 in
    let is : entry ≡ record { port = name.0; ask = ask.0 } = (cc) in
    rw is (name_is key name.0 (name_fault port_rule key) name.1)

abbrev ports : List (Option Entry) → List (List ℕ)
ports found = map (λ entry. entry.port) (those_there found)

-- a member that was read is a note, or an entry of its key
read_case : (key : List ℕ) (note : Bool) (found : Option Entry) (rest : List (Option Entry))
    (names : List (List ℕ)) (d : Data)
    → (if note then Ok None else (entry_at key d >>= λ entry. Ok (Some entry))) ≡ Ok found
    → ports rest ≡ filter (λ k. not (is_note k)) names
    → ports (found ∷ rest) ≡
    (if not note then key ∷ filter (λ k. not (is_note k)) names else filter
    (λ k. not (is_note k)) names)
read_case key true found rest names d e later = let none : found ≡ None = (cc) in rw none later
read_case key false found rest names d e later =
    let entry = bind_ok (entry_at key d) (λ entry. Ok (Some entry)) found e in
    let is : found ≡ Some entry.0 = (cc) in
    rw is (λ i. port_is key d entry.0 entry.1 i ∷ later i)

-- the ports of the entries are the keys that are no notes
ports_are : (ms : Members) (n : ℕ) (found : List (Option Entry))
    → read_each (λ _. member_at entry_unless_note) n (pairs_of ms) ≡ Ok found
    → ports found ≡ filter (λ k. not (is_note k)) (names_of ms)
unfolding read_each entry_unless_note
ports_are no_members n found e = let none : found ≡ [] = (cc) in rw none refl
ports_are (member key d ms) n found e =
    let first =
    bind_ok (member_at entry_unless_note (key, d))
    (λ y. read_each (λ _. member_at entry_unless_note) (n + 1) (pairs_of ms)
    >>= λ ys. Ok (y ∷ ys)) found e in
    let later =
    bind_ok (read_each (λ _. member_at entry_unless_note) (n + 1) (pairs_of ms))
    (λ ys. Ok (first.0 ∷ ys)) found first.2 in
    let is : found ≡ first.0 ∷ later.0 = (cc) in
    rw is (read_case key (is_note key) first.0 later.0 (names_of ms) d
    (inside_ok (member_step key) (entry_unless_note key d) first.0 first.1)
    (ports_are ms (n + 1) later.0 later.1))

order_by : (d : Data) (members : Result Members FileFault) (found : List (Option Entry))
    → members_at d ≡ members
    → (members >>= λ ms. read_each (λ _. member_at entry_unless_note) 0 (pairs_of ms)) ≡ Ok found
    → KeysAscend d → IsStrictlySortedBy bytes_cmp (ports found)
order_by d (Ok ms) found is e ascend =
    rw (ports_are ms 0 found e)
    (IsStrictlySortedBy-filter bytes_cmp (λ k. not (is_note k)) (names_of ms)
    (rw (there_ok (here why.Object) (as_object d) ms is) at ascend))
order_by d (Err fault) found is e ascend = (cc)

-- the entries that are read from an object stand in order
pub read_in_order : (d : Data) (found : List (Option Entry))
    → each_member entry_unless_note d ≡ Ok found → KeysAscend d → IsInOrder (those_there found)
unfolding each_member
read_in_order d found e ascend = order_by d (members_at d) found refl e ascend

-- ---- finding an entry by its port

module _ (port : List ℕ) where
  at_most_two : (o : Ordering) → ordering_index o ≤ 2
  at_most_two Less = omega arith
  at_most_two Equal = omega arith
  at_most_two Greater = omega arith

  -- what comes before compares with the port no greater
  rises : (a b : List ℕ) (o : Ordering) → bytes_cmp a b ≡ Less → bytes_cmp b port ≡ o
      → ordering_index (bytes_cmp a port) ≤ ordering_index o
  rises a b Less less is = rw (nat_list_cmp_total.trans a b port less is) (omega arith)
  rises a b Equal less is =
      let same : b ≡ port =
      slice_cmp-IsAntisymmetric nat_cmp-IsAntisymmetric b port is in rw (← same, less) (omega arith)
  rises a b Greater less is = at_most_two (bytes_cmp a port)

  -- a test of two names is their order's
  same_by : (name : List ℕ) (o : Ordering) → bytes_cmp name port ≡ o → bytes_eq name port ≡ is_eq o
  same_by name o is = sym (is_eq-slice_cmp name port) ∙ ap is_eq is

  -- no entry of the port
  none_found : (entries : List BaselineEntry)
      → ((i : ℕ) (d : BaselineEntry) → i < length entries
      → bytes_eq (get_or entries i d).port port ≡ false)
      → ask_for port (map entry_view entries) ≡ None
  none_found [] none = refl
  none_found (entry ∷ entries) none =
      rw (none 0 entry (omega arith))
      (none_found entries (λ i d within. none (suc i) d (omega arith)))

  -- the entry of the port
  one_found : (entries : List Entry) (i : ℕ) (d : Entry) → IsInOrder entries → i < length entries
      → (get_or entries i d).port ≡ port → ask_for port entries ≡ Some (get_or entries i d).ask
  unfolding IsStrictlySortedBy
  one_found [] i d order within is = absurd (omega arith)
  one_found (entry ∷ entries) zero d order within is =
      rw ((bytes_eq-Decides entry.port port).1 is) refl
  one_found (entry ∷ entries) (suc i) d order within is =
      let less =
      Less-from_sorted bytes_cmp (map (λ e. e.port) (entry ∷ entries)) 0 (suc i) d.port order
      (omega arith) (rw (length-map (entry ∷ entries) (λ (e : Entry). e.port)) within) in
      let later : get_or (map (λ e. e.port) (entry ∷ entries)) (suc i) d.port ≡ port =
      get_or-map (λ (e : Entry). e.port) (entry ∷ entries) (suc i) d d.port within ∙ is in
      rw (same_by entry.port Less (rw later at less))
      (one_found entries i d order.1 (omega arith) is)

  module _ (entries : List BaselineEntry) (order : IsInOrder (map entry_view entries)) where
    -- the comparisons with the port rise along the entries, as a binary search asks
    pub comparisons_rise : IsNonDecreasingBy
        (λ entry. ordering_index (bytes_cmp entry.port port)) entries
    comparisons_rise i j d upto within =
        elim (cases_lt i j) [
          | inl less ↦
              rises (get_or entries i d).port (get_or entries j d).port
              (bytes_cmp (get_or entries j d).port port) (between i j d less within) refl
          | inr most ↦ (let same : i ≡ j = omega (arith, upto, most) in rw same (omega arith))
        ]
      where
        key_at : (k : ℕ) (d : BaselineEntry) → k < length entries
            → get_or (map (λ e. e.port) (map entry_view entries)) k d.port ≡
            (get_or entries k d).port
        key_at k d within =
            get_or-map (λ (e : Entry). e.port) (map entry_view entries) k (entry_view d) d.port
            (rw (length-map entries entry_view) within)
            ∙ ap (λ (e : Entry). e.port) (get_or-map entry_view entries k d (entry_view d) within)

        between : (i j : ℕ) (d : BaselineEntry) → i < j → j < length entries
            → bytes_cmp (get_or entries i d).port (get_or entries j d).port ≡ Less
        between i j d less within =
            rw (key_at i d (omega (arith, less, within)), key_at j d within) at
            (Less-from_sorted bytes_cmp
            (map (λ e. e.port) (map entry_view entries)) i j d.port order less
            (rw (
              length-map (map entry_view entries) (λ (e : Entry). e.port),
              length-map entries entry_view,
            ) within))

    -- a search that ends at an entry of the port found what is asked for
    pub place_found : (place : ℕ) (d : BaselineEntry) → place < length entries
        → bytes_cmp (get_or entries place d).port port ≡ Equal
        → Some (ask_view (get_or entries place d).ask) ≡ ask_for port (map entry_view entries)
    place_found place d within equal =
        let at : get_or (map entry_view entries) place (entry_view d) ≡ entry_view
        (get_or entries place d) =
        get_or-map entry_view entries place d (entry_view d) within in
        let name =
        slice_cmp-IsAntisymmetric nat_cmp-IsAntisymmetric
        (get_or entries place d).port port equal in
        sym (one_found (map entry_view entries) place (entry_view d) order
        (rw (length-map entries entry_view) within) (ap (λ (e : Entry). e.port) at ∙ name)
        ∙ ap (λ (e : Entry). Some e.ask) at)

    -- one that ends between entries found none
    pub place_missing : (place : ℕ)
        → IsPartitionPoint (λ entry. bytes_cmp entry.port port ≡ Less)
        (λ entry. bytes_cmp entry.port port ≡ Greater) entries place
        → None ≡ ask_for port (map entry_view entries)
    place_missing place parted =
        sym (none_found entries (λ i d within. other i d within (cases_lt i place)))
      where
        other : (i : ℕ) (d : BaselineEntry) → i < length entries → (i < place) ⊎ (place ≤ i)
            → bytes_eq (get_or entries i d).port port ≡ false
        other i d within (inl before) =
            same_by (get_or entries i d).port Less (parted.0 i d (omega arith) before)
        other i d within (inr after) =
            same_by (get_or entries i d).port Greater (parted.1 i d after within)

-- ---- what is asked for, as an entry

pub asks_as_entry : (entries : List Entry) (entry : Entry) → IsInOrder entries
    → Contains entries entry → ask_for entry.port entries ≡ Some entry.ask
asks_as_entry entries entry order at =
    one_found entry.port entries at.0 entry order at.1 (ap (λ (e : Entry). e.port) at.2)
    ∙ ap (λ (e : Entry). Some e.ask) at.2

entry_by : (entry : Entry) (entries : List Entry) (port : List ℕ) (ask : Ask) (same : Bool)
    → bytes_eq entry.port port ≡ same
    → (if same then Some entry.ask else ask_for port entries) ≡ Some ask
    → (ask_for port entries ≡ Some ask → Contains entries (record { port = port; ask = ask }))
    → Contains (entry ∷ entries) (record { port = port; ask = ask })
entry_by entry entries port ask true is e later =
    let name = (bytes_eq-Decides entry.port port).0 is in
    let told : entry.ask ≡ ask = (cc) in
    let whole : entry ≡ record {
      port =
          port;
      ask = ask;
    } = λ i. record { port = name i; ask = told i } in
    rw whole (contains_first (record { port = port; ask = ask }) entries)
entry_by entry entries port ask false is e later =
    contains_later entry (record { port = port; ask = ask }) entries (later e)

pub entry_of_ask : (entries : List Entry) (port : List ℕ) (ask : Ask)
    → ask_for port entries ≡ Some ask → Contains entries (record { port = port; ask = ask })
entry_of_ask [] port ask e = (cc)
entry_of_ask (entry ∷ entries) port ask e =
    entry_by entry entries port ask (bytes_eq entry.port port) refl e
    (entry_of_ask entries port ask)

those_mapped : {A B : Type 0} (f : A → B) (found : List (Option A))
    → those_there (map (option_map f) found) ≡ map f (those_there found)
those_mapped f [] = refl
those_mapped f (None ∷ found) = those_mapped f found
those_mapped f (Some x ∷ found) = ap (λ l. f x ∷ l) (those_mapped f found)

-- the entries that were read, as they are kept
pub kept_is : (found : List (Option BaselineEntry)) (entries : List BaselineEntry)
    → entries ≡ those_there found
    → those_there (map (option_map entry_view) found) ≡ map entry_view entries
kept_is found entries is = those_mapped entry_view found ∙ ap (map entry_view) (sym is)
