-- What a versions file says is a table, and its rows are found by their asks.
use Rattle.std.proofs.Common.{◌≡◌, ◌<◌, ◌↔◌, ℕ, zero, suc, Bool, true, false, List, [], ◌∷◌, ◌++◌}
use Rattle.std.proofs.Common.{length, map, get_or, is_some, refl, ap, sym, ◌∙◌, arith}
use Rattle.std.specs.Prelude.{Option, Some, None, IfSome, Ok, Err, codes, if◌then◌else◌}
use Rattle.std.specs.List.{Contains, list_any, position}
use Rattle.std.proofs.lemmas.List.{map-append, length-map, get_or-map}
use Rattle.std.proofs.lemmas.List.Elements.{All-nil, All-push}
use Rattle.std.proofs.lemmas.List.Quantifiers.{position-Some}
use Rattle.serde_json.specs.Data.{Data}
use Rattle.vk_spec.specs.Lists.{NoRepeats}
use Rattle.vk_spec.specs.Reading.{◌>>=◌, or_fault, read_after}
use Rattle.vk_spec.specs.Versions as plain
use Rattle.vk_spec.specs.Versions.{same_ask}
use Rattle.vk_spec.proofs.VersionLemmas.{asks_equal, is_there, is_new}
use Rattle.vk_spec.proofs.ListLemmas.{no_repeats_push, contains_first, contains_later}
use Rattle.vk_version.specs.AskViews.{ask_view}
use Rattle.vk_version.specs.declared.asks.Ask.{Ask}
use Rattle.vk_json.specs.declared.faults.Why.TheVariants as why
use Rattle.vk_json.specs.Documents.{json_of}
use Rattle.vk_json.specs.Looks.{items_of}
use Rattle.vk_json.specs.NewItems.{each_new_item, new_item_at}
use Rattle.vk_json.specs.Places.{here, item_step}
use Rattle.vk_json.specs.Readings.{object_at, wanted}
use Rattle.vk_fields.specs.Versions.{version_needed_at}
use Rattle.vk_registry.specs.Folders.{IsBelow, folder_at}
use Rattle.vk_registry.specs.Tables.{Row, ask_in, asks_of, row_at, new_ask, row_from}
use Rattle.vk_registry.specs.Tables.{rows_at, table_at, table_of, IsTable, IsRowAt, HasNoRow}
use Rattle.vk_registry.proofs.StepLemmas.{inside_ok, wanted_ok, kept_after}
use Rattle.vk_spec.proofs.ReadingLemmas.{bind_ok}
use Rattle.vk_registry.proofs.AskLemmas.{any_kept}
use Rattle.vk_registry.proofs.FolderLemmas.{folder_below}

row_below : (d : Data) (row : Row) → row_at d ≡ Ok row → IsBelow row.path
unfolding row_at
row_below d row e =
    let object =
    bind_ok (object_at d)
    (λ o. version_needed_at d >>= λ v. wanted folder_at (codes "path") d
    >>= λ p. Ok (record { version = v; path = p })) row e in
    let version =
    bind_ok (version_needed_at d)
    (λ v. wanted folder_at (codes "path") d
    >>= λ p. Ok (record { version = v; path = p })) row object.2 in
    let path =
    bind_ok (wanted folder_at (codes "path") d)
    (λ p. Ok (record { version = version.0; path = p })) row version.2 in
    let read = wanted_ok folder_at (codes "path") d path.0 path.1 in
    let is : row ≡ record { version = version.0; path = path.0 } = (cc) in
    rw is (folder_below read.0 path.0 read.2)

new_by : (asks : List plain.Ask) (ask : plain.Ask) (u : Unit {0}) (taken : Bool)
    → list_any (same_ask ask) asks ≡ taken → (if taken then Err (here why.Twice) else Ok tt) ≡ Ok u
    → Contains asks ask → ⊥
new_by asks ask u true is e at = (cc)
new_by asks ask u false is e at = is_new asks ask is at

-- with one row more it still is a table
one_more : (earlier : List Row) (n : ℕ) (d : Data) (row : Row) → IsTable earlier
    → new_item_at ask_in row_from earlier n d ≡ Ok row → IsTable (earlier ++ row ∷ [])
unfolding row_from
one_more earlier n d row table e =
    let read =
    bind_ok (row_at d) (λ r. new_ask (asks_of earlier) (ask_in r) >>= λ u. Ok r) row
    (inside_ok (item_step n) (row_from (asks_of earlier) d) row e) in
    let new = bind_ok (new_ask (asks_of earlier) (ask_in read.0)) (λ u. Ok read.0) row read.2 in
    let is : row ≡ read.0 = (cc) in
    rw is (record {
      distinct =
          rw (map-append ask_in earlier (read.0 ∷ []))
          (no_repeats_push (asks_of earlier) (ask_in read.0) table.distinct
          (new_by (asks_of earlier) (ask_in read.0) new.0
          (list_any (same_ask (ask_in read.0)) (asks_of earlier)) refl new.1));
      below =
          All-push (λ one. IsBelow one.path) earlier read.0 table.below (row_below d read.0 read.1);
    })

no_rows : IsTable []
no_rows = record { distinct = tt; below = All-nil (λ row. IsBelow row.path) }

-- the rows that were read are a table
pub rows_read : (d : Data) (rows : List Row) → rows_at d ≡ Ok rows → IsTable rows
unfolding each_new_item
rows_read d rows e =
    let items =
    bind_ok (or_fault (here why.List) (items_of d))
    (read_after (new_item_at ask_in row_from) [] 0) rows e in
    kept_after IsTable (new_item_at ask_in row_from) one_more [] 0 items.0 rows no_rows items.2

pub table_read : (bytes : List ℕ) (rows : List Row) → table_of bytes ≡ Ok rows → IsTable rows
unfolding table_at
table_read bytes rows e =
    let document = bind_ok (json_of bytes) table_at rows e in
    let object =
    bind_ok (object_at document.0)
    (λ o. wanted rows_at (codes "versions") document.0) rows document.2 in
    let list = wanted_ok rows_at (codes "versions") document.0 rows object.2 in
    rows_read list.0 rows list.2

-- ---- finding rows

-- the row at a place of its ask
row_at_place : (rows : List Row) (place : ℕ) (ask d : plain.Ask) → place < length rows
    → get_or (asks_of rows) place d ≡ ask → IsRowAt rows ask place
row_at_place [] place ask d within is = absurd (omega arith)
row_at_place (row ∷ rows) zero ask d within is = record { row = row; stands = refl; asked = is }
row_at_place (row ∷ rows) (suc place) ask d within is =
    let later = row_at_place rows place ask d (omega arith) is in
    record { row = later.row; stands = later.stands; asked = later.asked }

-- the ask of a row at a place is among the rows' asks
ask_among : (rows : List Row) (ask : plain.Ask) (place : ℕ) → IsRowAt rows ask place
    → Contains (asks_of rows) ask
ask_among [] ask place at = let no : None ≡ Some at.row = at.stands in (cc)
ask_among (row ∷ rows) ask zero at =
    let e : Some row ≡ Some at.row = at.stands in
    let same : row ≡ at.row = (cc) in
    rw (← at.asked, ← same) (contains_first (ask_in row) (asks_of rows))
ask_among (row ∷ rows) ask (suc place) at =
    contains_later (ask_in row) ask (asks_of rows)
    (ask_among rows ask place (record { row = at.row; stands = at.stands; asked = at.asked }))

-- where a first row has the ask of a later one, its ask stands twice
first_again : (row : Row) (rows : List Row) (ask : plain.Ask) (later : ℕ)
    → IsRowAt (row ∷ rows) ask zero → IsRowAt (row ∷ rows) ask (suc later)
    → Contains (asks_of rows) (ask_in row)
first_again row rows ask later first again =
    let e : Some row ≡ Some first.row = first.stands in
    let same : row ≡ first.row = (cc) in
    rw (same, first.asked)
    (ask_among rows ask later
    (record { row = again.row; stands = again.stands; asked = again.asked }))

-- no two rows have one ask
pub one_row : (rows : List Row) (ask : plain.Ask) (place other : ℕ) → NoRepeats (asks_of rows)
    → IsRowAt rows ask place → IsRowAt rows ask other → place ≡ other
one_row [] ask place other distinct one two = let no : None ≡ Some one.row = one.stands in (cc)
one_row (row ∷ rows) ask zero zero distinct one two = refl
one_row (row ∷ rows) ask zero (suc other) distinct one two =
    absurd (distinct.0 (first_again row rows ask other one two))
one_row (row ∷ rows) ask (suc place) zero distinct one two =
    absurd (distinct.0 (first_again row rows ask place two one))
one_row (row ∷ rows) ask (suc place) (suc other) distinct one two =
    ap suc (one_row rows ask place other distinct.1
    (record { row = one.row; stands = one.stands; asked = one.asked })
    (record { row = two.row; stands = two.stands; asked = two.asked }))

module _ (rows : List Row) (keys : List Ask) (keyed : map ask_view keys ≡ asks_of rows)
    (ask : Ask) where
  abbrev is_key : Ask → Bool
  is_key key = same_ask (ask_view ask) (ask_view key)

  -- the key that a search finds is the row's ask
  pub found_at : (found : Option ℕ) → found ≡ position is_key keys
      → IfSome found (IsRowAt rows (ask_view ask))
  found_at None is = tt
  found_at (Some place) is =
      let says = position-Some is_key keys place ask (sym is) in
      let equal = asks_equal (ask_view ask) (ask_view (get_or keys place ask)) says.1 in
      let row = sym (ap (λ l. get_or l place (ask_view ask)) keyed)
      ∙ get_or-map ask_view keys place ask (ask_view ask) says.0 ∙ sym equal in
      let count : length keys ≡ length rows = sym (length-map keys ask_view) ∙ ap length keyed
      ∙ length-map rows ask_in in
      row_at_place rows place (ask_view ask) (ask_view ask) (omega (arith, says.0, count)) row

  -- a search finds none exactly where no row has the ask
  pub none_at : (found : Option ℕ) → found ≡ position is_key keys
      → is_some found ≡ list_any is_key keys → found ≡ None ↔ HasNoRow rows (ask_view ask)
  none_at found is there = (
    (λ none has.
        let clash : true ≡ false = sym (is_there (asks_of rows) (ask_view ask) has)
        ∙ sym (ap (list_any (same_ask (ask_view ask))) keyed) ∙ any_kept keys (ask_view ask)
        ∙ sym there ∙ ap is_some none in
        (cc)),
    none_by found refl,
  )
    where
      none_by : (o : Option ℕ) → found ≡ o → HasNoRow rows (ask_view ask) → found ≡ None
      none_by None e has_none = e
      none_by (Some place) e has_none =
          absurd (has_none (ask_among rows (ask_view ask) place (rw e at (found_at found is))))
