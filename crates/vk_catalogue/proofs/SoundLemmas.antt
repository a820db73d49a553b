-- The tests of a page tell what every page keeps.
use Rattle.std.proofs.Common.{◌≡◌, Bool, true, false, not, ◌&&◌, List, [], ◌∷◌, ◌++◌, map, inl, inr, refl, ap, sym, subst, ◌∙◌}
use Rattle.std.specs.Prelude.{◌↔◌, IsTrue, Result, Ok, Err, IfErr, if◌then◌else◌}
use Rattle.std.specs.List.{Contains, list_any, list_all}
use Rattle.std.proofs.lemmas.List.{append_assoc, append-nil}
use Rattle.std.proofs.lemmas.List.Elements.{Contains-append_right}
use Rattle.vk_spec.proofs.ListLemmas.{any_by, contains_nothing, contains_first, contains_later, contains_cases, no_repeats_push}
use Rattle.vk_spec.specs.Lists.{NoRepeats}
use Rattle.vk_spec.specs.Versions.{Ask, ask_of, same_ask}
use Rattle.vk_spec.specs.Pages.{Wrong, no_registry, no_baseline, bad_file, disagrees, Row}
use Rattle.vk_spec.specs.Catalogues.{IsPage, CanBeOfRow}
use Rattle.vk_spec.proofs.VersionLemmas.{is_new, is_found}
use Rattle.vk_spec.specs.Conditions.{Condition}
use Rattle.vk_catalogue.specs.declared.pages.PageRow.{PageRow}
use Rattle.vk_catalogue.specs.declared.pages.Page as rust
use Rattle.vk_version.specs.declared.asks.Ask as rust_ask
use Rattle.vk_version.specs.AskViews.{ask_view}
use Rattle.vk_catalogue.specs.PageViews.{row_view, page_view}
use Rattle.vk_catalogue.specs.SoundPages.{distinct_after, asks_in, FitsGiven, is_manifest_right, is_row_right}

-- ---- no ask stands twice

pub distinct_ends : (seen : List Ask) (ask : Ask) (asks : List Ask) → list_any (same_ask ask) seen ≡ true → distinct_after seen (ask ∷ asks) ≡ false
distinct_ends seen ask asks e = ap (λ b. if b then false else distinct_after (seen ++ ask ∷ []) asks) e

pub distinct_goes_on : (seen : List Ask) (ask : Ask) (asks : List Ask) → list_any (same_ask ask) seen ≡ false → distinct_after seen (ask ∷ asks) ≡ distinct_after (seen ++ ask ∷ []) asks
distinct_goes_on seen ask asks e = ap (λ b. if b then false else distinct_after (seen ++ ask ∷ []) asks) e

later_repeats : (xs ys : List Ask) (y : Ask) → Contains xs y → NoRepeats (xs ++ y ∷ ys) → ⊥
later_repeats [] ys y h each = contains_nothing y h
later_repeats (x ∷ xs) ys y h each =
    elim (contains_cases x y xs h) [
      | inl same ↦ each.0 (Contains-append_right xs (y ∷ ys) x (subst (λ z. Contains (y ∷ ys) z) (sym same) (contains_first y ys)))
      | inr later ↦ later_repeats xs ys y later each.1
    ]

distinct_is : (seen asks : List Ask) → NoRepeats seen → distinct_after seen asks ≡ true → NoRepeats (seen ++ asks)
distinct_is seen [] each e = rw (append-nil seen) each
distinct_is seen (ask ∷ asks) each e = by (list_any (same_ask ask) seen) refl e (distinct_is (seen ++ ask ∷ []) asks)
  where
    by : (b : Bool) → list_any (same_ask ask) seen ≡ b → (if b then false else distinct_after (seen ++ ask ∷ []) asks) ≡ true
        → (NoRepeats (seen ++ ask ∷ []) → distinct_after (seen ++ ask ∷ []) asks ≡ true → NoRepeats ((seen ++ ask ∷ []) ++ asks)) → NoRepeats (seen ++ ask ∷ asks)
    by true found h f = (cc)
    by false none h f = subst NoRepeats (append_assoc seen (ask ∷ []) asks) (f (no_repeats_push seen ask each (is_new seen ask none)) h)

distinct_must : (seen asks : List Ask) → NoRepeats (seen ++ asks) → distinct_after seen asks ≡ true
distinct_must seen [] each = refl
distinct_must seen (ask ∷ asks) each = by (list_any (same_ask ask) seen) refl (distinct_must (seen ++ ask ∷ []) asks (subst NoRepeats (sym (append_assoc seen (ask ∷ []) asks)) each))
  where
    by : (b : Bool) → list_any (same_ask ask) seen ≡ b → distinct_after (seen ++ ask ∷ []) asks ≡ true → (if b then false else distinct_after (seen ++ ask ∷ []) asks) ≡ true
    by true found h = absurd (later_repeats seen asks ask (is_found seen ask found) each)
    by false none h = h

-- ---- rows

row_right : {A : Type 0} (m : Result A Wrong) → is_manifest_right m ≡ true → IfErr m CanBeOfRow
row_right (Ok m) e = tt
row_right (Err no_registry) e = (cc)
row_right (Err no_baseline) e = (cc)
row_right (Err (bad_file path place word)) e = tt
row_right (Err (disagrees path field row manifest)) e = tt

right_row : {A : Type 0} (m : Result A Wrong) → IfErr m CanBeOfRow → is_manifest_right m ≡ true
right_row (Ok m) h = refl
right_row (Err no_registry) h = absurd h
right_row (Err no_baseline) h = absurd h
right_row (Err (bad_file path place word)) h = refl
right_row (Err (disagrees path field row manifest)) h = refl

and_true : (a b : Bool) → (a && b) ≡ true → (a ≡ true) × (b ≡ true)
and_true true true e = (refl, refl)
and_true true false e = (cc)
and_true false b e = (cc)

rows_are_right : (rows : List PageRow) → list_all (λ r. is_row_right (row_view r)) rows ≡ true → (r : Row Condition) → Contains (map row_view rows) r → IfErr r.manifest CanBeOfRow
rows_are_right [] e r h = absurd (contains_nothing r h)
rows_are_right (q ∷ rows) e r h =
    let two = and_true (is_row_right (row_view q)) (list_all (λ p. is_row_right (row_view p)) rows) e in
    elim (contains_cases (row_view q) r (map row_view rows) h) [
      | inl same ↦ subst (λ (p : Row Condition). IfErr p.manifest CanBeOfRow) same (row_right (row_view q).manifest two.0)
      | inr later ↦ rows_are_right rows two.1 r later
    ]

right_are_rows : (rows : List PageRow) → ((r : Row Condition) → Contains (map row_view rows) r → IfErr r.manifest CanBeOfRow) → list_all (λ r. is_row_right (row_view r)) rows ≡ true
right_are_rows [] h = refl
right_are_rows (q ∷ rows) h =
    rw (right_row (row_view q).manifest (h (row_view q) (contains_first (row_view q) (map row_view rows)))) (right_are_rows rows (λ r there. h r (contains_later (row_view q) r (map row_view rows) there)))

asks_seen : (rows : List PageRow) → map (λ (r : Row Condition). ask_of r.version) (map row_view rows) ≡ asks_in rows
asks_seen [] = refl
asks_seen (r ∷ rows) = ap (λ asks. ask_of r.version ∷ asks) (asks_seen rows)

-- ---- the page

all_three : (a b c : Bool) → ((a && b) && c) ≡ true → (a ≡ true) × (b ≡ true) × (c ≡ true)
all_three true true true e = (refl, refl, refl)
all_three true true false e = (cc)
all_three true false c e = (cc)
all_three false b c e = (cc)

pub sound_by : (p : rust.Page) (distinct given rows : Bool) → distinct ≡ distinct_after [] (asks_in p.rows) → (IsTrue given ↔ FitsGiven (page_view p)) → rows ≡ list_all (λ r. is_row_right (row_view r)) p.rows → IsTrue ((distinct && given) && rows) ↔ IsPage (page_view p)
sound_by p distinct given rows d g r = (
  (λ e.
      let three = all_three distinct given rows e in
      let fits = g.0 three.1 in
      record {
        distinct = rw (asks_seen p.rows) (distinct_is [] (asks_in p.rows) tt (sym d ∙ three.0));
        own = fits.own;
        given_wrong = fits.wrong;
        row_wrongs = rows_are_right p.rows (sym r ∙ three.2);
      }),
  (λ page.
      let one = d ∙ distinct_must [] (asks_in p.rows) (subst NoRepeats (asks_seen p.rows) page.distinct) in
      let two = g.1 (record { own = page.own; wrong = page.given_wrong }) in
      let three = r ∙ right_are_rows p.rows page.row_wrongs in
      rw (one, two, three) refl),
)

-- an ask that is noted is new where none before is the same
pub told_new : (keys : List rust_ask.Ask) (ask : rust_ask.Ask) (a : Ask) (new : Bool) → ask_view ask ≡ a → new ≡ not (list_any (λ key. same_ask (ask_view ask) (ask_view key)) keys) → new ≡ not (list_any (same_ask a) (map ask_view keys))
told_new keys ask a new is added = added ∙ ap not (sym (any_by ask_view (same_ask (ask_view ask)) keys)) ∙ ap (λ b. not (list_any (same_ask b) (map ask_view keys))) is
