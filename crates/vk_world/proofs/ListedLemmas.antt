-- What the page of a port has is what its home has.
use Rattle.std.proofs.Common.{◌≡◌, ℕ, zero, suc, Bool, true, false, cond, List, [], ◌∷◌, map, refl, ap, sym, subst, ◌∙◌, true≢false}
use Rattle.std.specs.Prelude.{Option, Some, None, IsSome, option_map, slice_get, Ok, Err, if◌then◌else◌}
use Rattle.std.specs.List.{Contains, find}
use Rattle.vk_spec.specs.Paths.{Path}
use Rattle.vk_spec.specs.Files.{Files}
use Rattle.vk_spec.specs.Lists.{NoRepeats}
use Rattle.vk_spec.specs.Versions.{Version, Ask, ask_of, same_ask, same_version}
use Rattle.vk_spec.specs.Manifests.{Manifest}
use Rattle.vk_spec.specs.Pages.{row_in, version_in, manifest_in}
use Rattle.vk_spec.specs.Pages.{Row as PageRow}
use Rattle.vk_spec.proofs.ListLemmas.{contains_first, contains_later, find_by}
use Rattle.vk_spec.proofs.VersionLemmas.{asks_equal, ask_itself, version_decides}
use Rattle.vk_spec.specs.Conditions.{Condition}
use Rattle.vk_registry.specs.declared.tables.Row as declared
use Rattle.vk_registry.specs.TableViews.{row_view}
use Rattle.vk_registry.specs.Tables.{Row, ask_in, asks_of, IsRowAt, HasNoRow}
use Rattle.vk_pages.specs.Homes.{in_overlay, in_registry}
use Rattle.vk_pages.specs.Pages.{row_folder, row_manifest, page_row, page_at}
use Rattle.vk_world.specs.VersionFolders.{table_folder, folder_found}
use Rattle.vk_world.specs.HomeNotes.{FoundHome}
use Rattle.vk_world.specs.Listed.{row_meant}

pub some_is : {X : Type 0} {x y : X} → Some x ≡ Some y → x ≡ y
some_is e = (cc)

-- ---- pages

own_row : (v : Version) (m : Manifest Condition) (b : Bool) → (if b then Some v else None) ≡ option_map (λ (r : PageRow Condition). r.version) (cond b (Some (record { version = v; manifest = Ok m })) None)
own_row v m true = refl
own_row v m false = refl

twice : {X Y Z : Type 0} (f : X → Y) (g : Y → Z) (o : Option X) → option_map g (option_map f o) ≡ option_map (λ x. g (f x)) o
twice f g None = refl
twice f g (Some x) = refl

pub row_on_page : (port : List ℕ) (registry : Path) (files : Files) (rows : List Row) (ask : Ask) → option_map (λ r. r.version) (row_meant rows ask) ≡ option_map (λ r. r.version) (row_in (map (page_row port registry files) rows) ask)
row_on_page port registry files rows ask =
    sym (ap (option_map (λ (r : PageRow Condition). r.version)) (find_by (page_row port registry files) (λ r. same_ask (ask_of r.version) ask) rows) ∙ twice (page_row port registry files) (λ r. r.version) (row_meant rows ask))

own_manifest : (v : Version) (m : Manifest Condition) (b : Bool) → IsSome (option_map (λ (r : PageRow Condition). r.version) (cond b (Some (record { version = v; manifest = Ok m })) None)) → Some (Ok m) ≡ option_map (λ (r : PageRow Condition). r.manifest) (cond b (Some (record { version = v; manifest = Ok m })) None)
own_manifest v m true some = refl
own_manifest v m false some = (cc)

pub manifest_on_overlay : (port : List ℕ) (files : Files) (folder : Path) (v : Version) (m : Manifest Condition) (ask : Ask)
    → IsSome (version_in (page_at port files (Ok (in_overlay folder v m))) ask) → Some (Ok m) ≡ manifest_in (page_at port files (Ok (in_overlay folder v m))) ask
manifest_on_overlay port files folder v m ask = own_manifest v m (same_ask (ask_of v) ask)

pub manifest_on_table : (port : List ℕ) (registry : Path) (files : Files) (rows : List Row) (ask : Ask) (row : Row) → row_meant rows ask ≡ Some row → Some (row_manifest port registry row files) ≡ option_map (λ r. r.manifest) (row_in (map (page_row port registry files) rows) ask)
manifest_on_table port registry files rows ask row meant =
    sym (ap (option_map (λ r. r.manifest)) (find_by (page_row port registry files) (λ r. same_ask (ask_of r.version) ask) rows ∙ ap (option_map (page_row port registry files)) meant))

-- ---- rows

-- the ask of a row at a place is among the rows' asks
ask_among : (rows : List Row) (ask : Ask) (place : ℕ) → IsRowAt rows ask place → Contains (asks_of rows) ask
ask_among [] ask place at = let no : None ≡ Some at.row = at.stands in (cc)
ask_among (r ∷ rows) ask zero at =
    let is : r ≡ at.row = some_is at.stands in
    subst (Contains (asks_of (r ∷ rows))) (ap ask_in is ∙ at.asked) (contains_first (ask_in r) (asks_of rows))
ask_among (r ∷ rows) ask (suc place) at = contains_later (ask_in r) ask (asks_of rows) (ask_among rows ask place (record { row = at.row; stands = at.stands; asked = at.asked }))

-- the row at a place that has an ask is the one that the ask means
pub row_is_meant : (rows : List Row) (ask : Ask) (place : ℕ) → NoRepeats (asks_of rows) → IsRowAt rows ask place → slice_get rows place ≡ row_meant rows ask
row_is_meant [] ask place distinct at = let no : None ≡ Some at.row = at.stands in (cc)
row_is_meant (r ∷ rows) ask zero distinct at =
    let is : r ≡ at.row = some_is at.stands in
    let same : same_ask (ask_of r.version) ask ≡ true = subst (λ a. same_ask a ask ≡ true) (sym (ap ask_in is ∙ at.asked)) (ask_itself ask) in
    sym (ap (λ b. cond b (Some r) (row_meant rows ask)) same)
row_is_meant (r ∷ rows) ask (suc place) distinct at =
    by (same_ask (ask_of r.version) ask) refl (row_is_meant rows ask place distinct.1 (record { row = at.row; stands = at.stands; asked = at.asked }))
  where
    by : (b : Bool) → same_ask (ask_of r.version) ask ≡ b → slice_get rows place ≡ row_meant rows ask → slice_get rows place ≡ cond b (Some r) (row_meant rows ask)
    by true e rest = absurd (distinct.0 (subst (Contains (asks_of rows)) (sym (asks_equal (ask_of r.version) ask e)) (ask_among rows ask place (record { row = at.row; stands = at.stands; asked = at.asked }))))
    by false e rest = rest

-- where no row has an ask, none is meant
pub none_is_meant : (rows : List Row) (ask : Ask) → HasNoRow rows ask → row_meant rows ask ≡ None
none_is_meant [] ask none = refl
none_is_meant (r ∷ rows) ask none = by (same_ask (ask_of r.version) ask) refl (none_is_meant rows ask (λ there. none (contains_later (ask_in r) ask (asks_of rows) there)))
  where
    by : (b : Bool) → same_ask (ask_of r.version) ask ≡ b → row_meant rows ask ≡ None → cond b (Some r) (row_meant rows ask) ≡ None
    by true e rest = absurd (none (subst (Contains (asks_of (r ∷ rows))) (asks_equal (ask_of r.version) ask e) (contains_first (ask_in r) (asks_of rows))))
    by false e rest = rest

-- ---- folders

-- the folder of the row that has a version
pub folder_by : (registry : Path) (rows : List declared.Row) (table : List Row) (v : Version) (row : Option declared.Row) → row ≡ find (λ r. same_version v r.version) rows → map row_view rows ≡ table → option_map (λ r. row_folder registry (row_view r)) row ≡ table_folder registry table v
folder_by registry rows table v row is seen =
    ap (option_map (λ r. row_folder registry (row_view r))) is ∙ sym (twice row_view (row_folder registry) (find (λ r. same_version v r.version) rows))
    ∙ sym (ap (option_map (row_folder registry)) (find_by row_view (λ r. same_version v r.version) rows)) ∙ ap (λ rows. table_folder registry rows v) seen

-- of a version that is another, it is another
is_itself : {w v : Version} → Some w ≡ Some v → same_version v w ≡ true
is_itself {w = w} {v = v} e = (version_decides v w).1 (sym (some_is e))

own_folder : (folder : Path) (w v : Version) (m : Manifest Condition) (b : Bool) → option_map (λ (r : PageRow Condition). r.version) (cond b (Some (record { version = w; manifest = Ok m })) None) ≡ Some v → (if same_version v w then Some folder else None) ≡ Some folder
own_folder folder w v m true e = ap (λ b. if b then Some folder else None) (is_itself e)
own_folder folder w v m false e = (cc)

row_stands : (port : List ℕ) (registry : Path) (files : Files) (rows : List Row) (v : Version) → option_map (λ r. r.version) (row_in (map (page_row port registry files) rows) (ask_of v)) ≡ Some v → (folder : Path) × (table_folder registry rows v ≡ Some folder)
row_stands port registry files [] v e = (cc)
row_stands port registry files (r ∷ rows) v e = by (same_version v r.version) (same_ask (ask_of r.version) (ask_of v)) refl (row_stands port registry files rows v) e
  where
    rest : Option (PageRow Condition)
    rest = row_in (map (page_row port registry files) rows) (ask_of v)

    by : (same asked : Bool) → same_version v r.version ≡ same → (option_map (λ r. r.version) rest ≡ Some v → (folder : Path) × (table_folder registry rows v ≡ Some folder))
        → option_map (λ r. r.version) (cond asked (Some (page_row port registry files r)) rest) ≡ Some v → (folder : Path) × (option_map (row_folder registry) (cond (same_version v r.version) (Some r) (find (λ q. same_version v q.version) rows)) ≡ Some folder)
    by true asked is later e = (row_folder registry r, ap (λ b. option_map (row_folder registry) (cond b (Some r) (find (λ q. same_version v q.version) rows))) is)
    by false true is later e = absurd (true≢false (sym (is_itself e) ∙ is))
    by false false is later e = let found = later e in (found.0, ap (λ b. option_map (row_folder registry) (cond b (Some r) (find (λ q. same_version v q.version) rows))) is ∙ found.1)

-- the version that a page has for its own ask stands in a folder
pub version_stands : (port : List ℕ) (files : Files) (found : FoundHome) (v : Version) → version_in (page_at port files found) (ask_of v) ≡ Some v → (folder : Path) × (folder_found found v ≡ Some folder)
version_stands port files (Err wrong) v e = (cc)
version_stands port files (Ok (in_overlay folder w m)) v e = (folder, own_folder folder w v m (same_ask (ask_of w) (ask_of v)) e)
version_stands port files (Ok (in_registry given registry rows)) v e = row_stands port registry files rows v e
