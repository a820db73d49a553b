-- What every page keeps, where a port comes from, and which ports are pinned. One walk along the chain of homes shows what can be wrong there, and whether the port is pinned then.
use Rattle.std.proofs.Common.{◌≡◌, ◌+◌, ◌-◌, ◌↔◌, ◌||◌, ◌&&◌, ℕ, Bool, true, false, cond, List, [], ◌∷◌, ◌++◌, length, take, drop, map, inl, inr, refl, ap, sym, subst, ◌∙◌, append_assoc, arith}
use Rattle.std.specs.Prelude.{Option, Some, None, option_map, is_some, IsSome, IfSome, IsTrue, IfErr, Result, Ok, Err, bytes_eq, codes, decimal}
use Rattle.std.specs.List.{find, AllByRecursion}
use Rattle.std.specs.Result.{MatchResult}
use Rattle.std.specs.Cmp.Lexicographic.{pointwise}
use Rattle.std.proofs.lemmas.Bool.{and_parts, and_right, or_cases, or_left, or_right, false_from_ne_true}
use Rattle.std.proofs.lemmas.List.{length-append, append_cancel_right}
use Rattle.std.proofs.lemmas.List.Elements.{All-contains, All-from_recursion}
use Rattle.std.proofs.Math.Seq.{drop-append_seam}
use Rattle.std.proofs.lemmas.Slice.Eq.{slice_eq-Decides, bytes_eq-Decides}
use Rattle.vk_spec.specs.Lists.{NoRepeats}
use Rattle.vk_spec.specs.Paths.{Path}
use Rattle.vk_spec.specs.Files.{Files}
use Rattle.vk_spec.specs.Reading.{◌>>=◌, or_fault, read_each}
use Rattle.vk_spec.specs.Versions.{Version, Ask, ask_of}
use Rattle.vk_spec.specs.Manifests.{Manifest, Override}
use Rattle.vk_spec.specs.Pages as the
use Rattle.vk_spec.specs.Pages.{Wrong, disagrees, Given, overlay, override, baseline, Field, has_override, is_overlay_file, is_pinned_by}
use Rattle.vk_spec.specs.Catalogues.{CanBeOfGiven, CanBeOfRow, HasOwnAlone, IsPage}
use Rattle.vk_spec.specs.Conditions.{Condition}
use Rattle.vk_spec.proofs.ListLemmas.{contains_nothing}
use Rattle.vk_json.specs.declared.faults.FileFault.{FileFault}
use Rattle.vk_manifest.proofs.DocumentLemmas.{is_read}
use Rattle.vk_config.specs.Closeness.{place_of}
use Rattle.vk_config.specs.Configs.{Source, filesystem, git, builtin, artifact}
use Rattle.vk_model.specs.declared.projects.Project.{Project}
use Rattle.vk_registry.specs.Agreement.{class_word, name_text, same_in, version_agrees, agreeing}
use Rattle.vk_registry.specs.Baselines.{ask_for, baseline_by}
use Rattle.vk_registry.specs.RegistryFiles.{baseline_path, table_path, port_folder}
use Rattle.vk_registry.specs.Tables.{Row, table_of, asks_of, IsTable}
use Rattle.vk_registry.proofs.TableLemmas.{table_read}
use Rattle.vk_files.specs.Kept.{Seen, absent, too_large, holds, seen_at}
use Rattle.vk_files.specs.Readings.{Standing, missing, too_long, readable, Bad, early_of, wrong_of, bad_at, told_at, or_told, seen_file, file_as, standing_at}
use Rattle.vk_opening.specs.Configurations.{config_in}
use Rattle.vk_opening.specs.Openings.{Opening, triplets_of, opened_of}
use Rattle.vk_opening.specs.Overlays.{port_at, overlay_by, overlay_at, overlays_at}
use Rattle.vk_root.specs.Overrides.{override_for}
use Rattle.vk_opening.specs.Projects.{manifest_path, folders_of}
use Rattle.vk_opening.specs.Roots.{root_in, port_in, early_at}
use Rattle.vk_opening.specs.Layouts.{Overlay, is_port, has_ports, Layout}
use Rattle.vk_pages.specs.Homes.{Home, in_overlay, in_registry, Served, served_by, source_in, served_for, given_by, overlay_home, home_in, home_with, served_home, registry_home, overlay_for, has_port, home_by, home_of, IsPinned}
use Rattle.vk_pages.specs.Pages.{row_folder, row_manifest, page_row, page_at, page_of}

-- ---- along a chain

-- what was read is so, or what is wrong is
record Each {A F : Type 0} (Wrong : F → Type 0) (P : A → Type 0) (r : Result A F) : Type 0 where
  pub is : MatchResult r P Wrong

then_each : {A B F : Type 0} {W : F → Type 0} {P : A → Type 0} {Q : B → Type 0} {r : Result A F} {f : A → Result B F} → Each W P r → ((x : A) → P x → Each W Q (f x)) → Each W Q (r >>= f)
then_each {r = Ok x} one each = each x one.is
then_each {r = Err e} one each = record { is = one.is }

any : {A F : Type 0} (r : Result A F) → Each (λ e. Unit {0}) (λ x. Unit {0}) r
any (Ok x) = record { is = tt }
any (Err e) = record { is = tt }

there : {A F : Type 0} {W : F → Type 0} (fault : F) (o : Option A) → (o ≡ None → W fault) → Each W (λ x. Unit {0}) (or_fault fault o)
there fault None wrong = record { is = wrong refl }
there fault (Some x) wrong = record { is = tt }

same : {W : Wrong → Type 0} (path : Path) (field : Field) (said found : List ℕ) → W (disagrees path field said found) → Each W (λ x. Unit {0}) (same_in path field said found)
same {W = W} path field said found wrong = by (bytes_eq said found)
  where
    by : (b : Bool) → Each W (λ x. Unit {0}) (cond b (Ok (tt {0})) (Err (disagrees path field said found)))
    by true = record { is = tt }
    by false = record { is = wrong }

-- what is read of a file is read of bytes
of_bytes : {A : Type 0} (P : A → Type 0) (reading : List ℕ → Result A FileFault) → ((bytes : List ℕ) (x : A) → reading bytes ≡ Ok x → P x) → (seen : Seen) (x : A) → seen_file reading seen ≡ Ok x → P x
of_bytes P reading each absent x e = (cc)
of_bytes P reading each too_large x e = (cc)
of_bytes P reading each (holds bytes) x e = each bytes x e

content : {A F : Type 0} {W : F → Type 0} {P : A → Type 0} (told : Bad → F) (reading : List ℕ → Result A FileFault) (path : Path) (files : Files) → ((fault : FileFault) → W (told (bad_at path fault)))
    → ((bytes : List ℕ) (x : A) → reading bytes ≡ Ok x → P x) → Each W P (file_as told reading path files)
content {A = A} {W = W} {P = P} told reading path files wrong each = by (seen_file reading (seen_at path files)) (of_bytes P reading each (seen_at path files))
  where
    by : (r : Result A FileFault) → ((x : A) → r ≡ Ok x → P x) → Each W P (or_told told (told_at path r))
    by (Ok x) each = record { is = each x refl }
    by (Err fault) each = record { is = wrong fault }

-- ---- what an opening has

-- an overlay that is a port has a version
abbrev HasVersion : Overlay → Type 0
HasVersion (is_port folder m) = IsSome m.version
HasVersion (has_ports folder) = Unit {0}

-- the ports among its overlays have versions, and its start has the overrides of the root manifest
record IsOpened (opening : Opening) : Type 0 where
  pub ports : AllByRecursion HasVersion opening.layout.overlays
  pub sets : (opening.setting []).root.overrides ≡ opening.layout.overrides

-- what a port's reader gives has a version
versioned : (bytes : List ℕ) (m : Manifest Condition) → port_in bytes ≡ Ok m → IsSome m.version
versioned bytes m e = (is_read bytes false m e).1.versioned

port_has : (folder : Path) (files : Files) → Each (λ e. Unit {0}) HasVersion (port_at folder files)
port_has folder files = then_each (content early_of port_in (manifest_path folder) files (λ fault. tt) versioned) (λ m is. record { is = is })

overlay_has : (standing : Standing) (folder : Path) (files : Files) → Each (λ e. Unit {0}) HasVersion (overlay_by standing folder files)
overlay_has missing folder files = record { is = tt }
overlay_has too_long folder files = port_has folder files
overlay_has readable folder files = port_has folder files

overlays_have : (files : Files) (n : ℕ) (folders : List Path) → Each (λ e. Unit {0}) (AllByRecursion HasVersion) (read_each (λ _ folder. overlay_at folder files) n folders)
unfolding read_each overlay_at
overlays_have files n [] = record { is = tt }
overlays_have files n (folder ∷ folders) =
    then_each (overlay_has (standing_at (manifest_path folder) files) folder files) (λ o is. then_each (overlays_have files (n + 1) folders) (λ os are. record { is = (is, are) }))

opened_has : (project : Project) (files : Files) → Each (λ e. Unit {0}) IsOpened (opened_of project files)
unfolding opened_of overlays_at
opened_has project files =
    then_each (any (early_at root_in (manifest_path project.folder) files))
    (λ root _. then_each (any (config_in project.folder root.configuration files))
    (λ config _. then_each (any (triplets_of project config files))
    (λ triplets _. then_each (overlays_have files 0 (folders_of project.folder project.overlay_ports config.overlay_ports)) (λ overlays each. record { is = record { ports = each; sets = refl } }))))

found_has : (p : Overlay → Bool) (overlays : List Overlay) → AllByRecursion HasVersion overlays → IfSome (find p overlays) HasVersion
found_has p [] each = tt
found_has p (o ∷ overlays) each = first (p o) (found_has p overlays each.1)
  where
    first : (b : Bool) → IfSome (find p overlays) HasVersion → IfSome (cond b (Some o) (find p overlays)) HasVersion
    first true later = each.0
    first false later = later

-- ---- where files stand

ends_in : (port : List ℕ) (front : Path) (a b : List ℕ) → is_overlay_file port (front ++ a ∷ b ∷ []) ≡ pointwise bytes_eq (a ∷ b ∷ []) (port ∷ codes "vcpkg.json" ∷ [])
ends_in port front a b =
    let all : length (front ++ a ∷ b ∷ []) ≡ length front + 2 = length-append front (a ∷ b ∷ []) in
    let most : length (front ++ a ∷ b ∷ []) - 2 ≡ length front = omega (arith, all) in
    ap (λ l. pointwise bytes_eq l (port ∷ codes "vcpkg.json" ∷ [])) (ap (λ n. drop n (front ++ a ∷ b ∷ [])) most ∙ drop-append_seam front (a ∷ b ∷ []))

-- the manifest of a port in an overlay stands in the port's folder
overlay_file : (port : List ℕ) (folder : Path) → is_overlay_file port (manifest_path (port_folder folder port)) ≡ true
overlay_file port folder =
    let ends : List (List ℕ) = port ∷ codes "vcpkg.json" ∷ [] in
    ap (is_overlay_file port) (append_assoc folder (port ∷ []) (codes "vcpkg.json" ∷ []))
    ∙ ends_in port folder port (codes "vcpkg.json")
    ∙ (slice_eq-Decides bytes_eq-Decides ends ends (pointwise bytes_eq ends ends) refl).1 refl

-- the files of a registry don't
no_baseline_file : (port : List ℕ) (registry : Path) → is_overlay_file port (baseline_path registry) ≡ false
no_baseline_file port registry =
    ends_in port registry (codes "versions") (codes "baseline.json")
    ∙ and_right (bytes_eq (codes "versions") port) (bytes_eq (codes "baseline.json") (codes "vcpkg.json") && true) refl

-- a port whose file is `vcpkg.json` is `vcpkg`, whose folder is another
other_folder : (port : List ℕ) → take 1 port ++ codes "-" ≡ port → port ++ codes ".json" ≡ codes "vcpkg.json" → ⊥
other_folder port folder file =
    let is : port ≡ codes "vcpkg" = append_cancel_right port (codes "vcpkg") (codes ".json") file in
    let short : 2 ≡ 5 = ap length (subst (λ p. take 1 p ++ codes "-" ≡ p) is folder) in
    absurd (omega (arith, short))

no_table_file : (port : List ℕ) (registry : Path) → is_overlay_file port (table_path port registry) ≡ false
no_table_file port registry =
    let folder : List ℕ = take 1 port ++ codes "-" in
    let file : List ℕ = port ++ codes ".json" in
    ap (is_overlay_file port) (sym (append_assoc registry (codes "versions" ∷ []) (folder ∷ file ∷ [])))
    ∙ ends_in port (registry ++ codes "versions" ∷ []) folder file
    ∙ false_from_ne_true (bytes_eq folder port && (bytes_eq file (codes "vcpkg.json") && true)) (λ e.
    let both = and_parts (bytes_eq folder port) (bytes_eq file (codes "vcpkg.json") && true) e in
    let last = and_parts (bytes_eq file (codes "vcpkg.json")) true both.1 in
    other_folder port ((bytes_eq-Decides folder port).0 both.0) ((bytes_eq-Decides file (codes "vcpkg.json")).0 last.0))

-- ---- homes

set_is : (overrides : List Override) (port : List ℕ) → has_override overrides port ≡ is_some (override_for overrides port)
set_is [] port = refl
set_is (o ∷ overrides) port = first (bytes_eq o.name port) (set_is overrides port)
  where
    first : (b : Bool) → has_override overrides port ≡ is_some (override_for overrides port)
        → (b || has_override overrides port) ≡ is_some (option_map (λ o. o.ask) (cond b (Some o) (find (λ o. bytes_eq o.name port) overrides)))
    first true later = refl
    first false later = later

-- a registry gives what pins the port, or what doesn't
abbrev IsSet : Bool → Given → Type 0
IsSet pinned (overlay v) = ⊥
IsSet pinned (override ask) = pinned ≡ true
IsSet pinned (baseline ask) = pinned ≡ false

abbrev IsHome : Bool → Home → Type 0
IsHome pinned (in_overlay folder v m) = pinned ≡ true
IsHome pinned (in_registry given registry rows) = IsSet pinned given × IsTable rows

-- what can be wrong with a home, and where as much is known, the port is pinned then or not
abbrev IsWrong : Layout → List ℕ → Type 0 → Bool → Wrong → Type 0
IsWrong layout port Known pinned wrong = CanBeOfGiven wrong × (Known → is_pinned_by layout.overrides port (Err wrong) ≡ pinned)

module _ (layout : Layout) (port : List ℕ) (files : Files) (Known : Type 0) where
  own_is : (folder : Path) (m : Manifest Condition) → (Known → IsSome m.version) → Each (IsWrong layout port Known true) (IsHome true) (overlay_home folder m)
  unfolding overlay_home
  own_is folder m has = then_each (there _ m.version (λ none. (tt, λ known. let some : IsSome {T = Version} None = subst IsSome none (has known) in (cc)))) (λ v _. record { is = refl })

  in_is : (o : Overlay) → (Known → HasVersion o) → Each (IsWrong layout port Known true) (IsHome true) (home_in o port files)
  in_is (is_port folder m) has = own_is folder m has
  in_is (has_ports folder) has =
      let own = port_folder folder port in
      let path = manifest_path own in
      then_each (then_each (content wrong_of port_in path files (λ fault. (tt, λ known. or_left (is_overlay_file port path) (has_override layout.overrides port) (overlay_file port folder))) versioned)
      (λ m is. then_each (same path the.name port (name_text m.name) (refl, λ known. refl)) (λ _ _. record { is = is }))) (λ m is. own_is own m (λ known. is))

  served_is : {pinned : Bool} (source : Option Source) → has_override layout.overrides port ≡ pinned → Each (IsWrong layout port Known pinned) (λ s. Unit {0}) (served_by layout.folder source)
  served_is (Some (filesystem path name)) is = record { is = tt }
  served_is (Some git) is = record { is = (tt, λ known. is) }
  served_is (Some builtin) is = record { is = (tt, λ known. is) }
  served_is (Some artifact) is = record { is = (tt, λ known. is) }
  served_is None is = record { is = (tt, λ known. is) }

  entry_is : (ask : Option Ask) → has_override layout.overrides port ≡ false → Each (IsWrong layout port Known false) (IsSet false) (or_fault the.no_baseline (option_map baseline ask))
  entry_is None is = record { is = (tt, λ known. is) }
  entry_is (Some ask) is = record { is = refl }

  -- a file of the registry that is wrong
  file_wrong : {pinned : Bool} (path : Path) → is_overlay_file port path ≡ false → has_override layout.overrides port ≡ pinned → (fault : FileFault) → IsWrong layout port Known pinned (wrong_of (bad_at path fault))
  file_wrong path other is fault = (tt, λ known. ap (λ b. b || has_override layout.overrides port) other ∙ is)

  given_is : (set : Option Ask) (served : Served) → has_override layout.overrides port ≡ is_some set → Each (IsWrong layout port Known (is_some set)) (IsSet (is_some set)) (given_by set served port files)
  given_is (Some ask) served is = record { is = refl }
  given_is None served is =
      then_each (content wrong_of (baseline_by served.baseline) (baseline_path served.folder) files (file_wrong (baseline_path served.folder) (no_baseline_file port served.folder) is) (λ bytes entries e. tt {0})) (λ entries _. entry_is (ask_for port entries) is)

  registry_is : Each (IsWrong layout port Known (is_some (override_for layout.overrides port))) (IsHome (is_some (override_for layout.overrides port))) (registry_home layout port files)
  unfolding registry_home served_home
  registry_is =
      let is = set_is layout.overrides port in
      then_each (served_is (source_in layout.config (place_of layout.config port)) is)
      (λ served _. then_each (given_is (override_for layout.overrides port) served is)
      (λ given set. then_each (content wrong_of table_of (table_path port served.folder) files (file_wrong (table_path port served.folder) (no_table_file port served.folder) is) table_read) (λ rows table. record { is = (set, table) })))

  -- whether the port is pinned
  abbrev pinned_at : Option Overlay → Bool
  pinned_at found = is_some found || is_some (override_for layout.overrides port)

  home_is : (found : Option Overlay) → (Known → IfSome found HasVersion) → Each (IsWrong layout port Known (pinned_at found)) (IsHome (pinned_at found)) (home_by found layout port files)
  home_is (Some o) has = in_is o has
  home_is None has = registry_is

-- ---- pages

row_is : (port : List ℕ) (registry : Path) (files : Files) (row : Row) → Each CanBeOfRow (λ m. Unit {0}) (row_manifest port registry row files)
unfolding row_manifest agreeing version_agrees
row_is port registry files row =
    let path = manifest_path (row_folder registry row) in
    let v = row.version in
    then_each (content wrong_of port_in path files (λ fault. tt) (λ bytes m e. tt {0}))
    (λ m _. then_each (then_each (same path the.name port (name_text m.name) tt) (λ _ _. then_each (there _ m.version (λ none. tt))
    (λ w _. then_each (same path the.class (class_word v.class) (class_word w.class) tt)
    (λ _ _. then_each (same path the.text v.text w.text tt) (λ _ _. same path the.port (decimal v.port) (decimal w.port) tt))))) (λ _ _. record { is = tt }))

abbrev IsFitRow : the.Row Condition → Type 0
IsFitRow r = IfErr r.manifest CanBeOfRow

rows_are : (port : List ℕ) (registry : Path) (files : Files) (rows : List Row) → AllByRecursion IsFitRow (map (page_row port registry files) rows)
rows_are port registry files [] = tt
rows_are port registry files (row ∷ rows) = (fits (row_is port registry files row), rows_are port registry files rows)
  where
    fits : {r : Result (Manifest Condition) Wrong} → Each CanBeOfRow (λ m. Unit {0}) r → IfErr r CanBeOfRow
    fits {r = Ok m} one = tt
    fits {r = Err wrong} one = one.is

asks_are : (port : List ℕ) (registry : Path) (files : Files) (rows : List Row) → map (λ r. ask_of r.version) (map (page_row port registry files) rows) ≡ asks_of rows
asks_are port registry files [] = refl
asks_are port registry files (row ∷ rows) = ap (λ asks. ask_of row.version ∷ asks) (asks_are port registry files rows)

set_alone : (pinned : Bool) (rows : List (the.Row Condition)) (given : Given) → IsSet pinned given → HasOwnAlone rows given
set_alone pinned rows (overlay v) is = absurd is
set_alone pinned rows (override a) is = tt
set_alone pinned rows (baseline a) is = tt

page_is : (layout : Layout) (port : List ℕ) {Known : Type 0} {pinned : Bool} (files : Files) (home : Result Home Wrong) → Each (IsWrong layout port Known pinned) (IsHome pinned) home → IsPage (page_at port files home)
page_is layout port files (Err wrong) home = record { distinct = tt; own = tt; given_wrong = home.is.0; row_wrongs = λ r at. absurd (contains_nothing r at) }
page_is layout port files (Ok (in_overlay folder v m)) home = record {
  distinct = (contains_nothing (ask_of v), tt);
  own = refl;
  given_wrong = tt;
  row_wrongs = λ r at. let rows : List (the.Row Condition) = record { version = v; manifest = Ok m } ∷ [] in All-contains IsFitRow rows r (All-from_recursion IsFitRow rows (tt, tt)) at;
}
page_is layout port {pinned = pinned} files (Ok (in_registry given registry rows)) home = record {
  distinct = subst NoRepeats (sym (asks_are port registry files rows)) home.is.1.distinct;
  own = set_alone pinned (map (page_row port registry files) rows) given home.is.0;
  given_wrong = tt;
  row_wrongs = λ r at. All-contains IsFitRow (map (page_row port registry files) rows) r (All-from_recursion IsFitRow (map (page_row port registry files) rows) (rows_are port registry files rows)) at;
}

pub is_page : (layout : Layout) (files : Files) (port : List ℕ) → IsPage (page_of layout files port)
is_page layout files port =
    let found = overlay_for layout.overlays port files in
    page_is layout port files (home_of layout port files) (home_is layout port files (IfSome found HasVersion) found (λ known. known))

-- ---- which ports are pinned

pinned_on_page : (layout : Layout) (port : List ℕ) {Known : Type 0} {pinned : Bool} (files : Files) (home : Result Home Wrong) → Each (IsWrong layout port Known pinned) (IsHome pinned) home → Known → is_pinned_by layout.overrides port (page_at port files home).given ≡ pinned
pinned_on_page layout port files (Err wrong) home known = home.is.1 known
pinned_on_page layout port files (Ok (in_overlay folder v m)) home known = sym home.is
pinned_on_page layout port {pinned = pinned} files (Ok (in_registry given registry rows)) home known = by given home.is.0
  where
    by : (given : Given) → IsSet pinned given → is_pinned_by layout.overrides port (Ok given) ≡ pinned
    by (overlay v) is = absurd is
    by (override a) is = sym is
    by (baseline a) is = sym is

pub is_pinned_where : (project : Project) (files : Files) (opening : Opening) → opened_of project files ≡ Ok opening → (port : List ℕ)
    → IsTrue (is_pinned_by (opening.setting []).root.overrides port (page_of opening.layout files port).given) ↔ IsPinned opening.layout port files
is_pinned_where project files opening e port =
    let opened : Each (λ e. Unit {0}) IsOpened (Ok opening) = subst (Each (λ e. Unit {0}) IsOpened) e (opened_has project files) in
    let layout = opening.layout in
    let found = overlay_for layout.overlays port files in
    let set = override_for layout.overrides port in
    let page = page_of layout files port in
    let says : is_pinned_by (opening.setting []).root.overrides port page.given ≡ (is_some found || is_some set) =
    ap (λ overrides. is_pinned_by overrides port page.given) opened.is.sets
    ∙ pinned_on_page layout port files (home_of layout port files) (home_is layout port files (IfSome found HasVersion) found (λ known. known)) (found_has (has_port port files) layout.overlays opened.is.ports) in (
      (λ pinned. or_cases (is_some found) (is_some set) (sym says ∙ pinned)),
      (λ either. says ∙ elim either [
        | inl there ↦ or_left (is_some found) (is_some set) there
        | inr there ↦ or_right (is_some found) (is_some set) there
      ]),
    )

-- ---- where a port comes from

pub from_overlay : (layout : Layout) (port : List ℕ) (files : Files) (o : Overlay) → overlay_for layout.overlays port files ≡ Some o → home_of layout port files ≡ home_in o port files
from_overlay layout port files o found = ap (λ found. home_by found layout port files) found

pub from_registry : (layout : Layout) (port : List ℕ) (files : Files) (served : Served) (ask : Ask) → overlay_for layout.overlays port files ≡ None → served_for layout port ≡ Ok served → override_for layout.overrides port ≡ Some ask
    → home_of layout port files ≡ home_with (override ask) served port files
unfolding registry_home served_home
from_registry layout port files served ask none is set =
    ap (λ found. home_by found layout port files) none
    ∙ ap (λ r. r >>= λ s. served_home (override_for layout.overrides port) s port files) is
    ∙ ap (λ o. served_home o served port files) set
