-- The ABI text of an instance: what is found of it over a world, and how that ends.
use Rattle.std.proofs.Common.{◌≡◌, ◌≢◌, ◌||◌, inl, inr, Bool, true, false, List, map, refl, ap, sym, subst, ◌∙◌}
use Rattle.std.specs.Prelude.{Option, Some, None, IfSome, Result, Ok, Err}
use Rattle.std.specs.List.{Contains, zip}
use Rattle.std.proofs.lemmas.Option.{IfSome_then}
use Rattle.vk_spec.specs.Paths.{Path}
use Rattle.vk_spec.specs.Files.{Files}
use Rattle.vk_spec.specs.Settings.{Setting}
use Rattle.vk_spec.specs.Settings as plain
use Rattle.vk_base.specs.declared.instances.Instance.{Instance}
use Rattle.vk_spec.specs.Lists.{NoRepeats}
use Rattle.vk_spec.specs.States.{Told, State}
use Rattle.vk_spec.specs.Catalogues.{CatalogueState, Places, OnPages}
use Rattle.vk_spec.specs.Conditions.{Condition}
use Rattle.vk_spec.specs.Standing.{disk_of, OnFiles}
use Rattle.vk_spec.proofs.OptionLemmas.{of_each, of_both}
use Rattle.vk_spec.proofs.StateLemmas.{told_before}
use Rattle.vk_base.specs.Stops.{has_failed, was_out}
use Rattle.vk_base.specs.declared.limits.Limit.{Limit}
use Rattle.vk_base.specs.declared.limits.Limit.TheVariants as limit
use Rattle.vk_base.specs.declared.stops.Outage.{Outage}
use Rattle.vk_base.specs.declared.stops.Outage.TheVariants as outage
use Rattle.vk_base.specs.declared.stops.Stop.{Stop}
use Rattle.vk_base.specs.declared.stops.Stop.TheVariants as stop
use Rattle.vk_resolution.specs.Planning.{Item, order_of}
use Rattle.vk_resolution.proofs.Members.{map_contains, contains_map}
use Rattle.vk_resolution.specs.Outcomes.{planned}
use Rattle.vk_resolution.specs.Reasons.{Reason}
use Rattle.vk_model.specs.declared.projects.Project.{Project}
use Rattle.vk_model.specs.declared.reasons.Reason as made_reason
use Rattle.vk_model.specs.declared.plans.Plan.{Plan}
use Rattle.vk_model.specs.FaultViews.{item_view, outcome_view}
use Rattle.vk_model.specs.FactViews.{reasons_view}
use Rattle.vk_model.specs.SettingViews.{instance_view, setting_view}
use Rattle.vk_model.specs.declared.plans.Outcome.{Outcome}
use Rattle.vk_model.specs.declared.plans.Outcome.TheVariants as outcome
use Rattle.vk_opening.specs.Layouts.{Layout}
use Rattle.vk_pages.specs.Pages.{page_of}
use Rattle.vk_world.specs.Worlds.{pages_in, places_in}
use Rattle.vk_world.specs.VersionFolders.{place_in}
use Rattle.vk_worklist.specs.declared.faults.CloseFault.{CloseFault}
use Rattle.vk_worklist.specs.declared.faults.CloseFault.TheVariants.{Facts}
use Rattle.vk_folder.specs.Folders.{IsFolderLimit, OnLimit, ReadsOnly}
use Rattle.vk_abi.specs.Plans.{Shared, Pair, TextsAre, TextsTold, IsBelowSome, pair_view}
use Rattle.vk_abi.specs.declared.plans.AbiPair.{AbiPair}
use Rattle.vk_app.specs.declared.requests.Task.TheVariants as task
use Rattle.vk_app.specs.declared.abi_texts.Spot.{Spot}
use Rattle.vk_app.specs.declared.abi_texts.Wanted.{Wanted}
use Rattle.vk_app.specs.Asked.{IsOfPorts, to_plan, to_tell}
use Rattle.vk_app.specs.Once.{ReadsOnce, ReadsFor}
use Rattle.vk_app.specs.Resolutions as the
use Rattle.vk_app.specs.Resolutions.{Settles}
use Rattle.vk_app.specs.Resolved.{resolution_of, Resolves, IsReady}
use Rattle.vk_app.specs.Shown.{Shown, told, printed, limit_line}
use Rattle.vk_app.specs.Texts.{place_of, shared_of, shown_at, text_at, AreFolders, ShowsPlaced, not_planned}
use Rattle.vk_app.specs.Answers.{ShowsSettled}
use Rattle.vk_app.specs.Ends.{EndsFor, MayEnd, done, refused, limited, lacking, broken, EndsWith, whole, short, shown_of, shown_out}
use Rattle.vk_app.specs.Folders.{IsPlanOf, HasNoPlan, HaveItems, HaveOutcome, StandIn, AreItemFolders, FindsIn, Finds, HasFolders, FitsOutcome, EndsPlaced, shown_limit, Untouched, EndsInPlan, EndsFound}
use Rattle.vk_app.proofs.DoneLemmas.{ends_by, ends_with}
use Rattle.vk_app.proofs.ReadLemmas.{for_plan, own_after}
use Rattle.vk_app.proofs.FolderLemmas.{planned_once}

or_false : (f : Bool) → f || false ≡ f
or_false true = refl
or_false false = refl

-- ---- what is found, where files are told

-- the folders of items, where the pages of the files have each of them
folders_told : (layout : Layout) (told : Option Told) (items : List Item) (folders : List Path) (s : CatalogueState Condition) → s.pages ≡ pages_in layout told → s.origin.places ≡ places_in layout told
    → AreItemFolders items folders s → IfSome told (λ t. AreFolders layout t.files items folders)
folders_told layout None items folders s pages places h = tt
folders_told layout (Some t) items folders s pages places h =
    subst (λ (p : Places). StandIn p items folders) places (subst (λ o. IfSome o (λ ps. StandIn s.origin.places items folders)) pages h)

-- where resolving failed, nothing more is asked
pub calm_found : (i : plain.Instance) (answer : Result Outcome (Stop CloseFault)) (found : Result (Option Spot) Outage) (s : CatalogueState Condition) → Finds i answer found s → has_failed answer ≡ true → was_out found ≡ false
calm_found i (Ok o) found s finds failed = (cc)
calm_found i (Err e) found s finds failed = ap was_out finds

fits_in : (i : plain.Instance) (items : List Item) (found : Result (Option Spot) Outage) (s : CatalogueState Condition) → FindsIn i items found s → HasFolders items found
fits_in i items (Ok (Some spot)) s finds = finds.1
fits_in i items (Ok None) s finds = tt {0}
fits_in i items (Err o) s finds = tt {0}

-- a spot that was found has a folder for each item
pub fits_outcome : (i : plain.Instance) (answer : Result Outcome (Stop CloseFault)) (found : Result (Option Spot) Outage) (s : CatalogueState Condition) → Finds i answer found s → FitsOutcome answer found
fits_outcome i (Ok (outcome.Planned plan reasons)) found s finds = fits_in i (map item_view plan.items) found s finds
fits_outcome i (Ok (outcome.Refused faults reasons)) found s finds = tt {0}
fits_outcome i (Ok (outcome.Early early)) found s finds = tt {0}
fits_outcome i (Err e) found s finds = tt {0}

-- what is below the folders of items is below folders where versions of ports stand
in_folder : (layout : Layout) (files : Files) (items : List Item) (folders : List Path) (path : Path) → AreFolders layout files items folders → IsBelowSome folders path → IsOfPorts layout to_tell files path
in_folder layout files items folders path stand below =
    let there = contains_map (λ item. place_in layout files item.instance.port item.version) items (Some below.0) (subst (λ l. Contains l (Some below.0)) (sym stand) (map_contains Some folders below.0 below.1)) in
    (there.0.instance.port, there.0.version, below.0, there.2, below.2)

-- ---- a plan, or none

pub have_plan : (plan : Plan) (answer : Result Outcome (Stop CloseFault)) (s : CatalogueState Condition) → IsPlanOf plan answer → HaveOutcome answer s → OnPages (λ pages. HaveItems pages (map item_view plan.items)) s
have_plan plan answer s is have = rw is.is at have

pub finds_plan : (i : plain.Instance) (plan : Plan) (answer : Result Outcome (Stop CloseFault)) (found : Result (Option Spot) Outage) (s : CatalogueState Condition) → IsPlanOf plan answer → FindsIn i (map item_view plan.items) found s → Finds i answer found s
finds_plan i plan answer found s is finds = rw is.is finds

pub finds_none : (i : plain.Instance) (answer : Result Outcome (Stop CloseFault)) (s : CatalogueState Condition) → HasNoPlan answer → Finds i answer (Ok None) s
finds_none i (Ok (outcome.Planned plan reasons)) s none = absurd none
finds_none i (Ok (outcome.Refused faults reasons)) s none = refl
finds_none i (Ok (outcome.Early early)) s none = refl
finds_none i (Err e) s none = refl

pub fits_plan : (plan : Plan) (answer : Result Outcome (Stop CloseFault)) (found : Result (Option Spot) Outage) → IsPlanOf plan answer → FitsOutcome answer found → HasFolders (map item_view plan.items) found
fits_plan plan answer found is fits = rw is.is at fits

pub ends_plan : (wanted : Wanted) (plan : Plan) (answer : Result Outcome (Stop CloseFault)) (found : Result (Option Spot) Outage) (shown : Shown) (a b : State) → IsPlanOf plan answer → EndsInPlan wanted (map item_view plan.items) found shown a b → EndsFound wanted answer found shown a b
ends_plan wanted plan answer found shown a b is ends = rw is.is ends

pub ends_none : (wanted : Wanted) (answer : Result Outcome (Stop CloseFault)) (found : Result (Option Spot) Outage) (shown : Shown) (s : State) → HasNoPlan answer → EndsWith (shown_of wanted.project.now answer) shown → EndsFound wanted answer found shown s s
ends_none wanted (Ok (outcome.Planned plan reasons)) found shown s none told = absurd none
ends_none wanted (Ok (outcome.Refused faults reasons)) found shown s none told = record { ends = told; same = refl }
ends_none wanted (Ok (outcome.Early early)) found shown s none told = record { ends = told; same = refl }
ends_none wanted (Err e) found shown s none told = record { ends = told; same = refl }

-- ---- what is shown of it

-- the text at a spot, or the limit, is shown
abbrev SpotShows : Shared → List Item → Spot → Shown → Files → Type 0
SpotShows shared items spot shown files = NoRepeats (order_of items) → (texts : Result (List Pair) Limit) × TextsAre shared (zip items spot.folders) texts (disk_of files) × (shown ≡ shown_at spot.place texts)

shows_spot : (project : Project) (instance : Instance) (setting : Setting) (layout : Layout) (files : Files) (items : List Item) (reasons : List Reason) (spot : Spot) (shown : Shown)
    → Settles setting (page_of layout files) (the.resolved (planned items reasons)) → place_of (instance_view instance) items ≡ Some spot.place
    → AreFolders layout files items spot.folders
    → SpotShows (shared_of project setting) items spot shown files
    → ShowsSettled (task.Abi project instance) setting layout files shown
shows_spot project instance setting layout files items reasons spot shown settles place stand texts =
    let t = texts (planned_once setting (page_of layout files) items reasons settles.0) in (
      the.resolved (planned items reasons),
      settles,
      subst (λ p. ShowsPlaced (shared_of project setting) layout files items (instance_view instance) p shown) (sym place) (t.0, record { folders = spot.folders; stand = stand; are = t.1 }, t.2),
    )

shows_unplanned : (project : Project) (instance : Instance) (setting : Setting) (layout : Layout) (files : Files) (items : List Item) (reasons : List Reason)
    → Settles setting (page_of layout files) (the.resolved (planned items reasons)) → place_of (instance_view instance) items ≡ None
    → ShowsSettled (task.Abi project instance) setting layout files (printed 1 (not_planned (instance_view instance)))
shows_unplanned project instance setting layout files items reasons settles place =
    (the.resolved (planned items reasons), settles, subst (λ p. ShowsPlaced (shared_of project setting) layout files items (instance_view instance) p (printed 1 (not_planned (instance_view instance)))) (sym place) refl)

-- there is no plan
shows_rest : (project : Project) (instance : Instance) (setting : Setting) (layout : Layout) (files : Files) (answer : Result Outcome (Stop CloseFault)) → HasNoPlan answer → setting.max_facts ≡ project.max_facts → Resolves (Settles setting (page_of layout files)) answer
    → (shown_of project answer).status ≢ 3 → (shown_of project answer).status ≢ 4 → ShowsSettled (task.Abi project instance) setting layout files (shown_of project answer)
shows_rest project instance setting layout files (Ok (outcome.Planned plan reasons)) rest most h three four = absurd rest
shows_rest project instance setting layout files (Ok (outcome.Refused faults reasons)) rest most h three four = (resolution_of (outcome_view (outcome.Refused faults reasons)), h, refl)
shows_rest project instance setting layout files (Ok (outcome.Early early)) rest most h three four = absurd h
shows_rest project instance setting layout files (Err (stop.Fault (Facts n))) rest most h three four = (the.too_many n, h, ap (λ k. told 6 (limit_line (limit.Facts k))) (sym (h.1 ∙ most)))
shows_rest project instance setting layout files (Err stop.Failed) rest most h three four = absurd (four refl)
shows_rest project instance setting layout files (Err (stop.Memory m)) rest most h three four = absurd (three refl)

-- ---- the text at a spot

once_known : {A : Type 0} (P : A → Type 0) (N : Type 0) (o : Option A) → (N → IfSome o P) → IfSome o (λ x. N → P x)
once_known P N None h = tt
once_known P N (Some x) h = h

pub placed_text : (wanted : Wanted) (items : List Item) (spot : Spot) (pairs : List AbiPair) (a b : State)
    → (NoRepeats (order_of items) → OnFiles (TextsTold (shared_of wanted.project.now (setting_view wanted.setting.now)) (zip items spot.folders) (Ok pairs)) a) → ReadsOnly (IsBelowSome spot.folders) false a b
    → EndsPlaced wanted items spot (printed 0 (text_at (map pair_view pairs) spot.place)) a b
placed_text wanted items spot pairs a b is only = record {
  failed = false;
  may = done (task.Abi wanted.project.now wanted.instance.now) _;
  reads = only;
  content = IfSome_then a.told (once_known _ (NoRepeats (order_of items)) a.told is) (λ t told three four once. (Ok (map pair_view pairs), told once, refl));
}

placed_out : (wanted : Wanted) (items : List Item) (spot : Spot) (e : Stop Limit) (a b : State)
    → (NoRepeats (order_of items) → OnFiles (TextsTold (shared_of wanted.project.now (setting_view wanted.setting.now)) (zip items spot.folders) (Err e)) a)
    → OnLimit {A = List AbiPair} (Err e) (IsFolderLimit wanted.project.now.max_bytes)
    → ReadsOnly (IsBelowSome spot.folders) (has_failed {A = List AbiPair} (Err e)) a b → EndsPlaced wanted items spot (shown_limit e) a b
placed_out wanted items spot (stop.Fault l) a b is limits only = record {
  failed = false;
  may = limited (task.Abi wanted.project.now wanted.instance.now) l (inr limits);
  reads = only;
  content = IfSome_then a.told (once_known _ (NoRepeats (order_of items)) a.told is) (λ t told three four once. (Err l, told once, refl));
}
placed_out wanted items spot stop.Failed a b is limits only = record { failed = true; may = broken (task.Abi wanted.project.now wanted.instance.now); reads = only; content = of_each a.told (λ t three four. absurd (four refl)) }
placed_out wanted items spot (stop.Memory m) a b is limits only = record { failed = false; may = lacking (Ok (task.Abi wanted.project.now wanted.instance.now)); reads = only; content = of_each a.told (λ t three four. absurd (three refl)) }

calm_out : (e : Stop Limit) → (shown_limit e).status ≢ 4 → has_failed {A = List AbiPair} (Err e) ≡ false
calm_out (stop.Fault l) four = refl
calm_out stop.Failed four = absurd (four refl)
calm_out (stop.Memory m) four = refl

pub placed_limit : (wanted : Wanted) (items : List Item) (spot : Spot) (e : Stop Limit) (shown : Shown) (a b : State)
    → (NoRepeats (order_of items) → OnFiles (TextsTold (shared_of wanted.project.now (setting_view wanted.setting.now)) (zip items spot.folders) (Err e)) a)
    → OnLimit {A = List AbiPair} (Err e) (IsFolderLimit wanted.project.now.max_bytes)
    → ReadsOnly (IsBelowSome spot.folders) (has_failed {A = List AbiPair} (Err e)) a b → EndsWith (shown_limit e) shown → EndsPlaced wanted items spot shown a b
placed_limit wanted items spot e shown a b is limits only whole = placed_out wanted items spot e a b is limits only
placed_limit wanted items spot e shown a b is limits only (short four) = record {
  failed = false;
  may = lacking (Ok (task.Abi wanted.project.now wanted.instance.now));
  reads = subst (λ f. ReadsOnly (IsBelowSome spot.folders) f a b) (calm_out e four) only;
  content = of_each a.told (λ t three other. absurd (three refl));
}

-- ---- how it ends

module _ (wanted : Wanted) (layout : Layout) (read : List Path) (a b c : State) where
  abbrev Ends : Shown → Type 0
  Ends shown = EndsFor (Ok (task.Abi wanted.project.now wanted.instance.now)) (ShowsSettled (task.Abi wanted.project.now wanted.instance.now) (setting_view wanted.setting.now) layout)
      (ReadsFor (Ok (task.Abi wanted.project.now wanted.instance.now)) (IsOfPorts layout) read) shown a c

  -- what was read for the plan
  abbrev Reads : Bool → State → State → Type 0
  Reads = ReadsOnce (IsOfPorts layout to_plan) read

  plan_reads : (failed : Bool) → Reads failed a b → c ≡ b → ReadsFor (Ok (task.Abi wanted.project.now wanted.instance.now)) (IsOfPorts layout) read failed a c
  plan_reads failed reads same = for_plan _ _ _ (subst (Reads failed a) (sym same) reads)

  abbrev ResolvesTo : Result Outcome (Stop CloseFault) → Type 0
  ResolvesTo answer = IfSome a.told (λ t. Resolves (Settles (setting_view wanted.setting.now) (page_of layout t.files)) answer)

  -- nothing was read besides, and this is shown
  still : (first shown : Shown) (failed : Bool) → MayEnd (Ok (task.Abi wanted.project.now wanted.instance.now)) first failed → (first.status ≢ 4 → failed ≡ false)
      → IfSome a.told (λ t. first.status ≢ 3 → first.status ≢ 4 → ShowsSettled (task.Abi wanted.project.now wanted.instance.now) (setting_view wanted.setting.now) layout t.files first)
      → Reads failed a b → c ≡ b → EndsWith first shown → Ends shown
  still first shown failed may calm content reads same ends = ends_by (task.Abi wanted.project.now wanted.instance.now) _ _ first shown failed a c may calm content (plan_reads failed reads same) ends

  -- no call of the tree that was made since failed, or one did
  out_ends : (o : Outage) (shown : Shown) → Reads (was_out {A = Option Spot} (Err o)) a b → Untouched (shown_out o) shown b c → Ends shown
  out_ends outage.Failed shown only u = still (shown_out outage.Failed) shown true (broken (task.Abi wanted.project.now wanted.instance.now)) (λ four. absurd (four refl)) (of_each a.told (λ t three four. absurd (four refl))) only u.same u.ends
  out_ends (outage.Memory m) shown only u = still (shown_out (outage.Memory m)) shown false (lacking (Ok (task.Abi wanted.project.now wanted.instance.now))) (λ four. refl) (of_each a.told (λ t three four. absurd (three refl))) only u.same u.ends

  -- there is no plan
  rest_ends : (answer : Result Outcome (Stop CloseFault)) (found : Result (Option Spot) Outage) (shown : Shown) → HasNoPlan answer → found ≡ Ok None → ResolvesTo answer
      → IfSome a.told (λ t. IsReady wanted.project.now wanted.setting.now) → Reads (has_failed answer || was_out found) a b → Untouched (shown_of wanted.project.now answer) shown b c → Ends shown
  rest_ends answer found shown rest none resolves ready only u =
      let same : has_failed answer || was_out found ≡ has_failed answer = ap (λ f. has_failed answer || was_out f) none ∙ or_false (has_failed answer) in
      ends_with (task.Abi wanted.project.now wanted.instance.now) _ _ answer shown a c (inl refl)
      (of_both a.told ready resolves (λ t r h three four. shows_rest wanted.project.now wanted.instance.now (setting_view wanted.setting.now) layout t.files answer rest r h three four))
      (plan_reads (has_failed answer) (subst (λ f. Reads f a b) same only) u.same) u.ends

  -- there is one
  plan_ends_so : (plan : Plan) (reasons : List made_reason.Reason) (found : Result (Option Spot) Outage) (shown : Shown) (s : CatalogueState Condition)
      → s.pages ≡ pages_in layout a.told → s.origin.places ≡ places_in layout a.told → ResolvesTo (Ok (outcome.Planned plan reasons))
      → FindsIn (instance_view wanted.instance.now) (map item_view plan.items) found s → Reads (was_out found) a b → EndsInPlan wanted (map item_view plan.items) found shown b c → Ends shown
  plan_ends_so plan reasons (Ok None) shown s pages places resolves finds only u =
      still (printed 1 (not_planned (instance_view wanted.instance.now))) shown false (refused (task.Abi wanted.project.now wanted.instance.now) _) (λ four. refl)
      (IfSome_then a.told resolves (λ t h three four. shows_unplanned wanted.project.now wanted.instance.now (setting_view wanted.setting.now) layout t.files (map item_view plan.items) (reasons_view reasons) h finds))
      only u.same u.ends
  plan_ends_so plan reasons (Err o) shown s pages places resolves finds only u = out_ends o shown only u
  plan_ends_so plan reasons (Ok (Some spot)) shown s pages places resolves finds only e =
      let stand = folders_told layout a.told (map item_view plan.items) spot.folders s pages places finds.2 in
      let texts = told_before (λ f. shown.status ≢ 3 → shown.status ≢ 4 → SpotShows (shared_of wanted.project.now (setting_view wanted.setting.now)) (map item_view plan.items) spot shown f) only.only e.content in
      record {
        failed = e.failed;
        may = e.may;
        reads = own_after _ _ _ only e.reads.only (IfSome_then a.told stand (λ t st path has. in_folder layout t.files (map item_view plan.items) spot.folders path st (e.reads.within path has)));
        content = of_both a.told (of_both {R = λ t. StandsAndShows t.files plan spot shown} a.told stand texts (λ t st tx. (st, tx))) resolves
            (λ t both h three four. shows_spot wanted.project.now wanted.instance.now (setting_view wanted.setting.now) layout t.files (map item_view plan.items) (reasons_view reasons) spot shown h finds.0 both.0 (both.1 three four));
      }
    where
      StandsAndShows : Files → Plan → Spot → Shown → Type 0
      StandsAndShows files plan spot shown = AreFolders layout files (map item_view plan.items) spot.folders
          × (shown.status ≢ 3 → shown.status ≢ 4 → SpotShows (shared_of wanted.project.now (setting_view wanted.setting.now)) (map item_view plan.items) spot shown files)

  pub text_ends : (answer : Result Outcome (Stop CloseFault)) (found : Result (Option Spot) Outage) (shown : Shown) (s : CatalogueState Condition)
      → s.pages ≡ pages_in layout a.told → s.origin.places ≡ places_in layout a.told → ResolvesTo answer → IfSome a.told (λ t. IsReady wanted.project.now wanted.setting.now)
      → Finds (instance_view wanted.instance.now) answer found s → Reads (has_failed answer || was_out found) a b → EndsFound wanted answer found shown b c → Ends shown
  text_ends (Ok (outcome.Planned plan reasons)) found shown s pages places resolves ready finds only ends = plan_ends_so plan reasons found shown s pages places resolves finds only ends
  text_ends (Ok (outcome.Refused faults reasons)) found shown s pages places resolves ready finds only ends = rest_ends (Ok (outcome.Refused faults reasons)) found shown (tt {0}) finds resolves ready only ends
  text_ends (Ok (outcome.Early early)) found shown s pages places resolves ready finds only ends = rest_ends (Ok (outcome.Early early)) found shown (tt {0}) finds resolves ready only ends
  text_ends (Err e) found shown s pages places resolves ready finds only ends = rest_ends (Err e) found shown (tt {0}) finds resolves ready only ends

-- what is shown at once, over a tree of which nothing is read
pub shown_at_once : (first shown : Shown) (s : State) → shown ≡ first → Untouched first shown s s
shown_at_once first shown s e = rw e (record { ends = whole; same = refl })
