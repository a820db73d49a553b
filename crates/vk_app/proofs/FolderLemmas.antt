-- The folders of a plan's items.
use Rattle.std.proofs.Common.{◌≡◌, ◌<◌, ◌∷◌, ◌++◌, ◌+◌, ℕ, Bool, false, not, cond, List, [], length, map, take, get_or, refl, ap, sym, subst, ◌∙◌}
use Rattle.std.specs.Prelude.{Option, Some, None, IfSome, IsOk, Result, Ok, Err, nat_lt}
use Rattle.std.specs.List.{Contains, position, prefix_len}
use Rattle.std.proofs.lemmas.List.{length-map, map-append, take_more}
use Rattle.std.proofs.lemmas.List.Elements.{Contains-get_or}
use Rattle.vk_spec.specs.Lists.{NoRepeats}
use Rattle.vk_spec.specs.Versions.{Version, Ask, ask_of}
use Rattle.vk_spec.specs.Pages.{version_in}
use Rattle.vk_spec.specs.Settings.{Setting, Instance}
use Rattle.vk_spec.specs.Catalogues.{ArePages}
use Rattle.vk_spec.specs.Pages.{is_pinned_by}
use Rattle.vk_spec.proofs.ListLemmas.{contains_first, contains_later}
use Rattle.vk_resolution.specs.Givens.{Pages, version_at, is_pinned}
use Rattle.vk_resolution.specs.Asking.{Fact}
use Rattle.vk_resolution.specs.Planning.{Item, order_of, instance_key, IsByHeight, HasHeight, targets_of}
use Rattle.vk_resolution.specs.Choices.{chosen_of}
use Rattle.vk_resolution.specs.Outcomes.{planned}
use Rattle.vk_resolution.specs.Reasons.{Reason, facts_of}
use Rattle.vk_resolution.specs.Planner.{inputs_of, IsOutcomeOf}
use Rattle.vk_resolution.specs.PlannedVersions.{IsPlannedVersion, of_overlay, of_override, of_floors}
use Rattle.vk_resolution.specs.Service.{OverlaysHaveRows}
use Rattle.vk_resolution.proofs.ChoiceLemmas.{version_ask, free_choice, floors_are}
use Rattle.vk_resolution.proofs.Orders.{before_itself}
use Rattle.vk_resolution.proofs.PlannerLemmas.{plans_keep_promises}
use Rattle.vk_resolution.proofs.ServiceLemmas.{pages_have_rows}
use Rattle.vk_spec.specs.Paths.{Path}
use Rattle.vk_spec.specs.Conditions.{Condition}
use Rattle.vk_spec.specs.Catalogues.{CatalogueState, OnlyAsked, OnPages, Origin}
use Rattle.vk_spec.proofs.OptionLemmas.{of_each, of_both}
use Rattle.vk_resolution.proofs.Members.{map_contains}
use Rattle.std.proofs.lemmas.Option.{IfSome_then}
use Rattle.vk_spec.specs.States.{State, Told}
use Rattle.vk_base.specs.declared.stops.Stop.{Stop}
use Rattle.vk_model.specs.FaultViews.{item_view}
use Rattle.vk_model.specs.FactViews.{reasons_view}
use Rattle.vk_model.specs.declared.plans.Item as made
use Rattle.vk_model.specs.declared.plans.Outcome.{Outcome}
use Rattle.vk_model.specs.declared.plans.Outcome.TheVariants as outcome
use Rattle.vk_opening.specs.Layouts.{Layout}
use Rattle.vk_pages.specs.Homes.{home_of}
use Rattle.vk_pages.specs.Pages.{page_of}
use Rattle.vk_pages.proofs.PageLaws.{is_page}
use Rattle.vk_world.specs.Worlds.{WorldView, pages_in, places_in, layout_in, state_of}
use Rattle.vk_world.proofs.ListedLemmas.{version_stands}
use Rattle.vk_worklist.specs.declared.faults.CloseFault.{CloseFault}
use Rattle.vk_app.specs.Resolutions.{Settles}
use Rattle.vk_app.specs.Resolved.{Resolves}
use Rattle.vk_app.specs.Folders.{HasVersion, HasItem, HaveItems, HaveOutcome, StandIn, AreItemFolders}

-- ---- each item's version stands in its port's table

listed : (pages : Pages) (p : List ℕ) (a : Ask) (v : Version) → version_at pages p a ≡ Some v → version_in (pages p) (ask_of v) ≡ Some v
listed pages p a v e = subst (λ b. version_in (pages p) b ≡ Some v) (sym (version_ask pages p a v e)) e

has_version : (setting : Setting) (pages : Pages) (facts : List Fact) (p : List ℕ) (v : Version) → OverlaysHaveRows pages → IsPlannedVersion (inputs_of setting pages) facts p v → chosen_of (inputs_of setting pages) facts p ≡ Some v → HasVersion pages p v
has_version setting pages facts p v rows (of_overlay e) chosen = record { given = subst IsOk (sym e) refl; listed = rows p v e }
has_version setting pages facts p v rows (of_override a e at) chosen = record { given = subst IsOk (sym e) refl; listed = listed pages p a v at }
has_version setting pages facts p v rows (of_floors a e least) chosen =
    let free : is_pinned setting pages p ≡ false = ap (is_pinned_by setting.root.overrides p) e in
    let floor = floors_are (inputs_of setting pages) facts p v (free_choice (inputs_of setting pages) facts p v free chosen).0 in
    record { given = subst IsOk (sym e) refl; listed = listed pages p floor.ask v floor.version }

pub all_have_versions : (setting : Setting) (pages : Pages) (items : List Item) (reasons : List Reason) → ArePages pages → IsOutcomeOf setting pages (planned items reasons) → HaveItems pages items
all_have_versions setting pages items reasons are is =
    let keeps = plans_keep_promises setting pages are items reasons is in
    λ item h. has_version setting pages (facts_of reasons) item.instance.port item.version (pages_have_rows pages are) (keeps.versions item h) (is.1.plan.each item h).version

-- ---- no instance stands twice in a plan

once_by_height : (targets : Instance → List Instance) (is : List Instance) → ((i : Instance) → Contains is i → (n : ℕ) × HasHeight targets n i) → IsByHeight targets is → NoRepeats is
once_by_height targets [] heights by = tt
once_by_height targets (i ∷ is) heights by =
    let n = heights i (contains_first i is) in
    ((λ h. before_itself ((n.0 ∷ []) ∷ instance_key i) (by.0 i h n.0 n.0 n.1 n.1)), once_by_height targets is (λ j h. heights j (contains_later i j is h)) by.1)

pub planned_once : (setting : Setting) (pages : Pages) (items : List Item) (reasons : List Reason) → IsOutcomeOf setting pages (planned items reasons) → NoRepeats (order_of items)
planned_once setting pages items reasons is = once_by_height (targets_of (inputs_of setting pages) is.1.planned) (order_of items) is.1.plan.heights is.1.plan.order

-- ---- the place of an instance

passing_in : {X Y : Type 0} (p : Y → Bool) (f : X → Y) (xs : List X) → prefix_len p (map f xs) ≡ prefix_len (λ x. p (f x)) xs
passing_in p f [] = refl
passing_in p f (x ∷ xs) = ap (λ n. cond (p (f x)) (1 + n) 0) (passing_in p f xs)

-- the first of these that passes is the first of those that they come from
pub place_in : {X Y : Type 0} (p : Y → Bool) (f : X → Y) (xs : List X) → position (λ x. p (f x)) xs ≡ position p (map f xs)
place_in p f xs =
    let same : prefix_len (λ x. not (p (f x))) xs ≡ prefix_len (λ y. not (p y)) (map f xs) = sym (passing_in (λ y. not (p y)) f xs) in
    let long : length xs ≡ length (map f xs) = sym (length-map xs f) in
    ap (λ n. cond (nat_lt n (length xs)) (Some n) None) same ∙ ap (λ l. cond (nat_lt (prefix_len (λ y. not (p y)) (map f xs)) l) (Some (prefix_len (λ y. not (p y)) (map f xs))) None) long

-- ---- the folder of an item

-- each version on the pages of a world stands in a folder
stands_somewhere : {T : Type 0} (state : T → State) (w : WorldView T) (port : List ℕ) (v : Version) → OnPages (λ ps. HasVersion ps port v) (state_of state w) → OnPages (λ ps. (folder : Path) × ((state_of state w).origin.places port v ≡ Some folder)) (state_of state w)
stands_somewhere state w port v has = by (state w.archive.tree).told has
  where
    by : (o : Option Told) → IfSome (pages_in (layout_in w.learned) o) (λ ps. HasVersion ps port v) → IfSome (pages_in (layout_in w.learned) o) (λ ps. (folder : Path) × (places_in (layout_in w.learned) o port v ≡ Some folder))
    by None h = tt
    by (Some t) h = version_stands port t.files (home_of (layout_in w.learned) port t.files) v h.listed

-- a folder that is answered is that of the item
pub folder_answered : (s : CatalogueState Condition) (port : List ℕ) (v : Version) (folder : Path) → OnPages (λ ps. Some folder ≡ s.origin.places port v) s → OnPages (λ ps. s.origin.places port v ∷ [] ≡ Some folder ∷ []) s
folder_answered s port v folder told = IfSome_then s.pages told (λ ps e. ap (λ o. o ∷ []) (sym e))

-- and none isn't answered
pub never_without : {T : Type 0} (state : T → State) (w : WorldView T) (port : List ℕ) (v : Version) (folder : Path) → OnPages (λ ps. HasVersion ps port v) (state_of state w) → OnPages (λ ps. None ≡ (state_of state w).origin.places port v) (state_of state w)
    → OnPages (λ ps. (state_of state w).origin.places port v ∷ [] ≡ Some folder ∷ []) (state_of state w)
never_without state w port v folder has none = of_both (state_of state w).pages (stands_somewhere state w port v has) none (λ ps stands e. let clash : None ≡ Some stands.0 = e ∙ stands.1 in (cc))

-- ---- and of all items so far

pub none_stand : (s : CatalogueState Condition) → AreItemFolders [] [] s
none_stand s = of_each s.pages (λ ps. refl)

pub one_more_stands : (s : CatalogueState Condition) (items : List Item) (item : Item) (folders : List Path) (folder : Path) → AreItemFolders items folders s
    → AreItemFolders (item ∷ []) (folder ∷ []) s → AreItemFolders (items ++ item ∷ []) (folders ++ folder ∷ []) s
one_more_stands s items item folders folder old new = of_both s.pages old new (λ ps stand here.
    map-append (λ (i : Item). s.origin.places i.instance.port i.version) items (item ∷ []) ∙ ap (λ l. l ++ s.origin.places item.instance.port item.version ∷ []) stand
    ∙ ap (λ l. map Some folders ++ l) here ∙ sym (map-append Some folders (folder ∷ [])))

-- the pages after a run that only asked have them too
pub have_item : (old new : CatalogueState Condition) (items : List Item) (item : Item) → OnlyAsked false old new → Contains items item → OnPages (λ ps. HaveItems ps items) old → OnPages (λ ps. HasItem ps item) new
have_item old new items item only h have = subst (λ o. IfSome o (λ ps. HasItem ps item)) (sym only.pages) (IfSome_then old.pages have (λ ps each. each item h))

-- where an item's folder stands before a run that only asked, it stands after it
pub stands_before : (old new : CatalogueState Condition) (items : List Item) (folders : List Path) → OnlyAsked false old new → AreItemFolders items folders new → AreItemFolders items folders old
stands_before old new items folders only h =
    subst (λ o. IfSome o (λ ps. StandIn old.origin.places items folders)) only.pages
    (IfSome_then new.pages h (λ ps e. subst (λ (o : Origin). StandIn o.places items folders) only.origin e))

-- ---- items of the code, along a loop

-- the item at a place of a list is one of it
pub item_there : (items : List made.Item) (i : ℕ) (x : made.Item) → i < length items → x ≡ get_or items i x → Contains (map item_view items) (item_view x)
item_there items i x within at = subst (λ y. Contains (map item_view items) (item_view y)) (sym at) (map_contains item_view items (get_or items i x) (Contains-get_or items i x within))

pub folders_more : (s : CatalogueState Condition) (items : List made.Item) (i : ℕ) (x : made.Item) (folders : List Path) (folder : Path) → i < length items → x ≡ get_or items i x
    → AreItemFolders (map item_view (take i items)) folders s → AreItemFolders (item_view x ∷ []) (folder ∷ []) s → AreItemFolders (map item_view (take (i + 1) items)) (folders ++ folder ∷ []) s
folders_more s items i x folders folder within at old new =
    let longer : map item_view (take i items) ++ item_view x ∷ [] ≡ map item_view (take (i + 1) items) =
    ap (λ y. map item_view (take i items) ++ item_view y ∷ []) at ∙ sym (map-append item_view (take i items) (get_or items i x ∷ [])) ∙ ap (map item_view) (sym (take_more items i x within)) in
    subst (λ l. AreItemFolders l (folders ++ folder ∷ []) s) longer (one_more_stands s (map item_view (take i items)) (item_view x) folders folder old new)

-- ---- the items of what a setting comes to

pub have_outcome : (setting : Setting) (layout : Layout) (told : Option Told) (s : CatalogueState Condition) (answer : Result Outcome (Stop CloseFault)) → s.pages ≡ pages_in layout told
    → IfSome told (λ t. Resolves (Settles setting (page_of layout t.files)) answer) → HaveOutcome answer s
have_outcome setting layout told s (Ok (outcome.Planned plan reasons)) pages h = subst (λ o. IfSome o (λ ps. HaveItems ps (map item_view plan.items))) (sym pages) (by told h)
  where
    by : (o : Option Told) → IfSome o (λ t. Resolves (Settles setting (page_of layout t.files)) (Ok (outcome.Planned plan reasons))) → IfSome (pages_in layout o) (λ ps. HaveItems ps (map item_view plan.items))
    by None h = tt
    by (Some t) h = all_have_versions setting (page_of layout t.files) (map item_view plan.items) (reasons_view reasons) (is_page layout t.files) h.0
have_outcome setting layout told s (Ok (outcome.Refused faults reasons)) pages h = tt {0}
have_outcome setting layout told s (Ok (outcome.Early early)) pages h = tt {0}
have_outcome setting layout told s (Err e) pages h = tt {0}
