-- A task, step by step: opening its project, resolving it, and what that shows.
use Rattle.std.proofs.Common.{◌≡◌, ◌≢◌, ◌⊎◌, ◌++◌, inl, inr, Bool, true, false, ℕ, List, [], refl, ap, sym, subst, ◌∙◌}
use Rattle.std.specs.Prelude.{Option, Some, None, IfSome, IfOk, Result, Ok, Err}
use Rattle.std.specs.List.{Contains}
use Rattle.std.proofs.lemmas.List.{append_assoc, append_cancel_left}
use Rattle.std.proofs.lemmas.List.Elements.{Contains-append_cases}
use Rattle.std.proofs.lemmas.Option.{IfSome_then}
use Rattle.vk_spec.specs.Lists.{NoRepeats, IsWithin}
use Rattle.vk_spec.specs.Paths.{Path}
use Rattle.vk_spec.specs.Files.{Files}
use Rattle.vk_spec.specs.Settings.{Setting}
use Rattle.vk_spec.specs.States.{Told, State, with_asked, OnlyRead}
use Rattle.vk_spec.specs.Catalogues.{CatalogueState, OnPages}
use Rattle.vk_spec.specs.Conditions.{Condition}
use Rattle.vk_spec.proofs.OptionLemmas.{of_each, of_both}
use Rattle.vk_spec.proofs.StateLemmas.{looks_then, told_before}
use Rattle.vk_base.specs.Stops.{has_failed, was_out}
use Rattle.vk_base.specs.declared.limits.Limit.TheVariants as limit
use Rattle.vk_base.specs.declared.stops.Outage.{Outage}
use Rattle.vk_base.specs.declared.stops.Outage.TheVariants as outage
use Rattle.vk_base.specs.declared.stops.Stop.{Stop}
use Rattle.vk_base.specs.declared.stops.Stop.TheVariants as stop
use Rattle.vk_resolution.specs.Givens.{Pages}
use Rattle.vk_resolution.specs.Closures.{HasTooManyFacts}
use Rattle.vk_resolution.specs.Planner.{inputs_of}
use Rattle.vk_model.specs.FaultViews.{outcome_view}
use Rattle.vk_model.specs.EarlyViews.{early_view}
use Rattle.vk_model.specs.SettingViews.{setting_view}
use Rattle.vk_model.specs.declared.earlies.Early.{Early}
use Rattle.vk_model.specs.declared.plans.Outcome.{Outcome}
use Rattle.vk_model.specs.declared.plans.Outcome.TheVariants as outcome
use Rattle.vk_model.specs.declared.projects.Project.{Project}
use Rattle.vk_model.specs.declared.settings.Setting as made
use Rattle.vk_files.specs.Kept.{Held, paths_of}
use Rattle.vk_opening.specs.Asked.{opening_paths}
use Rattle.vk_opening.specs.Layouts.{Layout}
use Rattle.vk_opening.specs.Opened.{Opens, Tells}
use Rattle.vk_opening.specs.Openings.{opened_of}
use Rattle.vk_opening.specs.Views.{ready_view, layout_view}
use Rattle.vk_opening.specs.declared.layouts.Layout as made_layout
use Rattle.vk_opening.specs.declared.opens.Opened.{Opened}
use Rattle.vk_opening.specs.declared.opens.Opened.TheVariants as opened
use Rattle.vk_opening.proofs.OpenLemmas as opening
use Rattle.vk_pages.specs.Pages.{page_of}
use Rattle.vk_world.specs.Worlds.{pages_in}
use Rattle.vk_worklist.specs.Faults.{OnFault}
use Rattle.vk_worklist.specs.declared.faults.CloseFault.{CloseFault}
use Rattle.vk_worklist.specs.declared.faults.CloseFault.TheVariants.{Facts}
use Rattle.vk_resolve.specs.Resolved.{IsResolved}
use Rattle.vk_app.specs.declared.requests.Task.{Task}
use Rattle.vk_app.specs.declared.requests.Task.TheVariants as task
use Rattle.vk_app.specs.Requests.{project_of}
use Rattle.vk_app.specs.Asked.{Purpose, to_plan, to_tell, AsksNothing, IsOfPorts, IsOfOpened, IsOfProject}
use Rattle.vk_app.specs.Once.{AreListed, ReadsOnce, AreOwn, ReadsFor}
use Rattle.vk_app.specs.Resolutions as the
use Rattle.vk_app.specs.Resolutions.{Settles}
use Rattle.vk_app.specs.Resolved.{resolution_of, Resolves, OpenedShows, OpenedMayAsk, IsReady, IsOpenedFor}
use Rattle.vk_app.specs.Shown.{Shown, shown_for, told, limit_line}
use Rattle.vk_app.specs.Answers.{ShowsSettled, ShowsEarly, ShowsRead, ShowsProject}
use Rattle.vk_app.specs.Runs.{MayPass}
use Rattle.vk_app.specs.Ends.{EndsFor, MayEnd, done, refused, limited, lacking, broken, EndsWith, whole, short, shown_of, shown_load, shown_out}
use Rattle.vk_app.proofs.AnswerLemmas.{opening_form}
use Rattle.vk_app.proofs.ReadLemmas.{for_plan, not_read}

-- ---- what is answered of a setting and pages

is_settled : (setting : Setting) (pages : Pages) (o : Outcome) → IsResolved setting pages o → Settles setting pages (resolution_of (outcome_view o))
is_settled setting pages o is = subst (λ r. Settles setting pages (resolution_of r)) (sym is.told) (is.is_outcome, is.few)

is_over : (setting : Setting) (pages : Pages) (most : ℕ) → Facts most ≡ Facts setting.max_facts → HasTooManyFacts (inputs_of setting pages) → Settles setting pages (the.too_many most)
is_over setting pages most same many = (many, (cc))

-- the clauses of resolving, put together
pub settled : (setting : Setting) (answer : Result Outcome (Stop CloseFault)) (state : CatalogueState Condition)
    → IfOk answer (λ o. OnPages (λ pages. IsResolved setting pages o) state)
    → OnFault answer setting.max_facts (OnPages (λ pages. HasTooManyFacts (inputs_of setting pages)) state)
    → OnPages (λ pages. Resolves (Settles setting pages) answer) state
settled setting (Ok o) state was fault = IfSome_then state.pages was (λ pages is. is_settled setting pages o is)
settled setting (Err (stop.Fault (Facts most))) state was fault = IfSome_then state.pages fault.1 (λ pages many. is_over setting pages most fault.0 many)
settled setting (Err stop.Failed) state was fault = of_each state.pages (λ p. tt)
settled setting (Err (stop.Memory m)) state was fault = of_each state.pages (λ p. tt)

-- what is told of pages is told of the files whose they are
pub pages_told : (layout : Layout) (told : Option Told) (pages : Option (Pages)) (P : Pages → Type 0) → pages ≡ pages_in layout told → IfSome pages P → IfSome told (λ t. P (page_of layout t.files))
pages_told layout told pages P same h = by told (subst (λ o. IfSome o P) same h)
  where
    by : (o : Option Told) → IfSome (pages_in layout o) P → IfSome o (λ t. P (page_of layout t.files))
    by None h = tt
    by (Some t) h = h

-- ---- how a task ends by what its project comes to

-- what is shown of an answer is one of the ends
may_end : (t : Task) (answer : Result Outcome (Stop CloseFault)) → MayPass t (limit.Facts (project_of t).max_facts) → MayEnd (Ok t) (shown_of (project_of t) answer) (has_failed answer)
may_end t (Ok (outcome.Planned plan reasons)) pass = done t _
may_end t (Ok (outcome.Refused faults reasons)) pass = refused t _
may_end t (Ok (outcome.Early early)) pass = refused t _
may_end t (Err (stop.Fault fault)) pass = limited t _ pass
may_end t (Err stop.Failed) pass = broken t
may_end t (Err (stop.Memory m)) pass = lacking (Ok t)

-- where the end isn't a failure, the tree didn't fail
not_failed : (project : Project) (answer : Result Outcome (Stop CloseFault)) → (shown_of project answer).status ≢ 4 → has_failed answer ≡ false
not_failed project (Ok o) four = refl
not_failed project (Err (stop.Fault fault)) four = refl
not_failed project (Err stop.Failed) four = absurd (four refl)
not_failed project (Err (stop.Memory m)) four = refl

-- a task that ends with this, unless memory runs out before that is told
pub ends_by : (t : Task) (Answers : Files → Shown → Type 0) (Reads : Bool → State → State → Type 0) (first shown : Shown) (failed : Bool) (a b : State)
    → MayEnd (Ok t) first failed → (first.status ≢ 4 → failed ≡ false) → IfSome a.told (λ f. first.status ≢ 3 → first.status ≢ 4 → Answers f.files first)
    → Reads failed a b → EndsWith first shown → EndsFor (Ok t) Answers Reads shown a b
ends_by t Answers Reads first shown failed a b may calm content reads whole = record { failed = failed; may = may; reads = reads; content = content }
ends_by t Answers Reads first shown failed a b may calm content reads (short four) = record {
  failed = false;
  may = lacking (Ok t);
  reads = subst (λ f. Reads f a b) (calm four) reads;
  content = of_each a.told (λ f three other. absurd (three refl));
}

-- a task whose project comes to this, and that shows it
pub ends_with : (t : Task) (Answers : Files → Shown → Type 0) (Reads : Bool → State → State → Type 0) (answer : Result Outcome (Stop CloseFault)) (shown : Shown) (a b : State)
    → MayPass t (limit.Facts (project_of t).max_facts)
    → IfSome a.told (λ f. (shown_of (project_of t) answer).status ≢ 3 → (shown_of (project_of t) answer).status ≢ 4 → Answers f.files (shown_of (project_of t) answer))
    → Reads (has_failed answer) a b → EndsWith (shown_of (project_of t) answer) shown → EndsFor (Ok t) Answers Reads shown a b
ends_with t Answers Reads answer shown a b pass content reads ends =
    ends_by t Answers Reads (shown_of (project_of t) answer) shown (has_failed answer) a b (may_end t answer pass) (not_failed (project_of t) answer) content reads ends

-- what is shown of an answer is what a plan shows, but for a failure and out of memory
shows_plan : (project : Project) (setting : Setting) (layout : Layout) (files : Files) (answer : Result Outcome (Stop CloseFault)) → setting.max_facts ≡ project.max_facts → Resolves (Settles setting (page_of layout files)) answer
    → (shown_of project answer).status ≢ 3 → (shown_of project answer).status ≢ 4 → ShowsSettled (task.Plan project) setting layout files (shown_of project answer)
shows_plan project setting layout files (Ok o) most h three four = (resolution_of (outcome_view o), h, refl)
shows_plan project setting layout files (Err (stop.Fault (Facts n))) most h three four = (the.too_many n, h, ap (λ k. told 6 (limit_line (limit.Facts k))) (sym (h.1 ∙ most)))
shows_plan project setting layout files (Err stop.Failed) most h three four = absurd (four refl)
shows_plan project setting layout files (Err (stop.Memory m)) most h three four = absurd (three refl)

pub plan_ends : (project : Project) (setting : made.Setting) (layout : Layout) (read : List Path) (answer : Result Outcome (Stop CloseFault)) (shown : Shown) (a b : State)
    → IfSome a.told (λ t. IsReady project setting)
    → IfSome a.told (λ t. Resolves (Settles (setting_view setting) (page_of layout t.files)) answer)
    → ReadsOnce (IsOfPorts layout to_plan) read (has_failed answer) a b → EndsWith (shown_of project answer) shown
    → EndsFor (Ok (task.Plan project)) (ShowsSettled (task.Plan project) (setting_view setting) layout) (ReadsFor (Ok (task.Plan project)) (IsOfPorts layout) read) shown a b
plan_ends project setting layout read answer shown a b ready resolves reads ends =
    ends_with (task.Plan project) _ (ReadsFor (Ok (task.Plan project)) (IsOfPorts layout) read) answer shown a b refl
    (of_both a.told ready resolves (λ t r h three four. shows_plan project (setting_view setting) layout t.files answer r h three four)) (for_plan _ _ _ reads) ends

-- ---- a load

load_may_end : (size : ℕ) (project : Project) (answer : Result Outcome (Stop CloseFault)) → MayEnd (Ok (task.SelfLoad size project)) (shown_load size project answer) (has_failed answer)
load_may_end size project (Ok (outcome.Planned plan reasons)) = done (task.SelfLoad size project) _
load_may_end size project (Ok (outcome.Refused faults reasons)) = refused (task.SelfLoad size project) _
load_may_end size project (Ok (outcome.Early early)) = refused (task.SelfLoad size project) _
load_may_end size project (Err e) = may_end (task.SelfLoad size project) (Err e) refl

load_not_failed : (size : ℕ) (project : Project) (answer : Result Outcome (Stop CloseFault)) → (shown_load size project answer).status ≢ 4 → has_failed answer ≡ false
load_not_failed size project (Ok o) four = refl
load_not_failed size project (Err e) four = not_failed project (Err e) four

shows_load : (size : ℕ) (project : Project) (setting : Setting) (layout : Layout) (files : Files) (answer : Result Outcome (Stop CloseFault)) → setting.max_facts ≡ project.max_facts → Resolves (Settles setting (page_of layout files)) answer
    → (shown_load size project answer).status ≢ 3 → (shown_load size project answer).status ≢ 4 → ShowsSettled (task.SelfLoad size project) setting layout files (shown_load size project answer)
shows_load size project setting layout files (Ok o) most h three four = (resolution_of (outcome_view o), h, refl)
shows_load size project setting layout files (Err (stop.Fault (Facts n))) most h three four = (the.too_many n, h, ap (λ k. told 6 (limit_line (limit.Facts k))) (sym (h.1 ∙ most)))
shows_load size project setting layout files (Err stop.Failed) most h three four = absurd (four refl)
shows_load size project setting layout files (Err (stop.Memory m)) most h three four = absurd (three refl)

pub load_ends : (size : ℕ) (project : Project) (setting : made.Setting) (layout : Layout) (read : List Path) (answer : Result Outcome (Stop CloseFault)) (shown : Shown) (a b : State)
    → IfSome a.told (λ t. IsReady project setting)
    → IfSome a.told (λ t. Resolves (Settles (setting_view setting) (page_of layout t.files)) answer)
    → ReadsOnce (IsOfPorts layout to_plan) read (has_failed answer) a b → EndsWith (shown_load size project answer) shown
    → EndsFor (Ok (task.SelfLoad size project)) (ShowsSettled (task.SelfLoad size project) (setting_view setting) layout) (ReadsFor (Ok (task.SelfLoad size project)) (IsOfPorts layout) read) shown a b
load_ends size project setting layout read answer shown a b ready resolves reads ends =
    ends_by (task.SelfLoad size project) _ (ReadsFor (Ok (task.SelfLoad size project)) (IsOfPorts layout) read) (shown_load size project answer) shown (has_failed answer) a b (load_may_end size project answer) (load_not_failed size project answer)
    (of_both a.told ready resolves (λ t r h three four. shows_load size project (setting_view setting) layout t.files answer r h three four)) (for_plan _ _ _ reads) ends

-- ---- what was opened

-- what a task shows of its setting is what it shows of what was opened
pub ends_ready : (task : Task) (o : Opened) (setting : made.Setting) (layout : made_layout.Layout) (shown : Shown) (read : List Path) (a b : State) → o ≡ opened.Ready setting layout
    → EndsFor (Ok task) (ShowsSettled task (setting_view setting) (layout_view layout)) (ReadsFor (Ok task) (IsOfPorts (layout_view layout)) read) shown a b
    → EndsFor (Ok task) (OpenedShows task o) (ReadsFor (Ok task) (OpenedMayAsk o) read) shown a b
ends_ready task o setting layout shown read a b is ends = rw is ends

-- an early line is told
pub ends_early : (t : Task) (Answers : Files → Shown → Type 0) (e : Early) (shown : Shown) (earlier : List Path) (s : State) → ((files : Files) → Answers files (shown_for (the.early (early_view e)))) → NoRepeats earlier
    → EndsWith (shown_for (resolution_of (outcome_view (outcome.Early e)))) shown → EndsFor (Ok t) Answers (ReadsFor (Ok t) AsksNothing earlier) shown s s
ends_early t Answers e shown earlier s shows distinct ends =
    ends_by t Answers (ReadsFor (Ok t) AsksNothing earlier) (shown_for (the.early (early_view e))) shown false s s (refused t _) (λ four. refl)
    (of_each s.told (λ f three four. shows f.files)) (not_read (Ok t) AsksNothing earlier s distinct) ends

-- what a task shows of an early line is what it shows of what was opened
pub ends_refused : (t : Task) (o : Opened) (e : Early) (shown : Shown) (earlier : List Path) (a b : State) → o ≡ opened.Refused e
    → EndsFor (Ok t) (ShowsEarly t (early_view e)) (ReadsFor (Ok t) AsksNothing earlier) shown a b → EndsFor (Ok t) (OpenedShows t o) (ReadsFor (Ok t) (OpenedMayAsk o) earlier) shown a b
ends_refused t o e shown earlier a b is ends = rw is ends

-- ---- opening, and then the rest

-- what is known of the files before is known of those after
told_after : {failed : Bool} {a b : State} (P : Files → Type 0) → OnlyRead failed a b → IfSome a.told (λ t. P t.files) → IfSome b.told (λ t. P t.files)
told_after {a = a} {b = b} P r h = by a.told b.told r.looks.told h
  where
    by : (one other : Option Told) → other ≡ with_asked r.asked one → IfSome one (λ t. P t.files) → IfSome other (λ t. P t.files)
    by None other e h = subst (λ o. IfSome o (λ t. P t.files)) (sym e) tt
    by (Some t) other e h = subst (λ o. IfSome o (λ t. P t.files)) (sym e) h

-- as many requirements are allowed as the words say
opens_most : (project : Project) (setting : made.Setting) (layout : made_layout.Layout) (files : Files) → opened_of project files ≡ Ok (ready_view setting layout) → setting.max_facts ≡ project.max_facts
opens_most project setting layout files e =
    let form = opening_form project files (ready_view setting layout) e in
    ap (λ (s : Setting). s.max_facts) (form.settings []) ∙ form.most

-- what was opened is what the files give
tells : {project : Project} {answer : Result Opened Outage} {a b : Held} → Opens project None answer a b → IfSome a.tree.told (λ t. Tells answer (opened_of project t.files))
tells {a = a} opens = IfSome_then a.tree.told opens.reads.learned (λ t learned. (learned tt).holds)

pub opened_right : (project : Project) (o : Opened) (a b : Held) → Opens project None (Ok o) a b → IfSome b.tree.told (λ t. IsOpenedFor project o)
opened_right project (opened.Ready setting layout) a b opens =
    told_after (λ f. IsReady project setting) (opening.only_read opens) (IfSome_then a.tree.told (tells opens) (λ t is. opens_most project setting layout t.files is.0))
opened_right project (opened.Refused e) a b opens = of_each b.tree.told (λ t. tt)

opened_shows : (task : Task) (o : Opened) (files : Files) (shown : Shown) → Tells (Ok o) (opened_of (project_of task) files) → OpenedShows task o files shown → ShowsProject task files shown
opened_shows task (opened.Ready setting layout) files shown tells h =
    subst (λ read. ShowsRead task read files shown) (sym tells.0)
    (record { setting = setting_view setting; is_setting = record { off = (setting_view setting).off; setting_is = refl; lists = tells.1 }; shows = h })
opened_shows task (opened.Refused e) files shown tells h = subst (λ read. ShowsRead task read files shown) (sym tells) h

-- opening looked at its own paths alone
opening_listed : {project : Project} {answer : Result Opened Outage} {a b : Held} (opens : Opens project None answer a b) → IfSome a.tree.told (λ t. IsWithin (paths_of opens.reads.once.more) (opening_paths project t.files))
opening_listed {project = project} {a = a} opens = IfSome_then a.tree.told opens.reads.learned (λ t learned.
    let looks = (learned tt).within in
    subst (λ more. IsWithin (paths_of more) (opening_paths project t.files)) (append_cancel_left a.kept looks.more opens.reads.once.more (sym looks.kept ∙ opens.reads.once.kept)) looks.within)

-- what is asked for on behalf of the ports of what was opened is asked for by the project
of_opened : (project : Project) (o : Opened) (purpose : Purpose) (files : Files) (path : Path) → Tells (Ok o) (opened_of project files) → OpenedMayAsk o purpose files path → IsOfOpened (opened_of project files) purpose files path
of_opened project (opened.Ready setting layout) purpose files path tells of = subst (λ read. IsOfOpened read purpose files path) (sym tells.0) of
of_opened project (opened.Refused e) purpose files path tells of = absurd of

-- the paths of opening, and then those of the pages
listed_in : (project : Project) (o : Opened) (files : Files) (first second : List Path) → Tells (Ok o) (opened_of project files)
    → IsWithin first (opening_paths project files) → ((path : Path) → Contains second path → OpenedMayAsk o to_plan files path)
    → (path : Path) → Contains (first ++ second) path → IsOfProject project to_plan files path
listed_in project o files first second tells opening later path has = by (Contains-append_cases first second path has)
  where
    by : Contains first path ⊎ Contains second path → IsOfProject project to_plan files path
    by (inl there) = inl (opening path there)
    by (inr there) = inr (of_opened project o to_plan files path tells (later path there))

listed_opened : (project : Project) (o : Opened) (first second : List Path) (told : Option Told) → IfSome told (λ t. Tells (Ok o) (opened_of project t.files))
    → IfSome told (λ t. IsWithin first (opening_paths project t.files)) → IfSome told (λ t. (path : Path) → Contains second path → OpenedMayAsk o to_plan t.files path)
    → IfSome told (λ t. (path : Path) → Contains (first ++ second) path → IsOfProject project to_plan t.files path)
listed_opened project o first second None tells opening later = tt
listed_opened project o first second (Some t) tells opening later = listed_in project o t.files first second tells opening later

-- what is read besides is of the project
own_opened : (task : Task) (o : Opened) (own : List Path) (a b : Held) → Opens (project_of task) None (Ok o) a b → AreOwn (Ok task) (OpenedMayAsk o to_tell) own b.tree → AreOwn (Ok task) (IsOfProject (project_of task) to_tell) own a.tree
own_opened (task.Plan project) o own a b opens besides = besides
own_opened (task.Abi project instance) o own a b opens besides =
    of_both a.tree.told (tells opens) (told_before (λ f. (path : Path) → Contains own path → OpenedMayAsk o to_tell f path) (opening.only_read opens) besides)
    (λ t tells h path has. of_opened project o to_tell t.files path tells (h path has))
own_opened (task.Check project report) o own a b opens besides = besides
own_opened (task.SelfLoad size project) o own a b opens besides = besides

-- where nothing was kept before, opening looked at all that is kept
all_opened : {project : Project} {answer : Result Opened Outage} {a b : Held} → a.kept ≡ [] → (opens : Opens project None answer a b) → b.kept ≡ opens.reads.once.more
all_opened none opens = opens.reads.once.kept ∙ ap (λ kept. kept ++ opens.reads.once.more) none

-- each path once for the plan, opening included
reads_opened : (task : Task) (o : Opened) {failed : Bool} (a b : Held) (c : State) → a.kept ≡ [] → (opens : Opens (project_of task) None (Ok o) a b)
    → ReadsFor (Ok task) (OpenedMayAsk o) (paths_of b.kept) failed b.tree c → ReadsFor (Ok task) (IsOfProject (project_of task)) [] failed a.tree c
reads_opened task o a b c none opens r =
    let more = paths_of opens.reads.once.more in record {
      only = record { asked = more ++ r.only.asked; looks = looks_then opens.reads.once.looks r.only.looks };
      first = more ++ r.first;
      own = r.own;
      rest = r.rest;
      parts = ap (λ l. more ++ l) r.parts ∙ sym (append_assoc more r.first (r.own ++ r.rest));
      distinct = subst NoRepeats (sym (append_assoc more r.first r.rest)) (subst (λ kept. NoRepeats (paths_of kept ++ (r.first ++ r.rest))) (all_opened none opens) r.distinct);
      listed = subst (λ l. AreListed (IsOfProject (project_of task) to_plan) l a.tree) (sym (append_assoc more r.first r.rest))
          (listed_opened (project_of task) o more (r.first ++ r.rest) a.tree.told (tells opens) (opening_listed opens)
          (told_before (λ f. (path : Path) → Contains (r.first ++ r.rest) path → OpenedMayAsk o to_plan f path) (opening.only_read opens) r.listed));
      besides = own_opened task o r.own a b opens r.besides;
    }

-- a project that was opened, and what came of it
pub ends_opened : (task : Task) (o : Opened) (shown : Shown) (a b : Held) (c : State) → a.kept ≡ [] → Opens (project_of task) None (Ok o) a b
    → EndsFor (Ok task) (OpenedShows task o) (ReadsFor (Ok task) (OpenedMayAsk o) (paths_of b.kept)) shown b.tree c → EndsFor (Ok task) (ShowsProject task) (ReadsFor (Ok task) (IsOfProject (project_of task)) []) shown a.tree c
ends_opened task o shown a b c none opens ends = record {
  failed = ends.failed;
  may = ends.may;
  reads = reads_opened task o a b c none opens ends.reads;
  content = of_both a.tree.told (tells opens) (told_before (λ f. shown.status ≢ 3 → shown.status ≢ 4 → OpenedShows task o f shown) (opening.only_read opens) ends.content)
      (λ t tells h three four. opened_shows task o t.files shown tells (h three four));
}

-- a project that wasn't opened
opening_alone : (task : Task) (o : Outage) (a b : Held) → a.kept ≡ [] → NoRepeats (paths_of b.kept) → Opens (project_of task) None (Err o) a b → ReadsFor (Ok task) (IsOfProject (project_of task)) [] (was_out {A = Opened} (Err o)) a.tree b.tree
opening_alone task o a b none distinct opens = for_plan (Ok task) (IsOfProject (project_of task)) [] (record {
  only = record { asked = paths_of opens.reads.once.more; looks = opens.reads.once.looks };
  distinct = subst (λ kept. NoRepeats (paths_of kept)) (all_opened none opens) distinct;
  listed = IfSome_then a.tree.told (opening_listed opens) (λ t within path has. inl (within path has));
})

pub ends_unopened : (task : Task) (o : Outage) (shown : Shown) (a b : Held) → a.kept ≡ [] → NoRepeats (paths_of b.kept) → Opens (project_of task) None (Err o) a b → shown ≡ shown_out o
    → EndsFor (Ok task) (ShowsProject task) (ReadsFor (Ok task) (IsOfProject (project_of task)) []) shown a.tree b.tree
ends_unopened task outage.Failed shown a b none distinct opens is =
    rw is (record { failed = true; may = broken task; reads = opening_alone task outage.Failed a b none distinct opens; content = of_each a.tree.told (λ t three four. absurd (four refl)) })
ends_unopened task (outage.Memory m) shown a b none distinct opens is =
    rw is (record { failed = false; may = lacking (Ok task); reads = opening_alone task (outage.Memory m) a b none distinct opens; content = of_each a.tree.told (λ t three four. absurd (three refl)) })
