-- Words and files have one answer.
use Rattle.std.proofs.Common.{◌≡◌, refl, ap, sym, ◌∙◌, subst, ℕ, List, [], ◌∷◌, map}
use Rattle.std.specs.Prelude.{Option, Some, None, Result, Ok, Err}
use Rattle.std.specs.List.{zip}
use Rattle.vk_spec.specs.Paths.{Path}
use Rattle.vk_spec.specs.Files.{Files}
use Rattle.vk_spec.specs.Standing.{disk_of}
use Rattle.vk_spec.specs.Earlies.{Early}
use Rattle.vk_spec.specs.Settings.{Setting, Instance}
use Rattle.vk_resolution.specs.Givens.{Pages}
use Rattle.vk_resolution.specs.Settings.{ListsOff}
use Rattle.vk_resolution.specs.RootLaws.{with_off}
use Rattle.vk_resolution.specs.Planning.{Item, instance_key}
use Rattle.vk_resolution.specs.Outcomes.{Outcome, planned, refused}
use Rattle.vk_resolution.proofs.Orders.{ascending_one}
use Rattle.vk_resolution.proofs.RootNameLemmas.{off_list_is_one}
use Rattle.vk_resolution.proofs.PlannerLemmas.{outcome_is_not_too_many, one_outcome_one_report}
use Rattle.vk_model.specs.SettingViews.{instance_view}
use Rattle.vk_model.specs.declared.projects.Project.{Project}
use Rattle.vk_opening.specs.Layouts.{Layout}
use Rattle.vk_opening.specs.Projects.{manifest_path}
use Rattle.vk_opening.specs.Roots.{root_in, early_at}
use Rattle.vk_opening.specs.Configurations.{config_in}
use Rattle.vk_opening.specs.Openings.{Opening, opened_of, setting_with, opening_with, triplets_of, overlays_of, after_root, after_config, after_triplets, after_overlays}
use Rattle.vk_opening.specs.Opened.{ListsOwnOff}
use Rattle.vk_pages.specs.Pages.{page_of}
use Rattle.vk_files.specs.Kept.{Seen, absent, too_large, holds}
use Rattle.vk_report.specs.Reports.{whole_report}
use Rattle.vk_check.proofs.CompareLemmas.{verdict_is_one}
use Rattle.vk_abi.specs.Plans.{Shared, TextsAre}
use Rattle.vk_abi.proofs.Uniques.{texts_are_one}
use Rattle.vk_app.specs.declared.requests.Task.{Task}
use Rattle.vk_app.specs.declared.requests.Task.TheVariants as task
use Rattle.vk_app.specs.Requests.{Request, project_of}
use Rattle.vk_app.specs.Resolutions.{Resolution, early, resolved, too_many, IsSettingOf, Settles}
use Rattle.vk_app.specs.Shown.{Shown}
use Rattle.vk_app.specs.Texts.{place_of, shared_of, shown_at, ShowsPlaced, ShowsText}
use Rattle.vk_app.specs.Checks.{report_at, verdict_shown, ShowsVerdict, ShowsAgainst, ShowsSeen}
use Rattle.vk_app.specs.Answers.{ShowsTask, ShowsSettled, ShowsEarly, ShowsRead, files_for, IsAnswerTo}
use Rattle.vk_spec.proofs.ReadingLemmas.{bind_ok}

-- the settings of an opening are one but for what is off, and allow as many requirements as the project
pub record HasForm (project : Project) (opening : Opening) : Type 0 where
  pub base : Setting
  pub settings : (off : List Instance) → opening.setting off ≡ with_off base off
  pub most : base.max_facts ≡ project.max_facts

pub opening_form : (project : Project) (files : Files) (opening : Opening) → opened_of project files ≡ Ok opening → HasForm project opening
unfolding opened_of
opening_form project files opening e =
    let root = bind_ok (early_at root_in (manifest_path project.folder) files) (λ r. after_root project r files) opening e in
    let config = bind_ok (config_in project.folder root.0.configuration files) (λ c. after_config project root.0.manifest c files) opening root.2 in
    let triplets = bind_ok (triplets_of project config.0 files) (λ t. after_triplets project root.0.manifest config.0 t files) opening config.2 in
    let overlays = bind_ok (overlays_of project config.0 files) (λ o. after_overlays project root.0.manifest config.0 triplets.0 o files) opening triplets.2 in
    let same : opening_with project root.0.manifest config.0 triplets.0 overlays.0 ≡ opening = (cc) in
    subst (HasForm project) same (record { base = setting_with project root.0.manifest triplets.0 []; settings = λ off. refl; most = refl })

-- ---- the setting

lists_off : (base : Setting) (off : List Instance) → ListsOwnOff (with_off base off) → ListsOff (with_off base off)
lists_off base off lists j = ((lists.each j).0, (lists.each j).1)

same_off : (base : Setting) (one other : List Instance) → ListsOwnOff (with_off base one) → ListsOwnOff (with_off base other) → one ≡ other
same_off base one other a b =
    let members = off_list_is_one base one other (lists_off base one a) (lists_off base other b) in
    ascending_one instance_key one other a.ascends b.ascends (λ z h. (members z).0 h) (λ z h. (members z).1 h)

same_setting : (project : Project) (opening : Opening) (one other : Setting) → HasForm project opening → IsSettingOf opening one → IsSettingOf opening other → one ≡ other
same_setting project opening one other form a b =
    let one_is : one ≡ with_off form.base a.off = a.setting_is ∙ form.settings a.off in
    let other_is : other ≡ with_off form.base b.off = b.setting_is ∙ form.settings b.off in
    let off = same_off form.base a.off b.off (subst ListsOwnOff one_is a.lists) (subst ListsOwnOff other_is b.lists) in
    one_is ∙ ap (with_off form.base) off ∙ sym other_is

-- ---- what it comes to

same_settled : (setting : Setting) (pages : Pages) (one other : Resolution) → Settles setting pages one → Settles setting pages other → one ≡ other
same_settled setting pages (early e) other a b = absurd a
same_settled setting pages (resolved o) (early e) a b = absurd b
same_settled setting pages (resolved o) (resolved p) a b = ap resolved (one_outcome_one_report setting pages o p a.0 b.0).outcome
same_settled setting pages (resolved o) (too_many n) a b = absurd (outcome_is_not_too_many setting pages (record { outcome = o; is_outcome = a.0; few = a.1 }) b.0)
same_settled setting pages (too_many n) (early e) a b = absurd b
same_settled setting pages (too_many n) (resolved o) a b = absurd (outcome_is_not_too_many setting pages (record { outcome = o; is_outcome = b.0; few = b.1 }) a.0)
same_settled setting pages (too_many n) (too_many m) a b = ap too_many (a.1 ∙ sym b.1)

-- ---- what is shown

some_is : {X : Type 0} {x y : X} → Some x ≡ Some y → x ≡ y
some_is e = (cc)

some_one : {X : Type 0} (xs ys : List X) → map Some xs ≡ map Some ys → xs ≡ ys
some_one [] [] e = refl
some_one [] (y ∷ ys) e = (cc)
some_one (x ∷ xs) [] e = (cc)
some_one (x ∷ xs) (y ∷ ys) e =
    let first : Some x ≡ Some y = (cc) in
    let rest : map Some xs ≡ map Some ys = (cc) in
    let one : x ≡ y = some_is first in
    let same : xs ≡ ys = some_one xs ys rest in
    (cc)

-- an instance at its place in a plan
same_placed : (shared : Shared) (layout : Layout) (files : Files) (items : List Item) (i : Instance) (place : Option ℕ) (one other : Shown) → ShowsPlaced shared layout files items i place one → ShowsPlaced shared layout files items i place other → one ≡ other
same_placed shared layout files items i None one other a b = a ∙ sym b
same_placed shared layout files items i (Some k) one other a b =
    let folders : a.1.folders ≡ b.1.folders = some_one a.1.folders b.1.folders (sym a.1.stand ∙ b.1.stand) in
    let texts : a.0 ≡ b.0 = texts_are_one shared (zip items b.1.folders) a.0 b.0 (disk_of files) (subst (λ fs. TextsAre shared (zip items fs) a.0 (disk_of files)) folders a.1.are) b.1.are in
    a.2 ∙ ap (shown_at k) texts ∙ sym b.2

same_text : (shared : Shared) (layout : Layout) (files : Files) (i : Instance) (r : Resolution) (one other : Shown) → ShowsText shared layout files i r one → ShowsText shared layout files i r other → one ≡ other
same_text shared layout files i (early e) one other a b = a ∙ sym b
same_text shared layout files i (resolved (planned items reasons)) one other a b = same_placed shared layout files items i (place_of i items) one other a b
same_text shared layout files i (resolved (refused lines reasons)) one other a b = a ∙ sym b
same_text shared layout files i (too_many n) one other a b = a ∙ sym b

-- a report that is checked
same_verdict : (bytes : List ℕ) (wanted : Result Outcome Early) (one other : Shown) → ShowsVerdict bytes wanted one → ShowsVerdict bytes wanted other → one ≡ other
same_verdict bytes wanted one other a b = a.2 ∙ ap verdict_shown (verdict_is_one bytes (whole_report wanted) a.0 b.0 a.1 b.1) ∙ sym b.2

same_against : (bytes : List ℕ) (r : Resolution) (one other : Shown) → ShowsAgainst bytes r one → ShowsAgainst bytes r other → one ≡ other
same_against bytes (early e) one other a b = same_verdict bytes (Err e) one other a b
same_against bytes (resolved o) one other a b = same_verdict bytes (Ok o) one other a b
same_against bytes (too_many n) one other a b = a ∙ sym b

same_seen : (path : Path) (seen : Seen) (r : Resolution) (one other : Shown) → ShowsSeen path seen r one → ShowsSeen path seen r other → one ≡ other
same_seen path absent r one other a b = a ∙ sym b
same_seen path too_large r one other a b = a ∙ sym b
same_seen path (holds bytes) r one other a b = same_against bytes r one other a b

same_shows : (t : Task) (setting : Setting) (layout : Layout) (files : Files) (r : Resolution) (one other : Shown) → ShowsTask t setting layout files r one → ShowsTask t setting layout files r other → one ≡ other
same_shows (task.Plan project) setting layout files r one other a b = a ∙ sym b
same_shows (task.Abi project i) setting layout files r one other a b = same_text (shared_of project setting) layout files (instance_view i) r one other a b
same_shows (task.Check project report) setting layout files r one other a b = same_seen report (report_at report files) r one other a b
same_shows (task.SelfLoad size project) setting layout files r one other a b = a ∙ sym b

same_early : (t : Task) (e : Early) (files : Files) (one other : Shown) → ShowsEarly t e files one → ShowsEarly t e files other → one ≡ other
same_early (task.Plan project) e files one other a b = a ∙ sym b
same_early (task.Abi project i) e files one other a b = a ∙ sym b
same_early (task.Check project report) e files one other a b = same_seen report (report_at report files) (early e) one other a b
same_early (task.SelfLoad size project) e files one other a b = a ∙ sym b

-- under one setting
one_settled : (t : Task) (setting : Setting) (layout : Layout) (files : Files) (one other : Shown) → ShowsSettled t setting layout files one → ShowsSettled t setting layout files other → one ≡ other
one_settled t setting layout files one other a b =
    let same = same_settled setting (page_of layout files) a.0 b.0 a.1 b.1 in
    same_shows t setting layout files b.0 one other (subst (λ r. ShowsTask t setting layout files r one) same a.2) b.2

one_read : (t : Task) (files : Files) (read : Result Opening Early) → opened_of (project_of t) files ≡ read → (one other : Shown) → ShowsRead t read files one → ShowsRead t read files other → one ≡ other
one_read t files (Err e) is one other a b = same_early t e files one other a b
one_read t files (Ok opening) is one other a b =
    let same = same_setting (project_of t) opening a.setting b.setting (opening_form (project_of t) files opening is) a.is_setting b.is_setting in
    one_settled t b.setting opening.layout files one other (subst (λ s. ShowsSettled t s opening.layout files one) same a.shows) b.shows

pub one_answer : (request : Request) (files : Files) (one other : Shown) → IsAnswerTo request files one → IsAnswerTo request files other → one ≡ other
one_answer (Err fault) files one other a b = a ∙ sym b
one_answer (Ok t) files one other a b = one_read t (files_for t files) (opened_of (project_of t) (files_for t files)) refl one other a b
