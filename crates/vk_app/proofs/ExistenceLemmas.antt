-- Words and files have an answer.
use Rattle.std.proofs.Common.{◌≡◌, ◌⊎◌, ◌≤◌, ◌+◌, ◌++◌, inl, inr, ℕ, zero, suc, List, [], ◌∷◌, length, refl, ap, sym, subst, arith}
use Rattle.std.specs.Prelude.{Result, Ok, Err, codes}
use Rattle.std.proofs.lemmas.List.{length-append}
use Rattle.vk_spec.specs.Paths.{Path}
use Rattle.vk_spec.specs.Files.{Files, IsTree}
use Rattle.vk_spec.specs.Earlies.{Early}
use Rattle.vk_spec.specs.Settings.{Setting, Instance}
use Rattle.vk_spec.specs.Catalogues.{ArePages}
use Rattle.vk_resolution.specs.Givens.{Pages}
use Rattle.vk_resolution.specs.Keys.{Key, IsKey, in_order}
use Rattle.vk_resolution.specs.Least.{Rules, IsLeastInOrder}
use Rattle.vk_resolution.specs.Settings.{root_rules_of, first_features_of}
use Rattle.vk_resolution.specs.RootLaws.{with_off}
use Rattle.vk_resolution.specs.Mentions.{mentioned_of}
use Rattle.vk_resolution.specs.Planning.{instance_key}
use Rattle.vk_resolution.specs.Asking.{fact_key}
use Rattle.vk_resolution.specs.Consequences.{rules_of}
use Rattle.vk_resolution.specs.Closures.{HasTooManyFacts}
use Rattle.vk_resolution.specs.Planner.{HasOutcome, inputs_of}
use Rattle.vk_resolution.specs.Computed.{round, new_from, off_by, name_key}
use Rattle.vk_resolution.proofs.Orders.{in_order-IsListing}
use Rattle.vk_resolution.proofs.FactLemmas.{fact_key-IsKey, instance_key-IsKey}
use Rattle.vk_resolution.proofs.Levels.{level_forced}
use Rattle.vk_resolution.proofs.Rounds.{round_level, round_least, least_exists}
use Rattle.vk_resolution.proofs.MentionLemmas.{mentioned_is_closed}
use Rattle.vk_resolution.proofs.OffLists.{name_key-IsKey, off_is, is_in_off}
use Rattle.vk_resolution.proofs.ClosureLemmas.{too_many}
use Rattle.vk_resolution.proofs.PlannerLemmas.{outcome_or_too_many}
use Rattle.vk_base.specs.declared.instances.Instance as made
use Rattle.vk_files.specs.Kept.{Seen, absent, too_large, holds}
use Rattle.vk_model.specs.SettingViews.{instance_view}
use Rattle.vk_model.specs.declared.projects.Project.{Project}
use Rattle.vk_report.specs.Reports.{whole_report}
use Rattle.vk_check.proofs.VerdictLemmas.{some_verdict}
use Rattle.vk_abi.specs.LawsOnPlans.{ArePaths}
use Rattle.vk_opening.specs.Layouts.{Layout}
use Rattle.vk_gen.specs.Loads.{load_files}
use Rattle.vk_opening.specs.Openings.{Opening, opened_of}
use Rattle.vk_opening.specs.Opened.{ListsOwnOff}
use Rattle.vk_pages.specs.Pages.{page_of}
use Rattle.vk_pages.proofs.PageLaws.{is_page}
use Rattle.vk_app.specs.declared.requests.Task.{Task}
use Rattle.vk_app.specs.declared.requests.Task.TheVariants as task
use Rattle.vk_app.specs.Requests.{Request, project_of}
use Rattle.vk_app.specs.Loads.{load_shown}
use Rattle.vk_app.specs.Resolutions as the
use Rattle.vk_app.specs.Resolutions.{Resolution, Settles}
use Rattle.vk_app.specs.Shown.{Shown, shown_for, told, printed, words_line}
use Rattle.vk_app.specs.Texts.{shared_of}
use Rattle.vk_app.specs.Checks.{no_report, report_at, verdict_shown, ShowsAgainst, ShowsSeen}
use Rattle.vk_app.specs.Answers.{ShowsTask, ShowsEarly, ShowsRead, ShowsProject, IsAnswerTo}
use Rattle.vk_app.specs.AnswerLaws.{ListsNothing}
use Rattle.vk_app.proofs.AnswerLemmas.{opening_form}
use Rattle.vk_app.proofs.TextExistence.{some_text}

-- ---- rounds end, or grow

module _ {X : Type 0} (rules : Rules X) (key : X → Key) (is_key : IsKey key) where
  -- where a round has something new, it is longer
  longer : (n : ℕ) (new : List X) → new_from rules key (round rules key n) ≡ new → n ≤ length (round rules key n)
      → ((facts : List X) × IsLeastInOrder rules key facts) ⊎ (suc n ≤ length (round rules key (suc n)))
  longer n [] none long = inl (round rules key n, round_least rules key is_key n none)
  longer n (x ∷ xs) some long = inr (omega (arith, long, length-append (round rules key n) (new_from rules key (round rules key n)), ap length some))

  -- after so many rounds the list is the least one, or as long as there were rounds
  ends_or_grows : (n : ℕ) → ((facts : List X) × IsLeastInOrder rules key facts) ⊎ (n ≤ length (round rules key n))
  ends_or_grows zero = inr (omega arith)
  ends_or_grows (suc n) = elim (ends_or_grows n) [
    | inl least ↦ inl least
    | inr long ↦ longer n (new_from rules key (round rules key n)) refl long
  ]

-- a setting and pages have an outcome, or too many facts
outcome_or_many : (setting : Setting) (pages : Pages) → ArePages pages → HasOutcome setting pages ⊎ HasTooManyFacts (inputs_of setting pages)
outcome_or_many setting pages are =
    let rules = rules_of (inputs_of setting pages) in
    elim (ends_or_grows rules fact_key fact_key-IsKey (setting.max_facts + 1)) [
      | inl least ↦ outcome_or_too_many setting pages are least.0 least.1.least.closed
      | inr long ↦ inr (too_many (inputs_of setting pages) (round rules fact_key (setting.max_facts + 1))
          (level_forced rules (setting.max_facts + 1) _ (round_level rules fact_key fact_key-IsKey (setting.max_facts + 1))) (omega (arith, long)))
    ]

-- what is off can be listed
off_exists : (base : Setting) → (off : List Instance) × ListsOwnOff (with_off base off)
off_exists base =
    let features = least_exists (root_rules_of (with_off base [])) name_key name_key-IsKey (first_features_of (with_off base []) ++ mentioned_of (with_off base [])) (mentioned_is_closed (with_off base [])) in
    let off = in_order instance_key (off_by (with_off base []) features.0) in
    let listing = in_order-IsListing instance_key instance_key-IsKey (off_by (with_off base []) features.0) in (
      off,
      record {
        each = λ j. (
          (λ h. off_is (with_off base off) features.0 features.1.least j ((listing.each j).0 h)),
          (λ is. (listing.each j).1 (is_in_off (with_off base off) features.0 features.1.least j is)),
        );
        ascends = listing.ascends;
      },
    )

-- ---- what a project comes to

pub settles_some : (setting : Setting) (pages : Pages) → ArePages pages → (r : Resolution) × Settles setting pages r
settles_some setting pages are = elim (outcome_or_many setting pages are) [
  | inl has ↦ (the.resolved has.outcome, (has.is_outcome, has.few))
  | inr many ↦ (the.too_many setting.max_facts, (many, refl))
]

-- a task shows something of all that a setting and the pages of these files come to, and of each early line
record HasShown (t : Task) (files : Files) : Type 0 where
  settled : (setting : Setting) (layout : Layout) (r : Resolution) → Settles setting (page_of layout files) r → (shown : Shown) × ShowsTask t setting layout files r shown
  unopened : (e : Early) → (shown : Shown) × ShowsEarly t e files shown

-- so it does of its project
some_read : (t : Task) (files : Files) → HasShown t files → (read : Result Opening Early) → opened_of (project_of t) files ≡ read → (shown : Shown) × ShowsRead t read files shown
some_read t files has (Err e) is = has.unopened e
some_read t files has (Ok opening) is =
    let form = opening_form (project_of t) files opening is in
    let off = off_exists form.base in
    let setting_is : opening.setting off.0 ≡ with_off form.base off.0 = form.settings off.0 in
    let r = settles_some (opening.setting off.0) (page_of opening.layout files) (is_page opening.layout files) in
    let shown = has.settled (opening.setting off.0) opening.layout r.0 r.1 in
    (shown.0, record { setting = opening.setting off.0; is_setting = record { off = off.0; setting_is = refl; lists = subst ListsOwnOff (sym setting_is) off.1 }; shows = (r.0, r.1, shown.1) })

some_project : (t : Task) (files : Files) → HasShown t files → (shown : Shown) × ShowsProject t files shown
some_project t files has = some_read t files has (opened_of (project_of t) files) refl

-- ---- each task

plan_shows : (project : Project) (files : Files) → HasShown (task.Plan project) files
plan_shows project files = record { settled = λ setting layout r settles. (shown_for r, refl); unopened = λ e. (shown_for (the.early e), refl) }

load_shows : (size : ℕ) (project : Project) (files : Files) → HasShown (task.SelfLoad size project) files
load_shows size project files = record { settled = λ setting layout r settles. (load_shown size r, refl); unopened = λ e. (shown_for (the.early e), refl) }

text_shows : (project : Project) (i : made.Instance) (files : Files) → IsTree files → ArePaths files → HasShown (task.Abi project i) files
text_shows project i files tree paths = record {
  settled = λ setting layout r settles. some_text (shared_of project setting) setting layout files (instance_view i) r tree paths settles;
  unopened = λ e. (shown_for (the.early e), refl);
}

some_against : (bytes : List ℕ) (r : Resolution) → (shown : Shown) × ShowsAgainst bytes r shown
some_against bytes (the.early e) = let v = some_verdict bytes (whole_report (Err e)) in (verdict_shown v.0, (v.0, v.1, refl))
some_against bytes (the.resolved o) = let v = some_verdict bytes (whole_report (Ok o)) in (verdict_shown v.0, (v.0, v.1, refl))
some_against bytes (the.too_many n) = (shown_for (the.too_many n), refl)

some_seen : (path : Path) (seen : Seen) (r : Resolution) → (shown : Shown) × ShowsSeen path seen r shown
some_seen path absent r = (printed 1 (no_report path (codes "absent")), refl)
some_seen path too_large r = (printed 1 (no_report path (codes "large")), refl)
some_seen path (holds bytes) r = some_against bytes r

check_shows : (project : Project) (report : Path) (files : Files) → HasShown (task.Check project report) files
check_shows project report files = record {
  settled = λ setting layout r settles. some_seen report (report_at report files) r;
  unopened = λ e. some_seen report (report_at report files) (the.early e);
}

-- ---- each request

-- where no folder is listed, whatever the files
pub some_unlisted : (request : Request) (files : Files) → ListsNothing request → (shown : Shown) × IsAnswerTo request files shown
some_unlisted (Err fault) files nothing = (told 2 (words_line fault), refl)
some_unlisted (Ok (task.Plan project)) files nothing = some_project (task.Plan project) files (plan_shows project files)
some_unlisted (Ok (task.Abi project i)) files nothing = absurd nothing
some_unlisted (Ok (task.Check project report)) files nothing = some_project (task.Check project report) files (check_shows project report files)
some_unlisted (Ok (task.SelfLoad size project)) files nothing = some_project (task.SelfLoad size project) (load_files size) (load_shows size project (load_files size))

-- over a tree of files
pub some_answer : (request : Request) (files : Files) → IsTree files → ArePaths files → (shown : Shown) × IsAnswerTo request files shown
some_answer (Err fault) files tree paths = some_unlisted (Err fault) files (tt {0})
some_answer (Ok (task.Plan project)) files tree paths = some_unlisted (Ok (task.Plan project)) files (tt {0})
some_answer (Ok (task.Abi project i)) files tree paths = some_project (task.Abi project i) files (text_shows project i files tree paths)
some_answer (Ok (task.Check project report)) files tree paths = some_unlisted (Ok (task.Check project report)) files (tt {0})
some_answer (Ok (task.SelfLoad size project)) files tree paths = some_unlisted (Ok (task.SelfLoad size project)) files (tt {0})
