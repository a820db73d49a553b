-- A report that is checked: how it is read, and how that ends.
use Rattle.std.proofs.Common.{◌≡◌, ◌≢◌, ◌⊎◌, ◌≤◌, ◌<◌, inl, inr, ◌∷◌, Bool, false, ℕ, List, [], length, refl, ap, sym, subst, ◌∙◌, arith}
use Rattle.std.specs.Prelude.{Option, Some, IfSome, IfOk, Result, Ok, Err}
use Rattle.std.proofs.lemmas.Bool.Decides.{nat_tests}
use Rattle.std.proofs.lemmas.Option.{IfSome_then}
use Rattle.vk_spec.specs.Paths.{Path}
use Rattle.vk_spec.specs.Files.{Files}
use Rattle.vk_spec.specs.Settings.{Setting}
use Rattle.vk_spec.specs.Earlies.{Early}
use Rattle.vk_spec.specs.Lists.{NoRepeats}
use Rattle.vk_spec.specs.States.{State, Looks}
use Rattle.vk_spec.specs.Standing.{Disk, disk_of, OnFiles}
use Rattle.vk_spec.specs.Calls.{Made, Says, NoLonger, read_of, noted, is_failed}
use Rattle.vk_spec.specs.Catalogues.{CatalogueState, OnPages}
use Rattle.vk_spec.specs.Conditions.{Condition}
use Rattle.vk_spec.proofs.CallLemmas.{looks_of, says_of}
use Rattle.vk_spec.proofs.OptionLemmas.{of_each, of_both}
use Rattle.vk_spec.proofs.StateLemmas.{told_before}
use Rattle.vk_base.specs.Stops.{has_failed}
use Rattle.vk_base.specs.declared.limits.Limit.TheVariants as limit
use Rattle.vk_base.specs.declared.stops.Stop.{Stop}
use Rattle.vk_base.specs.declared.stops.Stop.TheVariants as stop
use Rattle.vk_resolution.specs.Closures.{HasTooManyFacts}
use Rattle.vk_resolution.specs.Planner.{inputs_of}
use Rattle.vk_tree.specs.Answers.{read_answer}
use Rattle.vk_tree.specs.declared.trees.ReadFault.{ReadFault}
use Rattle.vk_tree.specs.declared.trees.ReadFault.TheVariants as read
use Rattle.vk_files.specs.Kept.{too_large, holds}
use Rattle.vk_model.specs.declared.projects.Project.{Project}
use Rattle.vk_model.specs.SettingViews.{setting_view}
use Rattle.vk_model.specs.declared.settings.Setting as made_setting
use Rattle.vk_opening.specs.Layouts.{Layout}
use Rattle.vk_pages.specs.Pages.{page_of}
use Rattle.vk_pages.proofs.PageLaws.{is_page}
use Rattle.vk_worklist.specs.Faults.{OnFault}
use Rattle.vk_worklist.specs.declared.faults.CloseFault.{CloseFault}
use Rattle.vk_worklist.specs.declared.faults.CloseFault.TheVariants.{Facts}
use Rattle.vk_check.specs.Checked.{IsChecked}
use Rattle.vk_check.specs.declared.verdicts.Verdict.{Verdict}
use Rattle.vk_check.specs.declared.verdicts.Verdict.TheVariants.{Yes, No}
use Rattle.vk_app.specs.declared.requests.Task.TheVariants as task
use Rattle.vk_app.specs.Resolutions as the
use Rattle.vk_app.specs.Resolutions.{Resolution}
use Rattle.vk_app.specs.Resolved.{IsReady}
use Rattle.vk_app.specs.Shown.{Shown, told, limit_line}
use Rattle.vk_app.specs.Checks.{most_report, report_in, verdict_shown, ShowsVerdict, ShowsAgainst, ShowsSeen, ShowsCheck}
use Rattle.vk_app.specs.Asked.{Purpose, to_plan}
use Rattle.vk_app.specs.Once.{ReadsOnce, ReadsFor}
use Rattle.vk_app.specs.Checked.{ReportIs, ReadsReport, shown_unread, Judges, shown_judged, ShowsJudged, EndsIn, made, lacks}
use Rattle.vk_app.specs.Answers.{ShowsSettled}
use Rattle.vk_app.specs.Ends.{EndsFor, EndsWith, MayEnd, done, refused, limited, lacking, broken}
use Rattle.vk_app.proofs.DoneLemmas.{ends_by}
use Rattle.vk_app.proofs.ExistenceLemmas.{settles_some}
use Rattle.vk_app.proofs.ReadLemmas.{own_alone, own_before}

-- ---- reading the report

held_in : (o : Option (List ℕ)) (bytes : List ℕ) → o ≡ Some bytes → length bytes ≤ most_report → report_in o ≡ holds bytes
held_in o bytes e short = rw e grind (arith, nat_tests, short)

large_in : (o : Option (List ℕ)) (bytes : List ℕ) → o ≡ Some bytes → most_report < length bytes → report_in o ≡ too_large
large_in o bytes e long = rw e grind (arith, nat_tests, long)

says_report : (path : Path) (answer : Result (List ℕ) (Stop ReadFault)) (d : Disk) → NoLonger most_report (read_answer answer) → Says (read_of path most_report) (read_answer answer) d → ReportIs path answer d
says_report path (Ok bytes) d small says = held_in (d path) bytes says small
says_report path (Err (stop.Fault read.Missing)) d small says = ap report_in says
says_report path (Err (stop.Fault read.TooLarge)) d small says = large_in (d path) says.0 says.1 says.2
says_report path (Err stop.Failed) d small says = tt {0}
says_report path (Err (stop.Memory m)) d small says = tt {0}

pub report_is : (path : Path) (answer : Result (List ℕ) (Stop ReadFault)) {a b : State} → Made (read_of path most_report) (read_answer answer) a b → OnFiles (ReportIs path answer) a
report_is path answer {a = a} m = IfSome_then a.told (says_of m) (λ t says. says_report path answer (disk_of t.files) m.small says)

-- the report was read, and nothing else was done
read_fails : (answer : Result (List ℕ) (Stop ReadFault)) → is_failed (read_answer answer) ≡ has_failed answer
read_fails (Ok bytes) = refl
read_fails (Err (stop.Fault read.Missing)) = refl
read_fails (Err (stop.Fault read.TooLarge)) = refl
read_fails (Err stop.Failed) = refl
read_fails (Err (stop.Memory m)) = refl

once_noted : (path : Path) (answer : Result (List ℕ) (Stop ReadFault)) → (noted path (read_answer answer) ≡ []) ⊎ (noted path (read_answer answer) ≡ path ∷ [])
once_noted path (Ok bytes) = inr refl
once_noted path (Err (stop.Fault read.Missing)) = inr refl
once_noted path (Err (stop.Fault read.TooLarge)) = inr refl
once_noted path (Err stop.Failed) = inl refl
once_noted path (Err (stop.Memory m)) = inl refl

pub report_read : (path : Path) (answer : Result (List ℕ) (Stop ReadFault)) {a b : State} → Made (read_of path most_report) (read_answer answer) a b → ReadsReport path (has_failed answer) a b
report_read path answer {a = a} {b = b} m = record {
  own = noted path (read_answer answer);
  once = once_noted path answer;
  looks = subst (λ f. Looks (noted path (read_answer answer)) f a b) (read_fails answer) (looks_of refl m);
}

pub report_small : (answer : Result (List ℕ) (Stop ReadFault)) → NoLonger most_report (read_answer answer) → IfOk answer (λ bytes. length bytes ≤ most_report)
report_small (Ok bytes) small = small
report_small (Err e) small = tt

-- ---- there is no report

unread_may_end : (project : Project) (report : Path) (e : Stop ReadFault) → MayEnd (Ok (task.Check project report)) (shown_unread report e) (has_failed {A = List ℕ} (Err e))
unread_may_end project report (stop.Fault read.Missing) = refused (task.Check project report) _
unread_may_end project report (stop.Fault read.TooLarge) = refused (task.Check project report) _
unread_may_end project report stop.Failed = broken (task.Check project report)
unread_may_end project report (stop.Memory m) = lacking (Ok (task.Check project report))

unread_calm : (report : Path) (e : Stop ReadFault) → (shown_unread report e).status ≢ 4 → has_failed {A = List ℕ} (Err e) ≡ false
unread_calm report (stop.Fault read.Missing) four = refl
unread_calm report (stop.Fault read.TooLarge) four = refl
unread_calm report stop.Failed four = absurd (four refl)
unread_calm report (stop.Memory m) four = refl

-- it is told before what the project comes to, so whatever that is
unread_shows : (report : Path) (e : Stop ReadFault) (files : Files) (r : Resolution) → ReportIs report (Err e) (disk_of files) → (shown_unread report e).status ≢ 3 → (shown_unread report e).status ≢ 4 → ShowsCheck report files r (shown_unread report e)
unread_shows report (stop.Fault read.Missing) files r is three four = subst (λ seen. ShowsSeen report seen r (shown_unread report (stop.Fault read.Missing))) (sym is) refl
unread_shows report (stop.Fault read.TooLarge) files r is three four = subst (λ seen. ShowsSeen report seen r (shown_unread report (stop.Fault read.TooLarge))) (sym is) refl
unread_shows report stop.Failed files r is three four = absurd (four refl)
unread_shows report (stop.Memory m) files r is three four = absurd (three refl)

pub ends_unread : (project : Project) (report : Path) (e : Stop ReadFault) (Answers : Files → Shown → Type 0) (May : Purpose → Files → Path → Type 0) (earlier : List Path) (shown : Shown) (a b : State)
    → ((files : Files) (first : Shown) → ((r : Resolution) → ShowsCheck report files r first) → Answers files first) → NoRepeats earlier
    → OnFiles (ReportIs report (Err e)) a → ReadsReport report (has_failed {A = List ℕ} (Err e)) a b → EndsWith (shown_unread report e) shown
    → EndsFor (Ok (task.Check project report)) Answers (ReadsFor (Ok (task.Check project report)) May earlier) shown a b
ends_unread project report e Answers May earlier shown a b answers distinct is r ends =
    ends_by (task.Check project report) Answers (ReadsFor (Ok (task.Check project report)) May earlier) (shown_unread report e) shown (has_failed {A = List ℕ} (Err e)) a b (unread_may_end project report e) (unread_calm report e)
    (IfSome_then a.told is (λ t seen three four. answers t.files (shown_unread report e) (λ x. unread_shows report e t.files x seen three four)))
    (own_alone (Ok (task.Check project report)) May earlier r.own distinct r.looks r.once) ends

-- under a setting, the project comes to something
pub settles_unread : (project : Project) (report : Path) (setting : Setting) (layout : Layout) (files : Files) (first : Shown) → ((r : Resolution) → ShowsCheck report files r first) → ShowsSettled (task.Check project report) setting layout files first
settles_unread project report setting layout files first shows =
    let r = settles_some setting (page_of layout files) (is_page layout files) in (r.0, r.1, shows r.0)

-- ---- a report against an early line

verdict_may_end : (project : Project) (report : Path) (v : Verdict) → MayEnd (Ok (task.Check project report)) (verdict_shown v) false
verdict_may_end project report Yes = done (task.Check project report) _
verdict_may_end project report (No line want) = refused (task.Check project report) _

against_read : (report : Path) (bytes : List ℕ) (files : Files) (r : Resolution) (shown : Shown) → ReportIs report (Ok bytes) (disk_of files) → ShowsAgainst bytes r shown → ShowsCheck report files r shown
against_read report bytes files r shown is shows = subst (λ seen. ShowsSeen report seen r shown) (sym is) shows

pub ends_against : (project : Project) (report : Path) (bytes : List ℕ) (e : Early) (May : Purpose → Files → Path → Type 0) (earlier : List Path) (shown : Shown) (a b : State) → NoRepeats earlier
    → OnFiles (ReportIs report (Ok bytes)) a → ReadsReport report false a b → EndsIn (ShowsVerdict bytes (Err e)) shown
    → EndsFor (Ok (task.Check project report)) (λ files s. ShowsCheck report files (the.early e) s) (ReadsFor (Ok (task.Check project report)) May earlier) shown a b
ends_against project report bytes e May earlier shown a b distinct is r (made shows) = record {
  failed = false;
  may = subst (λ s. MayEnd (Ok (task.Check project report)) s false) (sym shows.2) (verdict_may_end project report shows.0);
  reads = own_alone (Ok (task.Check project report)) May earlier r.own distinct r.looks r.once;
  content = IfSome_then a.told is (λ t seen three four. against_read report bytes t.files (the.early e) shown seen shows);
}
ends_against project report bytes e May earlier shown a b distinct is r lacks = record {
  failed = false;
  may = lacking (Ok (task.Check project report));
  reads = own_alone (Ok (task.Check project report)) May earlier r.own distinct r.looks r.once;
  content = of_each a.told (λ t three four. absurd (three refl));
}

-- ---- a report under a setting

-- the clauses of checking, put together
pub judged : (setting : Setting) (bytes : List ℕ) (answer : Result Verdict (Stop CloseFault)) (state : CatalogueState Condition)
    → IfOk answer (λ v. OnPages (λ pages. IsChecked setting pages bytes v) state)
    → OnFault answer setting.max_facts (OnPages (λ pages. HasTooManyFacts (inputs_of setting pages)) state)
    → OnPages (λ pages. Judges setting pages bytes answer) state
judged setting bytes (Ok v) state was fault = was
judged setting bytes (Err (stop.Fault (Facts most))) state was fault = IfSome_then state.pages fault.1 (λ pages many. (many, most_is fault.0))
  where
    most_is : {n m : ℕ} → Facts n ≡ Facts m → n ≡ m
    most_is e = (cc)
judged setting bytes (Err stop.Failed) state was fault = of_each state.pages (λ p. tt)
judged setting bytes (Err (stop.Memory m)) state was fault = of_each state.pages (λ p. tt)

judged_may_end : (project : Project) (report : Path) (answer : Result Verdict (Stop CloseFault)) → MayEnd (Ok (task.Check project report)) (shown_judged project answer) (has_failed answer)
judged_may_end project report (Ok v) = verdict_may_end project report v
judged_may_end project report (Err (stop.Fault fault)) = limited (task.Check project report) _ refl
judged_may_end project report (Err stop.Failed) = broken (task.Check project report)
judged_may_end project report (Err (stop.Memory m)) = lacking (Ok (task.Check project report))

judged_calm : (project : Project) (answer : Result Verdict (Stop CloseFault)) → (shown_judged project answer).status ≢ 4 → has_failed answer ≡ false
judged_calm project (Ok v) four = refl
judged_calm project (Err (stop.Fault fault)) four = refl
judged_calm project (Err stop.Failed) four = absurd (four refl)
judged_calm project (Err (stop.Memory m)) four = refl

shows_judged : (project : Project) (bytes : List ℕ) (setting : Setting) (layout : Layout) (files : Files) (answer : Result Verdict (Stop CloseFault)) → setting.max_facts ≡ project.max_facts → Judges setting (page_of layout files) bytes answer
    → (shown_judged project answer).status ≢ 3 → (shown_judged project answer).status ≢ 4 → ShowsJudged bytes setting layout files (shown_judged project answer)
shows_judged project bytes setting layout files (Ok v) most h three four = (the.resolved h.outcome, (h.is_outcome, h.few), (v, h.compared, refl))
shows_judged project bytes setting layout files (Err (stop.Fault (Facts n))) most h three four = (the.too_many n, h, ap (λ k. told 6 (limit_line (limit.Facts k))) (sym (h.1 ∙ most)))
shows_judged project bytes setting layout files (Err stop.Failed) most h three four = absurd (four refl)
shows_judged project bytes setting layout files (Err (stop.Memory m)) most h three four = absurd (three refl)

pub judge_ends : (project : Project) (report : Path) (bytes : List ℕ) (setting : made_setting.Setting) (layout : Layout) (answer : Result Verdict (Stop CloseFault)) (Reads : Bool → State → State → Type 0) (shown : Shown) (a b : State)
    → IfSome a.told (λ t. IsReady project setting)
    → IfSome a.told (λ t. Judges (setting_view setting) (page_of layout t.files) bytes answer)
    → Reads (has_failed answer) a b → EndsWith (shown_judged project answer) shown
    → EndsFor (Ok (task.Check project report)) (ShowsJudged bytes (setting_view setting) layout) Reads shown a b
judge_ends project report bytes setting layout answer Reads shown a b ready judges reads ends =
    ends_by (task.Check project report) _ Reads (shown_judged project answer) shown (has_failed answer) a b (judged_may_end project report answer) (judged_calm project answer)
    (of_both a.told ready judges (λ t r h three four. shows_judged project bytes (setting_view setting) layout t.files answer r h three four))
    reads ends

-- the report was read, and then judged
pub check_ends : (project : Project) (report : Path) (bytes : List ℕ) (setting : Setting) (layout : Layout) (May : Purpose → Files → Path → Type 0) (earlier : List Path) (shown : Shown) (a b c : State)
    → OnFiles (ReportIs report (Ok bytes)) a → ReadsReport report false a b
    → EndsFor (Ok (task.Check project report)) (ShowsJudged bytes setting layout) (ReadsOnce (May to_plan) earlier) shown b c
    → EndsFor (Ok (task.Check project report)) (ShowsSettled (task.Check project report) setting layout) (ReadsFor (Ok (task.Check project report)) May earlier) shown a c
check_ends project report bytes setting layout May earlier shown a b c is r ends = record {
  failed = ends.failed;
  may = ends.may;
  reads = own_before (Ok (task.Check project report)) May earlier r.own r.looks r.once ends.reads;
  content = of_both a.told is (told_before (λ f. shown.status ≢ 3 → shown.status ≢ 4 → ShowsJudged bytes setting layout f shown) (record { asked = r.own; looks = r.looks }) ends.content)
      (λ t seen shows three four. let s = shows three four in (s.0, s.1, against_read report bytes t.files s.0 shown seen s.2));
}
