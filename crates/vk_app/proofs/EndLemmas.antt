-- What an end that is told says of a run.
use Rattle.std.proofs.Common.{◌≡◌, ◌≢◌, ◌⊎◌, ◌≤◌, ◌||◌, subst, ℕ, Bool, true, false, inl, inr, List, [], length, refl, ap, sym, ◌∙◌, arith}
use Rattle.std.specs.Prelude.{Option, IfSome, Ok, Err, IsErr}
use Rattle.std.proofs.lemmas.List.{append-nil}
use Rattle.std.proofs.lemmas.Option.{IfSome_then}
use Rattle.vk_spec.specs.Counts.{MayHaveRisen, Rose}
use Rattle.vk_spec.specs.Files.{Files}
use Rattle.vk_spec.specs.Reading.{Fails}
use Rattle.vk_spec.specs.States.{State, OnlyRead}
use Rattle.vk_spec.specs.Sinks.{SinkState, Taken, TookFront, Sent}
use Rattle.vk_spec.proofs.StateLemmas.{risen_where, fails_where}
use Rattle.vk_spec.proofs.SinkLemmas.{sent_risen, sent_rose}
use Rattle.vk_spec.proofs.OptionLemmas.{of_each}
use Rattle.vk_base.specs.Stops.{fault_in}
use Rattle.vk_base.specs.declared.stops.Unread.{Unread}
use Rattle.vk_base.specs.declared.stops.Unread.TheVariants as unread
use Rattle.vk_words.specs.declared.faults.WordFault.{WordFault}
use Rattle.vk_model.specs.declared.projects.Project.{Project}
use Rattle.vk_gen.specs.Loads.{load_files, load_state}
use Rattle.vk_app.specs.declared.requests.Task.{Task}
use Rattle.vk_app.specs.declared.requests.Task.TheVariants as task
use Rattle.vk_app.specs.Asked.{IsOfProject, LeavesTree, MayAsk}
use Rattle.vk_app.specs.Once.{ReadsFor}
use Rattle.vk_app.specs.Requests.{Request, project_of}
use Rattle.vk_app.specs.Shown.{Shown, told, memory_line, tree_line}
use Rattle.vk_app.specs.Answers.{IsAnswerTo, ShowsProject}
use Rattle.vk_app.specs.Runs.{Outside, IsCalm, Shows, ShowsAnswer, IsSure, HasCauses, IsUntold, IsLine, of_words, of_limit, of_memory, of_tree, Stops, out_stopped, err_stopped, TellsLine, TookFault, TookLimit, KeepsOut, JudgesWords, RunsAlone, RunsAs}
use Rattle.vk_app.specs.Ends.{EndsAlone, EndsAs, EndsFor, EndsOverLoad, Tells, MayEnd, malformed, done, refused, limited, lacking, broken, whole, short, WordsEnd, line_after, told_status}
use Rattle.vk_app.proofs.AnswerLemmas.{one_answer}
use Rattle.vk_app.proofs.ReadLemmas.{not_read}

-- the record of what was told, with the two stops as arguments
pub data TellsBy (shown : Shown) (status : ℕ) (before after : Outside) : Type 0 where
  both : (out_stopped err_stopped : Bool) → Sent shown.out out_stopped before.out after.out → Sent (line_after out_stopped shown) err_stopped before.err after.err → status ≡ told_status (out_stopped || err_stopped) shown → TellsBy shown status before after

parts_of : (shown : Shown) (status : ℕ) (before after : Outside) → Tells shown status before.out after.out before.err after.err → TellsBy shown status before after
parts_of shown status before after t = both t.out_stopped t.err_stopped t.sent t.line t.ends

-- nothing is sent without a stop
nothing_stops : (bytes : List ℕ) (stopped : Bool) (before after : SinkState) → Sent bytes stopped before after → bytes ≡ [] → stopped ≡ false
nothing_stops bytes stopped before after sent e = sent.safe (omega (arith, ap length e))

-- what is shown where no sink stopped
shows_end : (shown : Shown) (status : ℕ) (before after : Outside) → TellsBy shown status before after → status ≢ 5 → Shows shown status before after
shows_end shown status before after (both false false sent line is) five = record { ends = is; out = sent.taken; err = line.taken }
shows_end shown status before after (both false true sent line is) five = absurd (five is)
shows_end shown status before after (both true false sent line is) five = absurd (five is)
shows_end shown status before after (both true true sent line is) five = absurd (five is)

-- ---- what every end keeps

never_five : {request : Request} {shown : Shown} {failed : Bool} → MayEnd request shown failed → shown.status ≢ 5
never_five (malformed fault) e = absurd (omega (arith, e))
never_five (done task report) e = absurd (omega (arith, e))
never_five (refused task report) e = absurd (omega (arith, e))
never_five (limited task l within) e = absurd (omega (arith, e))
never_five (lacking request) e = absurd (omega (arith, e))
never_five (broken task) e = absurd (omega (arith, e))

at_most_six : {request : Request} {shown : Shown} {failed : Bool} → MayEnd request shown failed → shown.status ≤ 6
at_most_six (malformed fault) = omega arith
at_most_six (done task report) = omega arith
at_most_six (refused task report) = omega arith
at_most_six (limited task l within) = omega arith
at_most_six (lacking request) = omega arith
at_most_six (broken task) = omega arith

four_failed : {request : Request} {shown : Shown} {failed : Bool} → MayEnd request shown failed → shown.status ≡ 4 → failed ≡ true
four_failed (malformed fault) e = absurd (omega (arith, e))
four_failed (done task report) e = absurd (omega (arith, e))
four_failed (refused task report) e = absurd (omega (arith, e))
four_failed (limited task l within) e = absurd (omega (arith, e))
four_failed (lacking request) e = absurd (omega (arith, e))
four_failed (broken task) e = refl

failed_four : {request : Request} {shown : Shown} {failed : Bool} → MayEnd request shown failed → failed ≡ true → shown.status ≡ 4
failed_four (malformed fault) e = (cc)
failed_four (done task report) e = (cc)
failed_four (refused task report) e = (cc)
failed_four (limited task l within) e = (cc)
failed_four (lacking request) e = (cc)
failed_four (broken task) e = refl

failed_silent : {request : Request} {shown : Shown} {failed : Bool} → MayEnd request shown failed → failed ≡ true → shown.out ≡ []
failed_silent (malformed fault) e = refl
failed_silent (done task report) e = (cc)
failed_silent (refused task report) e = (cc)
failed_silent (limited task l within) e = refl
failed_silent (lacking request) e = refl
failed_silent (broken task) e = refl

silent : {request : Request} {shown : Shown} {failed : Bool} → MayEnd request shown failed → 2 ≤ shown.status → shown.out ≡ []
silent (malformed fault) e = refl
silent (done task report) e = absurd (omega (arith, e))
silent (refused task report) e = absurd (omega (arith, e))
silent (limited task l within) e = refl
silent (lacking request) e = refl
silent (broken task) e = refl

-- the line of a status
line_done : {request : Request} {shown : Shown} {failed : Bool} → MayEnd request shown failed → shown.status ≤ 1 → shown.err ≡ []
line_done (malformed fault) e = absurd (omega (arith, e))
line_done (done task report) e = refl
line_done (refused task report) e = refl
line_done (limited task l within) e = absurd (omega (arith, e))
line_done (lacking request) e = absurd (omega (arith, e))
line_done (broken task) e = absurd (omega (arith, e))

line_memory : {request : Request} {shown : Shown} {failed : Bool} → MayEnd request shown failed → shown.status ≡ 3 → shown.err ≡ memory_line
line_memory (malformed fault) e = absurd (omega (arith, e))
line_memory (done task report) e = absurd (omega (arith, e))
line_memory (refused task report) e = absurd (omega (arith, e))
line_memory (limited task l within) e = absurd (omega (arith, e))
line_memory (lacking request) e = refl
line_memory (broken task) e = absurd (omega (arith, e))

line_tree : {request : Request} {shown : Shown} {failed : Bool} → MayEnd request shown failed → shown.status ≡ 4 → shown.err ≡ tree_line
line_tree (malformed fault) e = absurd (omega (arith, e))
line_tree (done task report) e = absurd (omega (arith, e))
line_tree (refused task report) e = absurd (omega (arith, e))
line_tree (limited task l within) e = absurd (omega (arith, e))
line_tree (lacking request) e = absurd (omega (arith, e))
line_tree (broken task) e = refl

line_words : {request : Request} {shown : Shown} {failed : Bool} (before after : SinkState) → MayEnd request shown failed → shown.status ≡ 2 → Taken before.taken shown.err after.taken → TookFault request before after
line_words before after (malformed fault) e taken = taken
line_words before after (done task report) e taken = absurd (omega (arith, e))
line_words before after (refused task report) e taken = absurd (omega (arith, e))
line_words before after (limited task l within) e taken = absurd (omega (arith, e))
line_words before after (lacking request) e taken = absurd (omega (arith, e))
line_words before after (broken task) e taken = absurd (omega (arith, e))

line_limit : {request : Request} {shown : Shown} {failed : Bool} (before after : SinkState) → MayEnd request shown failed → shown.status ≡ 6 → Taken before.taken shown.err after.taken → TookLimit request before after
line_limit before after (malformed fault) e taken = absurd (omega (arith, e))
line_limit before after (done task report) e taken = absurd (omega (arith, e))
line_limit before after (refused task report) e taken = absurd (omega (arith, e))
line_limit before after (limited task l within) e taken = (l, within, taken)
line_limit before after (lacking request) e taken = absurd (omega (arith, e))
line_limit before after (broken task) e taken = absurd (omega (arith, e))

-- an end that isn't out of memory or a failure is the one answer
is_the_answer : (request : Request) (files : Files) {one other : Shown} → (one.status ≢ 3 → one.status ≢ 4 → IsAnswerTo request files one) → IsAnswerTo request files other → one.status ≢ 3 → one.status ≢ 4 → one ≡ other
is_the_answer request files {one = one} {other = other} fits answer three four = one_answer request files one other (fits three four) answer

-- where files are told, an end that isn't out of memory or a failure answers
abbrev Fits : Request → Shown → Outside → Type 0
Fits request shown before = IfSome before.tree.told (λ t. shown.status ≢ 3 → shown.status ≢ 4 → IsAnswerTo request t.files shown)

-- ---- the causes of the failures outside

-- the line of an end that has one, with its cause; `out` is told nothing then
line_told : {request : Request} {shown : Shown} {failed : Bool} (before after : Outside) → MayEnd request shown failed → OnlyRead failed before.tree after.tree → Fits request shown before → shown.err ≢ [] → IsLine before after request shown.err × (shown.out ≡ [])
line_told before after (malformed fault) only fits some = (of_words fault, refl)
line_told before after (done task report) only fits some = absurd (some refl)
line_told before after (refused task report) only fits some = absurd (some refl)
line_told before after (limited task l within) only fits some = (
  of_limit task l within (IfSome_then before.tree.told fits (λ t h other answer. sym (ap (λ s. s.err) (is_the_answer (Ok task) t.files {other = other} h answer (λ e. absurd (omega (arith, e))) (λ e. absurd (omega (arith, e))))))),
  refl,
)
line_told before after (lacking request) only fits some = (of_memory request, refl)
line_told before after (broken task) only fits some = (of_tree task (risen_where only refl), refl)

tree_cause : {request : Request} {shown : Shown} {failed : Bool} (status : ℕ) (before after : Outside) → MayEnd request shown failed → OnlyRead failed before.tree after.tree → TellsBy shown status before after → status ≡ 4 → MayHaveRisen before.tree.faults after.tree.faults
tree_cause status before after may only (both false false sent line is) four = risen_where only (four_failed may (sym is ∙ four))
tree_cause status before after may only (both false true sent line is) four = absurd (omega (arith, is, four))
tree_cause status before after may only (both true false sent line is) four = absurd (omega (arith, is, four))
tree_cause status before after may only (both true true sent line is) four = absurd (omega (arith, is, four))

sink_cause : {request : Request} {shown : Shown} {failed : Bool} (status : ℕ) (before after : Outside) → MayEnd request shown failed → OnlyRead failed before.tree after.tree → Fits request shown before → TellsBy shown status before after → status ≡ 5 → Stops request before after
sink_cause status before after may only fits (both false false sent line is) five = absurd (never_five may (sym is ∙ five))
sink_cause {shown = shown} status before after may only fits (both false true sent line is) five =
    let told = line_told before after may only fits (λ e. let clash : true ≡ false = nothing_stops shown.err true _ _ line e in (cc)) in
    err_stopped shown.err line.taken.0 told.0 (sent_risen line refl) line.taken.1 (subst (λ l. Taken before.out.taken l after.out.taken) told.1 sent.taken)
sink_cause status before after may only fits (both true false sent line is) five = out_stopped (sent_risen sent refl) (inl line.taken)
sink_cause status before after may only fits (both true true sent line is) five = out_stopped (sent_risen sent refl) (inr (line.taken.0, sent_risen line refl, line.taken.1))

-- one of the sinks stopped
either_stopped : {request : Request} {before after : Outside} → Stops request before after → MayHaveRisen before.out.faults after.out.faults ⊎ MayHaveRisen before.err.faults after.err.faults
either_stopped (out_stopped risen part) = inl risen
either_stopped (err_stopped line rest is risen took none) = inr risen

tree_told : {request : Request} {shown : Shown} {failed : Bool} (status : ℕ) (before after : Outside) → MayEnd request shown failed → OnlyRead failed before.tree after.tree → TellsBy shown status before after → Rose before.tree.faults after.tree.faults → (status ≡ 4) ⊎ IsUntold status before after
tree_told status before after may only (both false false sent line is) rose = inl (is ∙ failed_four may (fails_where only rose))
tree_told status before after may only (both false true sent line is) rose = inr (record {
  ends = is;
  err = sent_risen line refl;
  out = subst (λ l. Taken before.out.taken l after.out.taken) (failed_silent may (fails_where only rose)) sent.taken;
})
tree_told status before after may only (both true se sent line is) rose = let clash : true ≡ false = nothing_stops _ true _ _ sent (failed_silent may (fails_where only rose)) in (cc)

out_told : (shown : Shown) (status : ℕ) (before after : Outside) → TellsBy shown status before after → Rose before.out.faults after.out.faults → status ≡ 5
out_told shown status before after (both false se sent line is) rose = let clash : false ≡ true = sent_rose sent rose in (cc)
out_told shown status before after (both true se sent line is) rose = is

err_told : (shown : Shown) (status : ℕ) (before after : Outside) → TellsBy shown status before after → Rose before.err.faults after.err.faults → status ≡ 5
err_told shown status before after (both so false sent line is) rose = let clash : false ≡ true = sent_rose line rose in (cc)
err_told shown status before after (both false true sent line is) rose = is
err_told shown status before after (both true true sent line is) rose = is

has_causes : {request : Request} {shown : Shown} {failed : Bool} (status : ℕ) (before after : Outside) → MayEnd request shown failed → OnlyRead failed before.tree after.tree → Fits request shown before → TellsBy shown status before after → HasCauses request status before after
has_causes status before after may only fits parts = record {
  tree = tree_cause status before after may only parts;
  sink = sink_cause status before after may only fits parts;
  tree_rose = tree_told status before after may only parts;
  out_rose = out_told _ status before after parts;
  err_rose = err_told _ status before after parts;
}

-- ---- what `err` took

line_whole : {shown : Shown} (status : ℕ) (before after : Outside) → TellsBy shown status before after → status ≢ 5 → (status ≡ shown.status) × Taken before.err.taken shown.err after.err.taken
line_whole status before after (both false false sent went is) five = (is, went.taken)
line_whole status before after (both false true sent went is) five = absurd (five is)
line_whole status before after (both true false sent went is) five = absurd (five is)
line_whole status before after (both true true sent went is) five = absurd (five is)

-- the line of an end that has one
line_is : {shown : Shown} (status : ℕ) (line : List ℕ) (before after : Outside) → TellsBy shown status before after → status ≢ 5 → (shown.status ≡ status → shown.err ≡ line) → Taken before.err.taken line after.err.taken
line_is status line before after parts five e =
    let whole = line_whole status before after parts five in
    subst (λ l. Taken before.err.taken l after.err.taken) (e (sym whole.0)) whole.1

tells_line : {request : Request} {shown : Shown} {failed : Bool} (status : ℕ) (before after : Outside) → MayEnd request shown failed → TellsBy shown status before after → TellsLine request status before after
tells_line status before after may parts = record {
  done = λ small. line_is status [] before after parts (λ e. absurd (omega (arith, small, e))) (λ e. line_done may (omega (arith, small, e)));
  words = λ two. let whole = line_whole status before after parts (λ e. absurd (omega (arith, two, e))) in line_words before.err after.err may (sym whole.0 ∙ two) whole.1;
  memory = λ three. line_is status memory_line before after parts (λ e. absurd (omega (arith, three, e))) (λ e. line_memory may (e ∙ three));
  tree = λ four. line_is status tree_line before after parts (λ e. absurd (omega (arith, four, e))) (λ e. line_tree may (e ∙ four));
  limit = λ six. let whole = line_whole status before after parts (λ e. absurd (omega (arith, six, e))) in line_limit before.err after.err may (sym whole.0 ∙ six) whole.1;
}

-- ---- what `out` took

out_nothing : {request : Request} {shown : Shown} {failed : Bool} (status : ℕ) (before after : Outside) → MayEnd request shown failed → TellsBy shown status before after → 2 ≤ status → status ≢ 5 → Taken before.out.taken [] after.out.taken
out_nothing status before after may (both false false sent line is) low five = subst (λ l. Taken before.out.taken l after.out.taken) (silent may (omega (arith, low, is))) sent.taken
out_nothing status before after may (both false true sent line is) low five = absurd (five is)
out_nothing status before after may (both true false sent line is) low five = absurd (five is)
out_nothing status before after may (both true true sent line is) low five = absurd (five is)

whole_front : (bytes : List ℕ) (before after : Option (List ℕ)) → Taken before bytes after → (rest : List ℕ) × TookFront before bytes rest after
whole_front bytes before after taken = ([], record { front = bytes; split = sym (append-nil bytes); taken = taken })

no_front : (bytes : List ℕ) (before after : Option (List ℕ)) → Taken before [] after → (rest : List ℕ) × TookFront before bytes rest after
no_front bytes before after taken = (bytes, record { front = []; split = refl; taken = taken })

went_front : (bytes : List ℕ) (stopped : Bool) (before after : SinkState) → Sent bytes stopped before after → (rest : List ℕ) × TookFront before.taken bytes rest after.taken
went_front bytes false before after sent = whole_front bytes before.taken after.taken sent.taken
went_front bytes true before after sent = sent.taken

went_nothing : (stopped : Bool) (before after : SinkState) → Sent [] stopped before after → Taken before.taken [] after.taken
went_nothing false before after sent = sent.taken
went_nothing true before after sent = let clash : true ≡ false = nothing_stops _ true _ _ sent refl in (cc)

end_front : (request : Request) (files : Files) {one : Shown} (other : Shown) {failed : Bool} (stopped : Bool) (before after : SinkState) → MayEnd request one failed → (one.status ≢ 3 → one.status ≢ 4 → IsAnswerTo request files one) → IsAnswerTo request files other
    → Sent one.out stopped before after → (rest : List ℕ) × TookFront before.taken other.out rest after.taken
end_front request files other stopped before after (malformed fault) fits answer sent = subst (λ s. (rest : List ℕ) × TookFront before.taken s.out rest after.taken) (is_the_answer (Err fault) files {other = other} fits answer (λ e. absurd (omega (arith, e))) (λ e. absurd (omega (arith, e)))) (went_front [] stopped before after sent)
end_front request files other stopped before after (done task report) fits answer sent = subst (λ s. (rest : List ℕ) × TookFront before.taken s.out rest after.taken) (is_the_answer (Ok task) files {other = other} fits answer (λ e. absurd (omega (arith, e))) (λ e. absurd (omega (arith, e)))) (went_front report stopped before after sent)
end_front request files other stopped before after (refused task report) fits answer sent = subst (λ s. (rest : List ℕ) × TookFront before.taken s.out rest after.taken) (is_the_answer (Ok task) files {other = other} fits answer (λ e. absurd (omega (arith, e))) (λ e. absurd (omega (arith, e)))) (went_front report stopped before after sent)
end_front request files other stopped before after (limited task l within) fits answer sent = subst (λ s. (rest : List ℕ) × TookFront before.taken s.out rest after.taken) (is_the_answer (Ok task) files {other = other} fits answer (λ e. absurd (omega (arith, e))) (λ e. absurd (omega (arith, e)))) (went_front [] stopped before after sent)
end_front request files other stopped before after (lacking again) fits answer sent = no_front other.out before.taken after.taken (went_nothing stopped before after sent)
end_front request files other stopped before after (broken task) fits answer sent = no_front other.out before.taken after.taken (went_nothing stopped before after sent)

keeps_out : (request : Request) (shown : Shown) (status : ℕ) (before after : Outside) → EndsAs request shown before.tree after.tree → Tells shown status before.out after.out before.err after.err → KeepsOut request status before after
keeps_out request shown status before after ends t = record {
  nothing = out_nothing status before after ends.ends.may (parts_of shown status before after t);
  front = IfSome_then before.tree.told ends.ends.content (λ told fits other answer. end_front request told.files other t.out_stopped before.out after.out ends.ends.may fits answer t.sent);
}

-- ---- when the command line is malformed

two_is_err : {request : Request} {shown : Shown} {failed : Bool} → MayEnd request shown failed → shown.status ≡ 2 → IsErr request
two_is_err (malformed fault) e = refl
two_is_err (done task report) e = absurd (omega (arith, e))
two_is_err (refused task report) e = absurd (omega (arith, e))
two_is_err (limited task l within) e = absurd (omega (arith, e))
two_is_err (lacking request) e = absurd (omega (arith, e))
two_is_err (broken task) e = absurd (omega (arith, e))

err_is_two : {request : Request} {shown : Shown} {failed : Bool} → MayEnd request shown failed → IsErr request → (shown.status ≡ 2) ⊎ (shown.status ≡ 3)
err_is_two (malformed fault) e = inl refl
err_is_two (done task report) e = (cc)
err_is_two (refused task report) e = (cc)
err_is_two (limited task l within) e = (cc)
err_is_two (lacking request) e = inr refl
err_is_two (broken task) e = (cc)

status_two : {shown : Shown} (status : ℕ) (before after : Outside) → TellsBy shown status before after → status ≡ 2 → shown.status ≡ 2
status_two status before after parts two = sym (line_whole status before after parts (λ e. absurd (omega (arith, two, e)))).0 ∙ two

status_err : {request : Request} {shown : Shown} {failed : Bool} (status : ℕ) (before after : Outside) → MayEnd request shown failed → TellsBy shown status before after → IsErr request → (status ≡ 2) ⊎ (status ≡ 3) ⊎ (status ≡ 5)
status_err status before after may (both false false sent line is) err = elim (err_is_two may err) [ inl two ↦ inl (is ∙ two) | inr three ↦ inr (inl (is ∙ three)) ]
status_err status before after may (both false true sent line is) err = inr (inr is)
status_err status before after may (both true false sent line is) err = inr (inr is)
status_err status before after may (both true true sent line is) err = inr (inr is)

-- a malformed command line leaves the tree
err_leaves : (request : Request) → IsErr request → LeavesTree request
err_leaves (Ok task) e = (cc)
err_leaves (Err fault) e = tt {0}

judges_words : (request : Request) (shown : Shown) (status : ℕ) (before after : Outside) → EndsAs request shown before.tree after.tree → TellsBy shown status before after → JudgesWords request status before after
judges_words request shown status before after ends parts = record {
  only = λ two. let err = two_is_err ends.ends.may (status_two status before after parts two) in (err, (ends.alone (err_leaves request err)).same);
  comes = λ err. (status_err status before after ends.ends.may parts err, (ends.alone (err_leaves request err)).same);
}

-- ---- the answer

answers : (request : Request) (shown : Shown) (status : ℕ) (before after : Outside) → EndsAs request shown before.tree after.tree → TellsBy shown status before after → HasCauses request status before after
    → IfSome before.tree.told (λ t. IsCalm before after → status ≢ 3 → ShowsAnswer request t.files status before after)
answers request shown status before after ends parts causes =
    IfSome_then before.tree.told ends.ends.content (λ told fits calm three.
    let shows = shows_end shown status before after parts (λ five. elim (either_stopped (causes.sink five)) [ inl out ↦ calm.out out | inr err ↦ calm.err err ]) in
    record { shown = shown; answer = fits (λ e. three (shows.ends ∙ e)) (λ e. calm.tree (causes.tree (shows.ends ∙ e))); shows = shows })

-- no sink stops that has room for the answer
none_stops : {request : Request} {shown : Shown} {failed : Bool} (status : ℕ) (before after : Outside) → MayEnd request shown failed → IsSure shown before → TellsBy shown status before after → status ≢ 5
none_stops status before after may sure (both false false sent line is) five = never_five may (sym is ∙ five)
none_stops status before after may sure (both false true sent line is) five = let clash : true ≡ false = line.safe sure.line in (cc)
none_stops status before after may sure (both true se sent line is) five = let clash : true ≡ false = sent.safe sure.out in (cc)

-- what is sure for the answer is sure for the end
end_sure : (request : Request) (files : Files) {one other : Shown} {failed : Bool} (before : Outside) → MayEnd request one failed → (one.status ≢ 3 → one.status ≢ 4 → IsAnswerTo request files one) → IsAnswerTo request files other → IsSure other before → one.status ≢ 4 → IsSure one before
end_sure request files {other = other} before (malformed fault) fits answer sure four = subst (λ s. IsSure s before) (sym (is_the_answer (Err fault) files {other = other} fits answer (λ e. absurd (omega (arith, e))) four)) sure
end_sure request files {other = other} before (done task report) fits answer sure four = subst (λ s. IsSure s before) (sym (is_the_answer (Ok task) files {other = other} fits answer (λ e. absurd (omega (arith, e))) four)) sure
end_sure request files {other = other} before (refused task report) fits answer sure four = subst (λ s. IsSure s before) (sym (is_the_answer (Ok task) files {other = other} fits answer (λ e. absurd (omega (arith, e))) four)) sure
end_sure request files {other = other} before (limited task l within) fits answer sure four = subst (λ s. IsSure s before) (sym (is_the_answer (Ok task) files {other = other} fits answer (λ e. absurd (omega (arith, e))) four)) sure
end_sure request files {other = other} before (lacking again) fits answer sure four = record { tree = sure.tree; out = omega arith; line = omega (arith, sure.err); err = sure.err }
end_sure request files {other = other} before (broken task) fits answer sure four = absurd (four refl)

completes : (request : Request) (shown : Shown) (status : ℕ) (before after : Outside) → EndsAs request shown before.tree after.tree → TellsBy shown status before after
    → IfSome before.tree.told (λ t. (other : Shown) → IsAnswerTo request t.files other → IsSure other before → status ≢ 3 → Shows other status before after)
completes request shown status before after ends parts =
    IfSome_then before.tree.told ends.ends.content (λ told fits other answer sure three.
    let four : shown.status ≢ 4 = λ e. let clash : true ≡ false = sym (four_failed ends.ends.may e) ∙ ends.ends.reads.only.looks.ends.safe sure.tree in (cc) in
    let shows = shows_end shown status before after parts (none_stops status before after ends.ends.may (end_sure request told.files before ends.ends.may fits answer sure four) parts) in
    subst (λ s. Shows s status before after) (is_the_answer request told.files fits answer (λ e. three (shows.ends ∙ e)) four) shows)

-- ---- a run

small : {request : Request} {shown : Shown} {failed : Bool} (status : ℕ) (before after : Outside) → MayEnd request shown failed → TellsBy shown status before after → status ≤ 6
small status before after may (both false false sent line is) = omega (arith, is, at_most_six may)
small status before after may (both false true sent line is) = omega (arith, is)
small status before after may (both true false sent line is) = omega (arith, is)
small status before after may (both true true sent line is) = omega (arith, is)

-- 4 is told of an end that has it
four_ends : {shown : Shown} (status : ℕ) (before after : Outside) → TellsBy shown status before after → status ≡ 4 → shown.status ≡ 4
four_ends status before after parts four = sym (line_whole status before after parts (λ e. absurd (omega (arith, four, e)))).0 ∙ four

-- a run that leaves the tree
runs_alone : (request : Request) (shown : Shown) (status : ℕ) (before after : Outside) → EndsAlone request shown before.tree after.tree → TellsBy shown status before after → HasCauses request status before after → RunsAlone request status before after
runs_alone request shown status before after ends parts causes = record {
  tree = ends.same;
  never = λ four. ends.calm (four_ends status before after parts four);
  answers = λ files out err three.
      let shows = shows_end shown status before after parts (λ five. elim (either_stopped (causes.sink five)) [ inl o ↦ out o | inr e ↦ err e ]) in
      record { shown = shown; answer = ends.content files (λ e. three (shows.ends ∙ e)); shows = shows };
}

-- an end that was told is a run
pub runs_as : (request : Request) (shown : Shown) (status : ℕ) (before after : Outside) → EndsAs request shown before.tree after.tree → Tells shown status before.out after.out before.err after.err → RunsAs request status before after
runs_as request shown status before after ends t =
    let parts = parts_of shown status before after t in
    let causes = has_causes status before after ends.ends.may ends.ends.reads.only ends.ends.content parts in
    record {
      answers = answers request shown status before after ends parts causes;
      completes = completes request shown status before after ends parts;
      causes = causes;
      words = judges_words request shown status before after ends parts;
      out = keeps_out request shown status before after ends t;
      err = tells_line status before after ends.ends.may parts;
      reads = record { failed = ends.ends.failed; reads = ends.ends.reads };
      alone = λ leaves. runs_alone request shown status before after (ends.alone leaves) parts causes;
      small = small status before after ends.ends.may parts;
    }

-- ---- what leaves the tree

-- nothing was read, and what is shown is the answer over any files
unasked : (request : Request) (shown : Shown) (s : State) → MayEnd request shown false → ((files : Files) → shown.status ≢ 3 → IsAnswerTo request files shown) → EndsAs request shown s s
unasked request shown s may content = record {
  ends = record { failed = false; may = may; reads = not_read request (MayAsk request) [] s tt; content = of_each s.told (λ t three four. content t.files three) };
  alone = λ leaves. record { same = refl; calm = λ four. let clash : true ≡ false = sym (four_failed may four) in (cc); content = content };
}

pub ends_of_words : (request : Request) (unread : Unread WordFault) (shown : Shown) (s : State) → Fails (fault_in unread) request → WordsEnd unread shown → EndsAs request shown s s
ends_of_words request (unread.Fault fault) shown s is whole = rw is (unasked _ _ s (malformed fault) (λ files three. refl))
ends_of_words request (unread.Fault fault) shown s is (short four) = unasked request _ s (lacking request) (λ files three. absurd (three refl))
ends_of_words request (unread.Memory m) shown s is end = rw end (unasked request _ s (lacking request) (λ files three. absurd (three refl)))

-- a task that was read
pub ends_asked : (request : Request) (t : Task) (shown : Shown) (a b : State) → request ≡ Ok t → EndsAs (Ok t) shown a b → EndsAs request shown a b
ends_asked request t shown a b is ends = rw is ends

-- ---- a task over the files of the tree

-- how a task ends over its project's files
abbrev pub EndsOver : Task → Shown → State → State → Type 0
EndsOver t shown a b = EndsFor (Ok t) (ShowsProject t) (ReadsFor (Ok t) (IsOfProject (project_of t)) []) shown a b

pub ends_over : (t : Task) (shown : Shown) (a b : State) → (LeavesTree (Ok t) → ⊥) → EndsOver t shown a b → EndsAs (Ok t) shown a b
ends_over (task.Plan project) shown a b stays e = record { ends = e; alone = λ leaves. absurd leaves }
ends_over (task.Abi project i) shown a b stays e = record { ends = e; alone = λ leaves. absurd leaves }
ends_over (task.Check project report) shown a b stays e = record { ends = e; alone = λ leaves. absurd leaves }
ends_over (task.SelfLoad size project) shown a b stays e = absurd (stays (tt {0}))

-- ---- a load

-- how a task ends over a tree in memory with the load's files, of which no call is to fail
pub over_load : (t : Task) (size : ℕ) (shown : Shown) (a b : State) → a ≡ load_state size → EndsOver t shown a b → EndsOverLoad t size shown
over_load t size shown a b is ends =
    let sure : a.sure ≡ true = ap (λ (s : State). s.sure) is in
    let calm : ends.failed ≡ false = ends.reads.only.looks.ends.safe sure in
    let content : shown.status ≢ 3 → shown.status ≢ 4 → ShowsProject t (load_files size) shown =
    subst (λ (s : State). IfSome s.told (λ f. shown.status ≢ 3 → shown.status ≢ 4 → ShowsProject t f.files shown)) is ends.content in
    record {
      may = subst (MayEnd (Ok t) shown) calm ends.may;
      content = λ three. content three (λ four. let clash : true ≡ false = sym (four_failed ends.may four) ∙ calm in (cc));
    }

pub lacks_load : (t : Task) (size : ℕ) (shown : Shown) → shown ≡ told 3 memory_line → EndsOverLoad t size shown
lacks_load t size shown is = rw is (record { may = lacking (Ok t); content = λ three. absurd (three refl) })

-- the tree itself is left
pub ends_load : (t : Task) (size : ℕ) (project : Project) (shown : Shown) (s : State) → t ≡ task.SelfLoad size project → EndsOverLoad t size shown → EndsAs (Ok t) shown s s
ends_load t size project shown s is ends = rw is (over (rw is at ends))
  where
    over : EndsOverLoad (task.SelfLoad size project) size shown → EndsAs (Ok (task.SelfLoad size project)) shown s s
    over e = unasked (Ok (task.SelfLoad size project)) shown s e.may (λ files three. e.content three)
