-- The lines that lead to an outcome are its report.
use Rattle.std.proofs.Common.{◌≡◌, ◌⊎◌, ◌++◌, ◌∷◌, ◌<◌, ◌≤◌, ◌+◌, ◌==◌, cond, ℕ, Bool, true, false, List, [], length, length-append, inl, inr, refl, ap, sym, ◌∙◌, subst, append_assoc, arith, codes}
use Rattle.std.specs.Prelude.{flat_map, nat_lt, decimal, Result}
use Rattle.std.proofs.lemmas.Bool.Decides.{nat_tests}
use Rattle.std.proofs.lemmas.Fmt.{decimal_digit}
use Rattle.std.proofs.lemmas.List.{append-nil}
use Rattle.std.proofs.lemmas.Grind.{flat_map-append}
use Rattle.vk_spec.specs.Earlies.{Early}
use Rattle.vk_resolution.specs.Faults.{Fault}
use Rattle.vk_resolution.specs.Reasons.{Reason}
use Rattle.vk_resolution.specs.Outcomes.{Outcome}
use Rattle.vk_resolution.specs.Lines.{ended, fault_line, item_text, numbered_lines, reason_text}
use Rattle.vk_model.specs.Lines.{early_line}
use Rattle.vk_report.specs.Reports.{whole_report}
use Rattle.vk_forms.specs.Choices.{either_text}
use Rattle.vk_report_reader.specs.Places.{Body, Goes, IsRead, Place, Wants, WantsCount, after_early, after_fault_count, after_only, after_status, early_body, fault_body, fault_count, fault_lines, finished, item_count, items, only_fault, outcome_of, pick, plan_body, reasons, start, status}

-- ---- lines one after the other

numbered_more : {X : Type 0} (text : X → List ℕ) (n : ℕ) (xs : List X) (x : X) → numbered_lines text n (xs ++ x ∷ []) ≡ numbered_lines text n xs ++ ended (decimal (n + length xs) ++ codes " " ++ text x)
numbered_more text n [] x =
    let same : n + 0 ≡ n = omega arith in
    append-nil (ended (decimal n ++ codes " " ++ text x)) ∙ ap (λ k. ended (decimal k ++ codes " " ++ text x)) (sym same)
numbered_more text n (y ∷ ys) x =
    let count : n + 1 + length ys ≡ n + length (y ∷ ys) = omega arith in
    ap (λ l. ended (decimal n ++ codes " " ++ text y) ++ l) (numbered_more text (n + 1) ys x ∙ ap (λ k. numbered_lines text (n + 1) ys ++ ended (decimal k ++ codes " " ++ text x)) count)
    ∙ sym (append_assoc (ended (decimal n ++ codes " " ++ text y)) (numbered_lines text (n + 1) ys) (ended (decimal (n + length (y ∷ ys)) ++ codes " " ++ text x)))

-- the same from 1 on
numbered_next : {X : Type 0} (text : X → List ℕ) (before : List ℕ) (xs : List X) (x : X) → before ++ numbered_lines text 1 (xs ++ x ∷ []) ≡ (before ++ numbered_lines text 1 xs) ++ ended (decimal (length xs + 1) ++ codes " " ++ text x)
numbered_next text before xs x =
    let count : 1 + length xs ≡ length xs + 1 = omega arith in
    ap (λ l. before ++ l) (numbered_more text 1 xs x ∙ ap (λ k. numbered_lines text 1 xs ++ ended (decimal k ++ codes " " ++ text x)) count)
    ∙ sym (append_assoc before (numbered_lines text 1 xs) (ended (decimal (length xs + 1) ++ codes " " ++ text x)))

each_next : {X : Type 0} (text : X → List ℕ) (before : List ℕ) (xs : List X) (x : X) → before ++ flat_map (λ y. ended (text y)) (xs ++ x ∷ []) ≡ (before ++ flat_map (λ y. ended (text y)) xs) ++ ended (text x)
each_next text before xs x =
    ap (λ l. before ++ l) (flat_map-append (λ y. ended (text y)) xs (x ∷ []) ∙ ap (λ l. flat_map (λ y. ended (text y)) xs ++ l) (append-nil (ended (text x))))
    ∙ sym (append_assoc before (flat_map (λ y. ended (text y)) xs) (ended (text x)))

-- what is put together from the left, or after the first
regroup : (a b c d : List ℕ) → ((a ++ b) ++ c) ++ d ≡ a ++ ((b ++ c) ++ d)
regroup a b c d = ap (λ l. l ++ d) (append_assoc a b c) ∙ append_assoc a (b ++ c) d

-- ---- what stands before a place

abbrev pub count_line : List ℕ → ℕ → List ℕ
count_line word n = ended (word ++ codes " " ++ decimal n)

abbrev pub body_text : Body → List ℕ
body_text (plan_body xs) = codes "vcpkg-plan 1\nstatus planned\n" ++ count_line (codes "plan") (length xs) ++ numbered_lines item_text 1 xs
body_text (fault_body xs) = codes "vcpkg-plan 1\nstatus refused\n" ++ count_line (codes "faults") (length xs) ++ flat_map (λ f. ended (fault_line f)) xs
body_text (early_body early) = codes "vcpkg-plan 1\nstatus refused\nfaults 1\n" ++ ended (early_line early)

abbrev pub before_place : Place → List ℕ
before_place start = []
before_place status = codes "vcpkg-plan 1\n"
before_place item_count = codes "vcpkg-plan 1\nstatus planned\n"
before_place fault_count = codes "vcpkg-plan 1\nstatus refused\n"
before_place (items n done) = codes "vcpkg-plan 1\nstatus planned\n" ++ count_line (codes "plan") n ++ numbered_lines item_text 1 done
before_place only_fault = codes "vcpkg-plan 1\nstatus refused\nfaults 1\n"
before_place (fault_lines n done) = codes "vcpkg-plan 1\nstatus refused\n" ++ count_line (codes "faults") n ++ flat_map (λ f. ended (fault_line f)) done
before_place (after_early early) = body_text (early_body early)
before_place (reasons body n done) = body_text body ++ count_line (codes "reasons") n ++ numbered_lines reason_text 1 done
before_place (finished outcome) = whole_report outcome

-- ---- no more stand than are to come

abbrev pub IsBody : Body → ℕ → Type 0
IsBody (plan_body xs) n = Unit {0}
IsBody (fault_body xs) n = Unit {0}
IsBody (early_body early) n = n ≡ 0

abbrev pub IsReached : Place → Type 0
IsReached start = Unit {0}
IsReached status = Unit {0}
IsReached item_count = Unit {0}
IsReached fault_count = Unit {0}
IsReached (items n done) = length done ≤ n
IsReached only_fault = Unit {0}
IsReached (fault_lines n done) = length done ≤ n
IsReached (after_early early) = Unit {0}
IsReached (reasons body n done) = (length done ≤ n) × IsBody body n
IsReached (finished outcome) = Unit {0}

-- a line leads on, and stands behind what was there
abbrev LeadsOn : Place → List ℕ → Place → Type 0
LeadsOn place line next = IsReached next × (before_place place ++ ended line ≡ before_place next)

led_to : (place next to : Place) (line text : List ℕ) → next ≡ to → line ≡ text → LeadsOn place text to → LeadsOn place line next
led_to place next to line text goes is leads = subst (λ q. LeadsOn place line q) (sym goes) (subst (λ l. LeadsOn place l to) (sym is) leads)

more_fit : {X : Type 0} (xs : List X) (x : X) (n : ℕ) → length xs < n → length (xs ++ x ∷ []) ≤ n
more_fit xs x n more = let count = length-append xs (x ∷ []) in omega (arith, count, more)

tested : (k n : ℕ) (test : Bool) → nat_lt k n ≡ test → (test ≡ true → k < n) × (test ≡ false → n ≤ k)
tested k n test e = ((λ yes. grind (arith, nat_tests)), (λ no. grind (arith, nat_tests)))

picked : (test : Bool) (one other : List ℕ → Place → Type 0) (line : List ℕ) (next : Place) → pick test one other line next → ((test ≡ true) × one line next) ⊎ ((test ≡ false) × other line next)
picked true one other line next w = inl (refl, w)
picked false one other line next w = inr (refl, w)

-- the body of an early line has its own count
abbrev IsBodyFree : Body → Type 0
IsBodyFree (plan_body xs) = Unit {0}
IsBodyFree (fault_body xs) = Unit {0}
IsBodyFree (early_body early) = ⊥

body_free : (body : Body) (n : ℕ) → IsBodyFree body → IsBody body n
body_free (plan_body xs) n free = tt
body_free (fault_body xs) n free = tt
body_free (early_body early) n free = absurd free

status_on : (line : List ℕ) (u : Unit {0} ⊎ Unit {0}) (next : Place) → next ≡ after_status u → line ≡ either_text (λ u. codes "status planned") (λ u. codes "status refused") u → LeadsOn status line next
status_on line (inl u) next goes is = led_to status next item_count line (codes "status planned") goes is (tt, refl)
status_on line (inr u) next goes is = led_to status next fault_count line (codes "status refused") goes is (tt, refl)

only_on : (line : List ℕ) (x : Fault ⊎ Early) (next : Place) → next ≡ after_only x → line ≡ either_text fault_line early_line x → LeadsOn only_fault line next
only_on line (inl fault) next goes is = led_to only_fault next (fault_lines 1 (fault ∷ [])) line (fault_line fault) goes is (
  omega arith,
  ap (λ d. codes "vcpkg-plan 1\nstatus refused\n" ++ ended (codes "faults" ++ codes " " ++ d) ++ ended (fault_line fault)) (sym (decimal_digit 1 (omega arith)))
      ∙ ap (λ l. codes "vcpkg-plan 1\nstatus refused\n" ++ count_line (codes "faults") 1 ++ l) (sym (append-nil (ended (fault_line fault)))),
)
only_on line (inr early) next goes is = led_to only_fault next (after_early early) line (early_line early) goes is (tt, refl)

fault_count_on : (line : List ℕ) (n : ℕ) (next : Place) → next ≡ after_fault_count n → line ≡ codes "faults" ++ codes " " ++ decimal n → (test : Bool) → (n == 1) ≡ test → LeadsOn fault_count line next
fault_count_on line n next goes is true one =
    let single : n ≡ 1 = grind (arith, nat_tests) in
    led_to fault_count next only_fault line (codes "faults 1") (goes ∙ ap (λ b. cond b only_fault (fault_lines n [])) one) (is ∙ ap (λ k. codes "faults " ++ decimal k) single ∙ ap (λ d. codes "faults " ++ d) (decimal_digit 1 (omega arith))) (tt, refl)
fault_count_on line n next goes is false one =
    led_to fault_count next (fault_lines n []) line (codes "faults" ++ codes " " ++ decimal n) (goes ∙ ap (λ b. cond b only_fault (fault_lines n [])) one) is (omega arith, sym (append-nil (before_place fault_count ++ count_line (codes "faults") n)))

-- the last line ends the report
all_said : (body : Body) (n : ℕ) (done : List Reason) → length done ≡ n → IsBody body n → before_place (reasons body n done) ++ ended (codes "end") ≡ whole_report (outcome_of body done)
all_said (plan_body xs) n done full fine =
    ap (λ k. (body_text (plan_body xs) ++ count_line (codes "reasons") k ++ numbered_lines reason_text 1 done) ++ codes "end\n") (sym full)
    ∙ regroup (body_text (plan_body xs)) (count_line (codes "reasons") (length done)) (numbered_lines reason_text 1 done) (codes "end\n")
all_said (fault_body xs) n done full fine =
    ap (λ k. (body_text (fault_body xs) ++ count_line (codes "reasons") k ++ numbered_lines reason_text 1 done) ++ codes "end\n") (sym full)
    ∙ regroup (body_text (fault_body xs)) (count_line (codes "reasons") (length done)) (numbered_lines reason_text 1 done) (codes "end\n")
all_said (early_body early) n [] full fine =
    ap (λ l. l ++ codes "end\n") (append-nil (body_text (early_body early) ++ count_line (codes "reasons") n))
    ∙ ap (λ d. (body_text (early_body early) ++ ended (codes "reasons" ++ codes " " ++ d)) ++ codes "end\n") (ap decimal fine ∙ decimal_digit 0 (omega arith))
    ∙ append_assoc (body_text (early_body early)) (codes "reasons 0\n") (codes "end\n")
all_said (early_body early) n (r ∷ done) full fine = absurd (omega (arith, full, fine))

at_count : (body : Body) (place : Place) → before_place place ≡ body_text body → (line : List ℕ) (next : Place) → IsBodyFree body → WantsCount body line next → LeadsOn place line next
at_count body place same line next free w =
    led_to place next (reasons body w.value []) line (codes "reasons" ++ codes " " ++ decimal w.value) w.goes w.is (
      (omega arith, body_free body w.value free),
      ap (λ l. l ++ count_line (codes "reasons") w.value) same ∙ sym (append-nil (body_text body ++ count_line (codes "reasons") w.value)),
    )

leads_on : (place : Place) (line : List ℕ) (next : Place) → IsReached place → Wants place line next → LeadsOn place line next
leads_on start line next reached w = led_to start next status line (codes "vcpkg-plan 1") w.goes w.is (tt, refl)
leads_on status line next reached w = status_on line w.value next w.goes w.is
leads_on item_count line next reached w =
    led_to item_count next (items w.value []) line (codes "plan" ++ codes " " ++ decimal w.value) w.goes w.is (omega arith, sym (append-nil (before_place item_count ++ count_line (codes "plan") w.value)))
leads_on fault_count line next reached w = fault_count_on line w.value next w.goes w.is (w.value == 1) refl
leads_on (items n done) line next reached w = elim (picked (nat_lt (length done) n) _ _ line next w) [
  | inl more ↦
      let wish = more.1 in
      led_to (items n done) next (items n (done ++ wish.value ∷ [])) line (decimal (length done + 1) ++ codes " " ++ item_text wish.value) wish.goes wish.is (
        more_fit done wish.value n ((tested (length done) n true more.0).0 refl),
        sym (numbered_next item_text (codes "vcpkg-plan 1\nstatus planned\n" ++ count_line (codes "plan") n) done wish.value),
      )
  | inr all ↦
      let full : length done ≡ n = (let past = (tested (length done) n false all.0).1 refl in omega (arith, past, reached)) in
      at_count (plan_body done) (items n done) (ap (λ k. codes "vcpkg-plan 1\nstatus planned\n" ++ count_line (codes "plan") k ++ numbered_lines item_text 1 done) (sym full)) line next tt all.1
]
leads_on only_fault line next reached w = only_on line w.value next w.goes w.is
leads_on (fault_lines n done) line next reached w = elim (picked (nat_lt (length done) n) _ _ line next w) [
  | inl more ↦
      let wish = more.1 in
      led_to (fault_lines n done) next (fault_lines n (done ++ wish.value ∷ [])) line (fault_line wish.value) wish.goes wish.is (
        more_fit done wish.value n ((tested (length done) n true more.0).0 refl),
        sym (each_next fault_line (codes "vcpkg-plan 1\nstatus refused\n" ++ count_line (codes "faults") n) done wish.value),
      )
  | inr all ↦
      let full : length done ≡ n = (let past = (tested (length done) n false all.0).1 refl in omega (arith, past, reached)) in
      at_count (fault_body done) (fault_lines n done) (ap (λ k. codes "vcpkg-plan 1\nstatus refused\n" ++ count_line (codes "faults") k ++ flat_map (λ f. ended (fault_line f)) done) (sym full)) line next tt all.1
]
leads_on (after_early early) line next reached w =
    led_to (after_early early) next (reasons (early_body early) 0 []) line (codes "reasons 0") w.goes w.is (
      (omega arith, refl),
      ap (λ d. body_text (early_body early) ++ ended (codes "reasons" ++ codes " " ++ d)) (sym (decimal_digit 0 (omega arith))) ∙ sym (append-nil (body_text (early_body early) ++ count_line (codes "reasons") 0)),
    )
leads_on (reasons body n done) line next reached w = elim (picked (nat_lt (length done) n) _ _ line next w) [
  | inl more ↦
      let wish = more.1 in
      led_to (reasons body n done) next (reasons body n (done ++ wish.value ∷ [])) line (decimal (length done + 1) ++ codes " " ++ reason_text wish.value) wish.goes wish.is (
        (more_fit done wish.value n ((tested (length done) n true more.0).0 refl), reached.1),
        sym (numbered_next reason_text (body_text body ++ count_line (codes "reasons") n) done wish.value),
      )
  | inr all ↦
      let wish = all.1 in
      let full : length done ≡ n = (let past = (tested (length done) n false all.0).1 refl in omega (arith, past, reached.0)) in
      led_to (reasons body n done) next (finished (outcome_of body done)) line (codes "end") wish.goes wish.is (tt, all_said body n done full reached.1)
]
leads_on (finished outcome) line next reached w = absurd w

pub goes_to : (place to : Place) (lines : List (List ℕ)) → IsReached place → Goes place lines to → before_place place ++ flat_map ended lines ≡ before_place to
goes_to place to [] reached goes = append-nil (before_place place) ∙ ap before_place goes
goes_to place to (line ∷ lines) reached goes =
    let one = leads_on place line goes.0 reached goes.1.0 in
    sym (append_assoc (before_place place) (ended line) (flat_map ended lines)) ∙ ap (λ l. l ++ flat_map ended lines) one.1 ∙ goes_to goes.0 to lines one.0 goes.1.1

pub written_again : (bytes : List ℕ) (outcome : Result Outcome Early) → IsRead bytes outcome → bytes ≡ whole_report outcome
written_again bytes outcome read = read.split ∙ goes_to start (finished outcome) read.lines tt read.goes
