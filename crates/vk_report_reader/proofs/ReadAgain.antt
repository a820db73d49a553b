-- The report of an outcome that can be shown leads to it.
use Rattle.std.proofs.Common.{◌≡◌, ◌≢◌, ◌++◌, ◌∷◌, ◌<◌, ◌≤◌, ◌+◌, ◌==◌, ◌^◌, cond, ℕ, false, List, [], length, length-append, inl, inr, refl, ap, sym, subst, append_assoc, arith, codes}
use Rattle.std.specs.Prelude.{nat_lt, decimal, Result, Ok, Err}
use Rattle.std.specs.List.{All}
use Rattle.std.proofs.lemmas.Bool.{lt-ltb, le-ltb}
use Rattle.std.proofs.lemmas.Bool.Decides.{nat_tests}
use Rattle.std.proofs.lemmas.List.{append-nil}
use Rattle.std.proofs.lemmas.List.Elements.{All-nil, All-head, All-tail}
use Rattle.vk_spec.specs.Earlies.{Early}
use Rattle.vk_resolution.specs.Faults.{Fault}
use Rattle.vk_resolution.specs.Planning.{Item}
use Rattle.vk_resolution.specs.Reasons.{Reason}
use Rattle.vk_resolution.specs.Outcomes.{Outcome, planned, refused}
use Rattle.vk_resolution.specs.Lines.{fault_line, item_text, reason_text}
use Rattle.vk_model.specs.Lines.{early_line}
use Rattle.vk_report.specs.Reports.{whole_report}
use Rattle.vk_report_reader.specs.Earlies.{IsRightEarly}
use Rattle.vk_report_reader.specs.Faults.{IsRightFault}
use Rattle.vk_report_reader.specs.Items.{IsRightItem}
use Rattle.vk_report_reader.specs.Reasons.{IsRightReason}
use Rattle.vk_forms.specs.Words.{Any}
use Rattle.vk_report_reader.specs.Places.{Body, Goes, IsRead, Place, Wants, WantsAs, WantsCount, after_early, early_body, fault_body, fault_count, fault_lines, finished, headed, item_count, items, numbered, only_fault, outcome_of, plan_body, reasons, start, status}
use Rattle.vk_report_reader.specs.Showable.{AreRight, IsShowable}
use Rattle.vk_report_reader.proofs.PlaceLemmas.{picks_one, picks_other}
use Rattle.vk_report_reader.proofs.WrittenAgain.{goes_to}

goes_then : (p q r : Place) (a b : List (List ℕ)) → Goes p a q → Goes q b r → Goes p (a ++ b) r
goes_then p q r [] b here more = subst (λ x. Goes x b r) (sym here) more
goes_then p q r (l ∷ a) b goes more = (goes.0, (goes.1.0, goes_then goes.0 q r a b goes.1.1 more))

goes_one : (p q r : Place) (line : List ℕ) (lines : List (List ℕ)) → Wants p line q → Goes q lines r → Goes p (line ∷ lines) r
goes_one p q r line lines wants goes = (q, (wants, goes))

-- ---- lines of a kind

lines_of : {X : Type 0} → (ℕ → X → List ℕ) → ℕ → List X → List (List ℕ)
lines_of text n [] = []
lines_of text n (x ∷ xs) = text n x ∷ lines_of text (n + 1) xs

all_go : {X : Type 0} (text : ℕ → X → List ℕ) (is_right : X → Type 0) (to : List X → Place) (n : ℕ)
    → ((done : List X) (x : X) → length done < n → is_right x → Wants (to done) (text (length done) x) (to (done ++ x ∷ [])))
    → (done xs : List X) → length done + length xs ≤ n → All is_right xs → Goes (to done) (lines_of text (length done) xs) (to (done ++ xs))
unfolding lines_of
all_go text is_right to n step done [] fit all = ap to (sym (append-nil done))
all_go text is_right to n step done (x ∷ xs) fit all =
    let count = length-append done (x ∷ []) in
    let more : length done + 1 ≡ length (done ++ x ∷ []) = omega (arith, count) in
    let later = all_go text is_right to n step (done ++ x ∷ []) xs (omega (arith, count, fit)) (All-tail is_right x xs all) in
    let here : Goes (to (done ++ x ∷ [])) (lines_of text (length done + 1) xs) (to ((done ++ x ∷ []) ++ xs)) = subst (λ k. Goes (to (done ++ x ∷ [])) (lines_of text k xs) (to ((done ++ x ∷ []) ++ xs))) (sym more) later in
    (to (done ++ x ∷ []), (step done x (omega (arith, fit)) (All-head is_right x xs all), subst (λ l. Goes (to (done ++ x ∷ [])) (lines_of text (length done + 1) xs) (to l)) (append_assoc done (x ∷ []) xs) here))

abbrev numbered_text : {X : Type 0} → (X → List ℕ) → ℕ → X → List ℕ
numbered_text text n x = headed (decimal (n + 1)) text x

item_step : (n : ℕ) (done : List Item) (x : Item) → length done < n → IsRightItem x → Wants (items n done) (numbered_text item_text (length done) x) (items n (done ++ x ∷ []))
item_step n done x more right =
    picks_one (nat_lt (length done) n) (WantsAs (numbered done item_text) IsRightItem (λ y. items n (done ++ y ∷ []))) (WantsCount (plan_body done)) _ _ (lt-ltb (length done) n more)
    record { value = x; right = right; is = refl; goes = refl }

fault_step : (n : ℕ) (done : List Fault) (x : Fault) → length done < n → IsRightFault x → Wants (fault_lines n done) (fault_line x) (fault_lines n (done ++ x ∷ []))
fault_step n done x more right =
    picks_one (nat_lt (length done) n) (WantsAs fault_line IsRightFault (λ y. fault_lines n (done ++ y ∷ []))) (WantsCount (fault_body done)) _ _ (lt-ltb (length done) n more)
    record { value = x; right = right; is = refl; goes = refl }

abbrev AtEnd : Body → List Reason → List ℕ → Place → Type 0
AtEnd body done = WantsAs (λ u. codes "end") Any (λ u. finished (outcome_of body done))

reason_step : (body : Body) (n : ℕ) (done : List Reason) (x : Reason) → length done < n → IsRightReason x → Wants (reasons body n done) (numbered_text reason_text (length done) x) (reasons body n (done ++ x ∷ []))
reason_step body n done x more right =
    picks_one (nat_lt (length done) n) (WantsAs (numbered done reason_text) IsRightReason (λ y. reasons body n (done ++ y ∷ []))) (AtEnd body done) _ _ (lt-ltb (length done) n more)
    record { value = x; right = right; is = refl; goes = refl }

-- ---- the reasons, after the body

abbrev ends_with : List Reason → List (List ℕ)
ends_with rs = lines_of (numbered_text reason_text) 0 rs ++ codes "end" ∷ []

reasons_go : (body : Body) (rs : List Reason) → All IsRightReason rs → Goes (reasons body (length rs) []) (ends_with rs) (finished (outcome_of body rs))
reasons_go body rs all =
    goes_then (reasons body (length rs) []) (reasons body (length rs) rs) (finished (outcome_of body rs)) (lines_of (numbered_text reason_text) 0 rs) (codes "end" ∷ [])
    (all_go (numbered_text reason_text) IsRightReason (reasons body (length rs)) (length rs) (reason_step body (length rs)) [] rs (omega arith) all) (
      finished (outcome_of body rs),
      (
        picks_other (nat_lt (length rs) (length rs)) (WantsAs (numbered rs reason_text) IsRightReason (λ y. reasons body (length rs) (rs ++ y ∷ []))) (AtEnd body rs) _ _ (le-ltb (length rs) (length rs) (omega arith))
            record { value = tt; right = tt; is = refl; goes = refl },
        refl,
      ),
    )

abbrev counts : List Reason → List ℕ
counts rs = headed (codes "reasons") decimal (length rs)

after_items : (xs : List Item) (rs : List Reason) → length rs < 2 ^ 32 → Wants (items (length xs) xs) (counts rs) (reasons (plan_body xs) (length rs) [])
after_items xs rs small =
    picks_other (nat_lt (length xs) (length xs)) (WantsAs (numbered xs item_text) IsRightItem (λ y. items (length xs) (xs ++ y ∷ []))) (WantsCount (plan_body xs)) _ _ (le-ltb (length xs) (length xs) (omega arith))
    record { value = length rs; right = small; is = refl; goes = refl }

after_faults : (xs : List Fault) (rs : List Reason) → length rs < 2 ^ 32 → Wants (fault_lines (length xs) xs) (counts rs) (reasons (fault_body xs) (length rs) [])
after_faults xs rs small =
    picks_other (nat_lt (length xs) (length xs)) (WantsAs fault_line IsRightFault (λ y. fault_lines (length xs) (xs ++ y ∷ []))) (WantsCount (fault_body xs)) _ _ (le-ltb (length xs) (length xs) (omega arith))
    record { value = length rs; right = small; is = refl; goes = refl }

planned_go : (xs : List Item) (rs : List Reason) → IsShowable (Ok (planned xs rs)) → (lines : List (List ℕ)) × Goes start lines (finished (Ok (planned xs rs)))
planned_go xs rs right = (
  codes "vcpkg-plan 1" ∷ codes "status planned" ∷ headed (codes "plan") decimal (length xs) ∷ (lines_of (numbered_text item_text) 0 xs ++ counts rs ∷ ends_with rs),
  (
    status,
    (
      record { value = tt; right = tt; is = refl; goes = refl },
      (
        item_count,
        (
          record { value = inl tt; right = tt; is = refl; goes = refl },
          (
            items (length xs) [],
            (
              record { value = length xs; right = right.0.1; is = refl; goes = refl },
              goes_then (items (length xs) []) (items (length xs) xs) (finished (Ok (planned xs rs))) (lines_of (numbered_text item_text) 0 xs) (counts rs ∷ ends_with rs)
                  (all_go (numbered_text item_text) IsRightItem (items (length xs)) (length xs) (item_step (length xs)) [] xs (omega arith) right.0.0)
                  (reasons (plan_body xs) (length rs) [], (after_items xs rs right.1.1, reasons_go (plan_body xs) rs right.1.0)),
            ),
          ),
        ),
      ),
    ),
  ),
)

-- fault lines after how many they are
faults_go : (xs : List Fault) → xs ≢ [] → AreRight IsRightFault xs → (lines : List (List ℕ)) × Goes fault_count lines (fault_lines (length xs) xs)
faults_go [] some right = absurd (some refl)
faults_go (x ∷ []) some right = (
  headed (codes "faults") decimal 1 ∷ fault_line x ∷ [],
  (only_fault, (record { value = 1; right = (omega arith, omega arith); is = refl; goes = refl }, (fault_lines 1 (x ∷ []), (record { value = inl x; right = All-head IsRightFault x [] right.0; is = refl; goes = refl }, refl)))),
)
faults_go (x ∷ y ∷ xs) some right =
    let n = length (x ∷ y ∷ xs) in
    let two : (n == 1) ≡ false = grind (arith, nat_tests) in (
      headed (codes "faults") decimal n ∷ lines_of (λ k. fault_line) 0 (x ∷ y ∷ xs),
      (
        fault_lines n [],
        (
          record { value = n; right = (omega arith, right.1); is = refl; goes = sym (ap (λ b. cond b only_fault (fault_lines n [])) two) },
          all_go (λ k. fault_line) IsRightFault (fault_lines n) n (fault_step n) [] (x ∷ y ∷ xs) (omega arith) right.0,
        ),
      ),
    )

refused_go : (xs : List Fault) (rs : List Reason) → IsShowable (Ok (refused xs rs)) → (lines : List (List ℕ)) × Goes start lines (finished (Ok (refused xs rs)))
refused_go xs rs right =
    let faults = faults_go xs right.0 right.1 in (
      codes "vcpkg-plan 1" ∷ codes "status refused" ∷ (faults.0 ++ counts rs ∷ ends_with rs),
      (
        status,
        (
          record { value = tt; right = tt; is = refl; goes = refl },
          (
            fault_count,
            (
              record { value = inr tt; right = tt; is = refl; goes = refl },
              goes_then fault_count (fault_lines (length xs) xs) (finished (Ok (refused xs rs))) faults.0 (counts rs ∷ ends_with rs) faults.1
                  (reasons (fault_body xs) (length rs) [], (after_faults xs rs right.2.1, reasons_go (fault_body xs) rs right.2.0)),
            ),
          ),
        ),
      ),
    )

early_go : (early : Early) → IsRightEarly early → (lines : List (List ℕ)) × Goes start lines (finished (Err early))
early_go early right = (
  codes "vcpkg-plan 1" ∷ codes "status refused" ∷ headed (codes "faults") decimal 1 ∷ early_line early ∷ codes "reasons 0" ∷ ends_with [],
  (
    status,
    (
      record { value = tt; right = tt; is = refl; goes = refl },
      (
        fault_count,
        (
          record { value = inr tt; right = tt; is = refl; goes = refl },
          (
            only_fault,
            (
              record { value = 1; right = (omega arith, omega arith); is = refl; goes = refl },
              (
                after_early early,
                (
                  record { value = inr early; right = right; is = refl; goes = refl },
                  (reasons (early_body early) 0 [], (record { value = tt; right = tt; is = refl; goes = refl }, reasons_go (early_body early) [] (All-nil IsRightReason))),
                ),
              ),
            ),
          ),
        ),
      ),
    ),
  ),
)

shown_go : (outcome : Result Outcome Early) → IsShowable outcome → (lines : List (List ℕ)) × Goes start lines (finished outcome)
shown_go (Ok (planned xs rs)) right = planned_go xs rs right
shown_go (Ok (refused xs rs)) right = refused_go xs rs right
shown_go (Err early) right = early_go early right

pub read_again : (outcome : Result Outcome Early) → IsShowable outcome → IsRead (whole_report outcome) outcome
read_again outcome right =
    let go = shown_go outcome right in
    record { lines = go.0; split = sym (goes_to start (finished outcome) go.0 tt go.1); goes = go.1 }
