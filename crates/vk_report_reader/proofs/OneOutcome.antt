-- A report leads one way, and to one outcome.
use Rattle.std.proofs.Common.{◌≡◌, ◌≢◌, ◌==◌, ◌⊎◌, ◌<◌, ◌+◌, ◌++◌, ◌∷◌, ℕ, Bool, true, false, List, [], length, inl, inr, refl, ap, sym, ◌∙◌, subst, append_assoc, codes, arith}
use Rattle.std.specs.Prelude.{flat_map, nat_lt, decimal, Result, Ok, Err, if◌then◌else◌}
use Rattle.std.specs.List.{All}
use Rattle.std.specs.Str.{bytes_eq}
use Rattle.std.proofs.lemmas.Bool.{ltb-true}
use Rattle.std.proofs.lemmas.List.{append_cancel_left}
use Rattle.std.proofs.lemmas.List.Elements.{All-weaker}
use Rattle.std.proofs.lemmas.Str.{IsUtf8-from_ascii}
use Rattle.std.proofs.lemmas.Str.Ascii.{IsAscii-from_all}
use Rattle.vk_spec.specs.Earlies.{Early}
use Rattle.vk_resolution.specs.Faults.{Fault}
use Rattle.vk_resolution.specs.Outcomes.{Outcome}
use Rattle.vk_resolution.specs.Lines.{ended, fault_line, item_text, reason_text}
use Rattle.vk_model.specs.Lines.{early_line}
use Rattle.vk_base.specs.declared.stops.Unread.TheVariants as unread
use Rattle.vk_model.specs.FaultViews.{outcome_view}
use Rattle.vk_report.specs.Reports.{whole_report}
use Rattle.vk_report_reader.specs.Cuts.{Ends, IsOutcome, Reading}
use Rattle.vk_report_reader.specs.PlaceViews.{line_in}
use Rattle.vk_report_reader.specs.Showable.{IsShowable}
use Rattle.vk_forms.specs.Lines.{IsLine}
use Rattle.vk_forms.specs.Choices.{either_text, IsRightEither}
use Rattle.vk_report_reader.specs.Earlies.{IsRightEarly}
use Rattle.vk_report_reader.specs.Faults.{IsRightFault}
use Rattle.vk_forms.specs.Forms.{TellsApart}
use Rattle.vk_report_reader.specs.Items.{IsRightItem}
use Rattle.vk_forms.specs.Words.{Any}
use Rattle.vk_forms.specs.Lines.{IsLineText}
use Rattle.vk_report_reader.specs.Places.{Body, Goes, IsRead, IsRefusedAt, Place, Wants, WantsAs, WantsCount, after_early, after_fault_count, after_only, after_status, fault_body, fault_count, fault_lines, finished, headed, item_count, items, numbered, only_fault, outcome_of, pick, plan_body, reasons, start, status}
use Rattle.vk_report_reader.specs.Reasons.{IsRightReason}
use Rattle.vk_forms.proofs.Apart.{AreOthers, either_apart, number_apart, word_apart}
use Rattle.vk_report_reader.proofs.ApartLines.{early_apart, fault_apart, fault_or_early, item_apart, reason_apart}
use Rattle.vk_forms.proofs.Heads.{same_bytes}
use Rattle.vk_forms.proofs.PairForms.{same_pair}
use Rattle.vk_report_reader.proofs.ReadAgain.{read_again}
use Rattle.vk_forms.proofs.LineLemmas.{ended_line}
use Rattle.vk_report_reader.proofs.Spaced.{spaced2}
use Rattle.vk_forms.proofs.Shown.{AreShown, IsShown, are_shown, either_shown, number, shown_by, spaced_shown}
use Rattle.vk_report_reader.proofs.Shown.{early_shown, fault_shown, item_shown, reason_shown}

-- ---- one line leads to one place

module _ {X : Type 0} (prints : X → List ℕ) (is_right : X → Type 0) (to : X → Place) (line : List ℕ) where
  wants_one : TellsApart prints is_right → (a b : Place) → WantsAs prints is_right to line a → WantsAs prints is_right to line b → a ≡ b
  wants_one apart a b w v = w.goes ∙ ap to (apart w.value v.value w.right v.right (sym w.is ∙ v.is)) ∙ sym v.goes

  wants_shown : AreShown prints is_right → (a : Place) → WantsAs prints is_right to line a → All IsShown line
  wants_shown shown a w = subst (All IsShown) (sym w.is) (shown w.value w.right)

headed_apart : {X : Type 0} (head : List ℕ) (prints : X → List ℕ) (is_right : X → Type 0) → TellsApart prints is_right → TellsApart (headed head prints) is_right
headed_apart head prints is_right apart x y left right e = apart x y left right (append_cancel_left (head ++ codes " ") (prints x) (prints y) e)

pick_one : (test : Bool) (one other : List ℕ → Place → Type 0) (line : List ℕ) → ((a b : Place) → one line a → one line b → a ≡ b) → ((a b : Place) → other line a → other line b → a ≡ b)
    → (a b : Place) → pick test one other line a → pick test one other line b → a ≡ b
pick_one true one other line first second = first
pick_one false one other line first second = second

two_words : (w v : List ℕ) → bytes_eq w v ≡ false → AreOthers (λ u. w) Any (λ u. v) Any
two_words w v differ one other left right e = let same = same_bytes w v e in (cc)

some_apart : TellsApart decimal (λ n. (0 < n) × IsLine n)
some_apart x y left right e = number_apart x y left.1 right.1 e

count_one : (body : Body) (line : List ℕ) (a b : Place) → WantsCount body line a → WantsCount body line b → a ≡ b
count_one body line = wants_one (headed (codes "reasons") decimal) IsLine (λ n. reasons body n []) line (headed_apart (codes "reasons") decimal IsLine number_apart)

one_next : (place : Place) (line : List ℕ) (a b : Place) → Wants place line a → Wants place line b → a ≡ b
one_next start line a b w v = wants_one (λ u. codes "vcpkg-plan 1") Any (λ u. status) line (word_apart (codes "vcpkg-plan 1")) a b w v
one_next status line a b w v =
    wants_one (either_text (λ u. codes "status planned") (λ u. codes "status refused")) (IsRightEither Any Any) _ line
    (either_apart (λ u. codes "status planned") (λ u. codes "status refused") Any Any (word_apart (codes "status planned")) (word_apart (codes "status refused")) (two_words (codes "status planned") (codes "status refused") refl))
    a b w v
one_next item_count line a b w v = wants_one (headed (codes "plan") decimal) IsLine (λ n. items n []) line (headed_apart (codes "plan") decimal IsLine number_apart) a b w v
one_next fault_count line a b w v = wants_one (headed (codes "faults") decimal) (λ n. (0 < n) × IsLine n) _ line (headed_apart (codes "faults") decimal (λ n. (0 < n) × IsLine n) some_apart) a b w v
one_next (items n done) line a b w v =
    pick_one (nat_lt (length done) n) _ (WantsCount (plan_body done)) line
    (wants_one (numbered done item_text) IsRightItem (λ x. items n (done ++ x ∷ [])) line (headed_apart (decimal (length done + 1)) item_text IsRightItem item_apart))
    (count_one (plan_body done) line) a b w v
one_next only_fault line a b w v =
    wants_one (either_text fault_line early_line) (IsRightEither IsRightFault IsRightEarly) _ line
    (either_apart fault_line early_line IsRightFault IsRightEarly fault_apart early_apart fault_or_early) a b w v
one_next (fault_lines n done) line a b w v =
    pick_one (nat_lt (length done) n) _ (WantsCount (fault_body done)) line
    (wants_one fault_line IsRightFault (λ x. fault_lines n (done ++ x ∷ [])) line fault_apart)
    (count_one (fault_body done) line) a b w v
one_next (after_early early) line a b w v = wants_one (λ u. codes "reasons 0") Any _ line (word_apart (codes "reasons 0")) a b w v
one_next (reasons body n done) line a b w v =
    pick_one (nat_lt (length done) n) _ _ line
    (wants_one (numbered done reason_text) IsRightReason (λ x. reasons body n (done ++ x ∷ [])) line (headed_apart (decimal (length done + 1)) reason_text IsRightReason reason_apart))
    (wants_one (λ u. codes "end") Any (λ u. finished (outcome_of body done)) line (word_apart (codes "end"))) a b w v
one_next (finished outcome) line a b w v = absurd w

-- ---- a wanted line is a text without a line feed

-- so many lines as are to come have numbers of 32 bits
abbrev IsSmall : Place → Type 0
IsSmall (items n done) = IsLine n
IsSmall (reasons body n done) = IsLine n
IsSmall start = Unit {0}
IsSmall status = Unit {0}
IsSmall item_count = Unit {0}
IsSmall fault_count = Unit {0}
IsSmall only_fault = Unit {0}
IsSmall (fault_lines n done) = Unit {0}
IsSmall (after_early early) = Unit {0}
IsSmall (finished outcome) = Unit {0}

pick_each : (test : Bool) (one other : List ℕ → Place → Type 0) (line : List ℕ) (next : Place) (P : Type 0) → (test ≡ true → one line next → P) → (other line next → P) → pick test one other line next → P
pick_each true one other line next P first second = first refl
pick_each false one other line next P first second = second

sentence : (text : List ℕ) → are_shown text ≡ true → AreShown (λ u. text) Any
sentence text shown u right = shown_by text shown

headed_shown : {X : Type 0} (head : List ℕ) (prints : X → List ℕ) (is_right : X → Type 0) → All IsShown head → AreShown prints is_right → AreShown (headed head prints) is_right
headed_shown head prints is_right first second x right = subst (All IsShown) (sym (spaced2 head (prints x))) (spaced_shown head (prints x) first (second x right))

count_shown : (body : Body) (line : List ℕ) (next : Place) → WantsCount body line next → All IsShown line
count_shown body line = wants_shown (headed (codes "reasons") decimal) IsLine (λ n. reasons body n []) line (headed_shown (codes "reasons") decimal IsLine (shown_by (codes "reasons") refl) number)

place_number : (done n : ℕ) → IsLine n → nat_lt done n ≡ true → All IsShown (decimal (done + 1))
place_number done n small more = number (done + 1) (let less = ltb-true done n more in omega (arith, small, less))

wanted_shown : (place : Place) (line : List ℕ) (next : Place) → IsSmall place → Wants place line next → All IsShown line
wanted_shown start line next small w = wants_shown (λ u. codes "vcpkg-plan 1") Any (λ u. status) line (sentence (codes "vcpkg-plan 1") refl) next w
wanted_shown status line next small w =
    wants_shown (either_text (λ u. codes "status planned") (λ u. codes "status refused")) (IsRightEither Any Any) _ line
    (either_shown (λ u. codes "status planned") (λ u. codes "status refused") Any Any (sentence (codes "status planned") refl) (sentence (codes "status refused") refl)) next w
wanted_shown item_count line next small w = wants_shown (headed (codes "plan") decimal) IsLine (λ n. items n []) line (headed_shown (codes "plan") decimal IsLine (shown_by (codes "plan") refl) number) next w
wanted_shown fault_count line next small w =
    wants_shown (headed (codes "faults") decimal) (λ n. (0 < n) × IsLine n) _ line
    (headed_shown (codes "faults") decimal (λ n. (0 < n) × IsLine n) (shown_by (codes "faults") refl) (λ n right. number n right.1)) next w
wanted_shown (items n done) line next small w =
    pick_each (nat_lt (length done) n) _ (WantsCount (plan_body done)) line next (All IsShown line)
    (λ more. wants_shown (numbered done item_text) IsRightItem (λ x. items n (done ++ x ∷ [])) line (headed_shown (decimal (length done + 1)) item_text IsRightItem (place_number (length done) n small more) item_shown) next)
    (count_shown (plan_body done) line next) w
wanted_shown only_fault line next small w =
    wants_shown (either_text fault_line early_line) (IsRightEither IsRightFault IsRightEarly) _ line (either_shown fault_line early_line IsRightFault IsRightEarly fault_shown early_shown) next w
wanted_shown (fault_lines n done) line next small w =
    pick_each (nat_lt (length done) n) _ (WantsCount (fault_body done)) line next (All IsShown line)
    (λ more. wants_shown fault_line IsRightFault (λ x. fault_lines n (done ++ x ∷ [])) line fault_shown next)
    (count_shown (fault_body done) line next) w
wanted_shown (after_early early) line next small w = wants_shown (λ u. codes "reasons 0") Any _ line (sentence (codes "reasons 0") refl) next w
wanted_shown (reasons body n done) line next small w =
    pick_each (nat_lt (length done) n) _ _ line next (All IsShown line)
    (λ more. wants_shown (numbered done reason_text) IsRightReason (λ x. reasons body n (done ++ x ∷ [])) line (headed_shown (decimal (length done + 1)) reason_text IsRightReason (place_number (length done) n small more) reason_shown) next)
    (wants_shown (λ u. codes "end") Any (λ u. finished (outcome_of body done)) line (sentence (codes "end") refl) next) w
wanted_shown (finished outcome) line next small w = absurd w

count_small : (body : Body) (line : List ℕ) (next : Place) → WantsCount body line next → IsSmall next
count_small body line next w = subst IsSmall (sym w.goes) w.right

-- the places that follow are small too
after_counts_small : (n : ℕ) → IsSmall (after_fault_count n)
after_counts_small n = by (n == 1)
  where
    by : (test : Bool) → IsSmall (if test then only_fault else fault_lines n [])
    by true = tt
    by false = tt

after_status_small : (x : Unit {0} ⊎ Unit {0}) → IsSmall (after_status x)
after_status_small (inl u) = tt
after_status_small (inr u) = tt

after_only_small : (x : Fault ⊎ Early) → IsSmall (after_only x)
after_only_small (inl x) = tt
after_only_small (inr x) = tt

next_small : (place : Place) (line : List ℕ) (next : Place) → IsSmall place → Wants place line next → IsSmall next
next_small start line next small w = subst IsSmall (sym w.goes) tt
next_small status line next small w = subst IsSmall (sym w.goes) (after_status_small w.value)
next_small item_count line next small w = subst IsSmall (sym w.goes) w.right
next_small fault_count line next small w = subst IsSmall (sym w.goes) (after_counts_small w.value)
next_small (items n done) line next small w =
    pick_each (nat_lt (length done) n) (WantsAs (numbered done item_text) IsRightItem (λ x. items n (done ++ x ∷ []))) (WantsCount (plan_body done)) line next (IsSmall next)
    (λ more v. subst IsSmall (sym v.goes) small) (count_small (plan_body done) line next) w
next_small only_fault line next small w = subst IsSmall (sym w.goes) (after_only_small w.value)
next_small (fault_lines n done) line next small w =
    pick_each (nat_lt (length done) n) (WantsAs fault_line IsRightFault (λ x. fault_lines n (done ++ x ∷ []))) (WantsCount (fault_body done)) line next (IsSmall next)
    (λ more v. subst IsSmall (sym v.goes) tt) (count_small (fault_body done) line next) w
next_small (after_early early) line next small w = subst IsSmall (sym w.goes) zero_small
  where
    zero_small : IsLine 0
    zero_small = omega arith
next_small (reasons body n done) line next small w =
    pick_each (nat_lt (length done) n) (WantsAs (numbered done reason_text) IsRightReason (λ x. reasons body n (done ++ x ∷ []))) (WantsAs (λ u. codes "end") Any (λ u. finished (outcome_of body done))) line next (IsSmall next)
    (λ more v. subst IsSmall (sym v.goes) small) (λ v. subst IsSmall (sym v.goes) tt) w
next_small (finished outcome) line next small w = absurd w

shown_line : (line : List ℕ) → All IsShown line → IsLineText line
shown_line line all = record {
  whole = All-weaker IsShown (λ c. c ≢ 10) (λ c shown e. absurd (omega (arith, e, shown.0))) line all;
  utf8 = IsUtf8-from_ascii line (IsAscii-from_all line (All-weaker IsShown (λ c. c < 128) (λ c shown. omega (arith, shown.1)) line all));
}

pub wanted_line : (place : Place) (line : List ℕ) (next : Place) → IsSmall place → Wants place line next → IsLineText line
wanted_line place line next small w = shown_line line (wanted_shown place line next small w)

-- ---- one way

first_line : (line other rest more : List ℕ) → IsLineText line → IsLineText other → ended line ++ rest ≡ ended other ++ more → (line ≡ other) × (rest ≡ more)
first_line line other rest more one two e = same_pair 10 line other rest more one.whole two.whole (sym (ended_line line rest) ∙ e ∙ ended_line other more)

finished_is : (outcome other : Result Outcome Early) → finished outcome ≡ finished other → outcome ≡ other
finished_is outcome other e = (cc)

no_more : (place : Place) (outcome : Result Outcome Early) (line : List ℕ) (next : Place) → place ≡ finished outcome → Wants place line next → ⊥
no_more place outcome line next is w = subst (λ p. Wants p line next) is w

one_way : (place : Place) (lines others : List (List ℕ)) (outcome other : Result Outcome Early) → IsSmall place → Goes place lines (finished outcome) → Goes place others (finished other)
    → flat_map ended lines ≡ flat_map ended others → outcome ≡ other
one_way place [] [] outcome other small goes also e = finished_is outcome other (sym goes ∙ also)
one_way place [] (m ∷ others) outcome other small goes also e = absurd (no_more place outcome m also.0 goes also.1.0)
one_way place (l ∷ lines) [] outcome other small goes also e = absurd (no_more place other l goes.0 also goes.1.0)
one_way place (l ∷ lines) (m ∷ others) outcome other small goes also e =
    let same = first_line l m (flat_map ended lines) (flat_map ended others) (wanted_line place l goes.0 small goes.1.0) (wanted_line place m also.0 small also.1.0) e in
    let next = one_next place l goes.0 also.0 goes.1.0 (subst (λ x. Wants place x also.0) (sym same.0) also.1.0) in
    one_way also.0 lines others outcome other (next_small place m also.0 small also.1.0) (subst (λ p. Goes p lines (finished outcome)) next goes.1.1) also.1.1 same.1

pub one_outcome : (bytes : List ℕ) (outcome other : Result Outcome Early) → IsRead bytes outcome → IsRead bytes other → outcome ≡ other
one_outcome bytes outcome other read also = one_way start read.lines also.lines outcome other tt read.goes also.goes (sym read.split ∙ also.split)

-- ---- and never refused

-- nothing that is wanted at the place follows
record IsStuck (place : Place) (left : List ℕ) : Type 0 where
  unwanted : (line more : List ℕ) (next : Place) → IsLineText line → left ≡ ended line ++ more → Wants place line next → ⊥
  unfinished : (outcome : Result Outcome Early) → place ≡ finished outcome → left ≢ []

not_stuck : (place at : Place) (lines others : List (List ℕ)) (left : List ℕ) (outcome : Result Outcome Early) → IsSmall place → Goes place lines (finished outcome) → Goes place others at
    → flat_map ended lines ≡ flat_map ended others ++ left → IsStuck at left → ⊥
not_stuck place at [] [] left outcome small goes also e stuck = stuck.unfinished outcome (sym also ∙ goes) (sym e)
not_stuck place at [] (m ∷ others) left outcome small goes also e stuck = no_more place outcome m also.0 goes also.1.0
not_stuck place at (l ∷ lines) [] left outcome small goes also e stuck = stuck.unwanted l (flat_map ended lines) goes.0 (wanted_line place l goes.0 small goes.1.0) (sym e) (subst (λ p. Wants p l goes.0) also goes.1.0)
not_stuck place at (l ∷ lines) (m ∷ others) left outcome small goes also e stuck =
    let same = first_line l m (flat_map ended lines) (flat_map ended others ++ left) (wanted_line place l goes.0 small goes.1.0) (wanted_line place m also.0 small also.1.0) (e ∙ append_assoc (ended m) (flat_map ended others) left) in
    let next = one_next place l goes.0 also.0 goes.1.0 (subst (λ x. Wants place x also.0) (sym same.0) also.1.0) in
    not_stuck also.0 at lines others left outcome (next_small place m also.0 small also.1.0) (subst (λ p. Goes p lines (finished outcome)) next goes.1.1) also.1.1 same.1 stuck

pub never_both : (bytes : List ℕ) (outcome : Result Outcome Early) (n : ℕ) → IsRead bytes outcome → IsRefusedAt bytes n → ⊥
never_both bytes outcome n read refused =
    not_stuck start refused.place read.lines refused.lines refused.left outcome tt read.goes refused.goes (sym read.split ∙ refused.split) record { unwanted = refused.unwanted; unfinished = refused.unfinished }

-- ---- so only its outcome is answered for a report

pub read_only_so : (outcome : Result Outcome Early) → IsShowable outcome → (answer : Reading) → Ends (whole_report outcome) answer → IsOutcome outcome answer
read_only_so outcome right (Ok read) ends = one_outcome (whole_report outcome) (outcome_view read) outcome ends (read_again outcome right)
read_only_so outcome right (Err (unread.Fault fault)) ends = never_both (whole_report outcome) outcome (line_in fault) (read_again outcome right) ends
read_only_so outcome right (Err (unread.Memory memory)) ends = tt
