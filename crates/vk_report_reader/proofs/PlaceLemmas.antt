-- What is read of a line is what its place wants.
use Rattle.std.proofs.Common.{◌≡◌, ◌++◌, ◌∷◌, ◌<◌, ◌≤◌, ◌+◌, ℕ, Bool, true, false, List, [], length, map, ap, sym, ◌∙◌, subst, arith, codes}
use Rattle.std.specs.Prelude.{Option, Some, None, MatchOption, option_map, nat_lt, decimal}
use Rattle.std.proofs.lemmas.Bool.{lt-ltb, le-ltb}
use Rattle.std.proofs.lemmas.Fmt.{decimal_injective}
use Rattle.std.proofs.lemmas.List.{append_cancel_left, length-map, map-append}
use Rattle.vk_base.specs.Paths.{Lacks}
use Rattle.vk_forms.specs.Lines.{IsLine}
use Rattle.vk_forms.specs.Forms.{ReadsAs, pair_text, IsRightPair}
use Rattle.vk_forms.specs.Words.{Any}
use Rattle.vk_report_reader.specs.Places.{Advances, AdvancesBy, Body, CountsReasons, Place, Wants, WantsAs, WantsCount, after_fault_count, fault_count, headed, numbered, pick}
use Rattle.vk_report_reader.proofs.Spaced.{spaced2}

module _ {X : Type 0} (prints : X → List ℕ) (is_right : X → Type 0) (line : List ℕ) where
  pub wants_some : (to : X → Place) (x : X) (next : Place) → ReadsAs prints is_right line (Some x) → next ≡ to x → WantsAs prints is_right to line next
  wants_some to x next read goes = record { value = x; right = read.1; is = read.0; goes = goes }

  pub wants_none : (to : X → Place) → ReadsAs prints is_right line None → (next : Place) → WantsAs prints is_right to line next → ⊥
  wants_none to none next w = none w.value w.right w.is

  -- a word in front of the value
  pub headed_some : (head : List ℕ) (p : Unit {0} × X) → ReadsAs (pair_text 32 (λ u. head) prints) (IsRightPair 32 (λ u. head) Any is_right) line (Some p) → ReadsAs (headed head prints) is_right line (Some p.1)
  headed_some head p read = (read.0 ∙ sym (spaced2 head (prints p.1)), read.1.2)

  pub headed_none : (head : List ℕ) → Lacks 32 head → ReadsAs (pair_text 32 (λ u. head) prints) (IsRightPair 32 (λ u. head) Any is_right) line None → ReadsAs (headed head prints) is_right line None
  headed_none head lacks none = λ x right e. none (tt, x) (tt, lacks, right) (e ∙ spaced2 head (prints x))

-- ---- how many there are to be

pub fault_count_none : (line : List ℕ) → ReadsAs (headed (codes "faults") decimal) IsLine line None → (next : Place) → Wants fault_count line next → ⊥
fault_count_none line none next w = none w.value w.right.1 w.is

no_faults : (line : List ℕ) (n : ℕ) → ReadsAs (headed (codes "faults") decimal) IsLine line (Some n) → n ≡ 0 → (next : Place) → Wants fault_count line next → ⊥
no_faults line n read zero next w =
    let same = append_cancel_left (codes "faults ") (decimal n) (decimal w.value) (sym read.0 ∙ w.is) in
    let equal = decimal_injective n w.value (omega (arith, read.1)) (omega (arith, w.right.1)) same in
    let some = w.right.0 in
    absurd (omega (arith, equal, some, zero))

pub fault_count_some : {P : Type 0} (view : P → Place) (line : List ℕ) (n : ℕ) → ReadsAs (headed (codes "faults") decimal) IsLine line (Some n)
    → (next : Option P) → MatchOption next (n ≡ 0) (λ p. (0 < n) × (view p ≡ after_fault_count n)) → Advances fault_count line (option_map view next)
fault_count_some view line n read None zero = no_faults line n read zero
fault_count_some view line n read (Some p) is = record { value = n; right = (is.0, read.1); is = read.0; goes = is.1 }

-- ---- one line more, or the next kind

pub more_true : {X Y : Type 0} (view : X → Y) (done : List X) (n : ℕ) → length done < n → nat_lt (length (map view done)) n ≡ true
more_true view done n more = let count = length-map done view in lt-ltb (length (map view done)) n (omega (arith, count, more))

pub more_false : {X Y : Type 0} (view : X → Y) (done : List X) (n : ℕ) → n ≤ length done → nat_lt (length (map view done)) n ≡ false
more_false view done n past = let count = length-map done view in le-ltb (length (map view done)) n (omega (arith, count, past))

pub picks_one : (test : Bool) (one other : List ℕ → Place → Type 0) (line : List ℕ) (next : Place) → test ≡ true → one line next → pick test one other line next
picks_one test one other line next e w = subst (λ b. pick b one other line next) (sym e) w

pub picked_one : (test : Bool) (one other : List ℕ → Place → Type 0) (line : List ℕ) (next : Place) → test ≡ true → pick test one other line next → one line next
picked_one test one other line next e w = subst (λ b. pick b one other line next) e w

pub picks_other : (test : Bool) (one other : List ℕ → Place → Type 0) (line : List ℕ) (next : Place) → test ≡ false → other line next → pick test one other line next
picks_other test one other line next e w = subst (λ b. pick b one other line next) (sym e) w

pub picked_other : (test : Bool) (one other : List ℕ → Place → Type 0) (line : List ℕ) (next : Place) → test ≡ false → pick test one other line next → other line next
picked_other test one other line next e w = subst (λ b. pick b one other line next) e w

-- a value more of those that stand numbered
pub numbered_more : {X Y : Type 0} (view : X → Y) (prints : Y → List ℕ) (is_right : Y → Type 0) (to : Y → Place) (other : List ℕ → Place → Type 0) (done : List X) (n number : ℕ) (line : List ℕ) (x : Y) (next : Place)
    → length done < n → number ≡ length done + 1 → ReadsAs (headed (decimal number) prints) is_right line (Some x) → next ≡ to x
    → pick (nat_lt (length (map view done)) n) (WantsAs (numbered (map view done) prints) is_right to) other line next
numbered_more view prints is_right to other done n number line x next more is read goes =
    let count : number ≡ length (map view done) + 1 = is ∙ ap (λ k. k + 1) (sym (length-map done view)) in
    picks_one _ (WantsAs (numbered (map view done) prints) is_right to) other line next (more_true view done n more)
    (wants_some (numbered (map view done) prints) is_right line to x next (subst (λ k. ReadsAs (headed (decimal k) prints) is_right line (Some x)) count read) goes)

pub numbered_none : {X Y : Type 0} (view : X → Y) (prints : Y → List ℕ) (is_right : Y → Type 0) (to : Y → Place) (other : List ℕ → Place → Type 0) (done : List X) (n number : ℕ) (line : List ℕ)
    → length done < n → number ≡ length done + 1 → ReadsAs (headed (decimal number) prints) is_right line None
    → (next : Place) → pick (nat_lt (length (map view done)) n) (WantsAs (numbered (map view done) prints) is_right to) other line next → ⊥
numbered_none view prints is_right to other done n number line more is none next w =
    let count : number ≡ length (map view done) + 1 = is ∙ ap (λ k. k + 1) (sym (length-map done view)) in
    let wish = picked_one _ (WantsAs (numbered (map view done) prints) is_right to) other line next (more_true view done n more) w in
    subst (λ k. ReadsAs (headed (decimal k) prints) is_right line None) count none wish.value wish.right wish.is

-- where all stand, the reasons are counted
pub counts_on : (test : Bool) (one : List ℕ → Place → Type 0) (body : Body) (line : List ℕ) (next : Option Place) → test ≡ false → CountsReasons body line next → AdvancesBy (pick test one (WantsCount body)) line next
counts_on test one body line (Some next) e w = picks_other test one (WantsCount body) line next e w
counts_on test one body line None e none = λ next w. none next (picked_other test one (WantsCount body) line next e w)

-- one more is put at the end
pub put_more : {X Y : Type 0} (view : X → Y) (to : List Y → Place) (before now : List X) (x : X) → now ≡ before ++ x ∷ [] → to (map view now) ≡ to (map view before ++ view x ∷ [])
put_more view to before now x put = ap to (ap (map view) put ∙ map-append view before (x ∷ []))
