-- One line more, where pages are told, and how many steps were taken.
use Rattle.std.proofs.Common.{◌≡◌, ◌≤◌, ◌<◌, ◌+◌, ℕ, zero, suc, Bool, true, false, List, [], ◌∷◌, ◌++◌, length, take, refl, ap, sym, ◌∙◌, subst, arith}
use Rattle.std.specs.Prelude.{Option, Some, None, IfSome, MatchBool, slice_get}
use Rattle.std.specs.List.{Contains}
use Rattle.std.proofs.lemmas.List.{take-append-drop}
use Rattle.std.proofs.lemmas.List.Elements.{Contains-append_left}
use Rattle.std.specs.Prelude.{drop}
use Rattle.vk_spec.specs.Lists.{NoRepeats, IsWithin}
use Rattle.vk_spec.specs.Settings.{Setting}
use Rattle.vk_resolution.specs.Givens.{Pages}
use Rattle.vk_resolution.specs.Asking as plain
use Rattle.vk_resolution.specs.Closing.{Produces}
use Rattle.vk_resolution.specs.Planner.{inputs_of}
use Rattle.vk_resolution.specs.Reasons.{Reason, facts_of}
use Rattle.vk_worklist.specs.Alone.{Follows}
use Rattle.vk_worklist.specs.Entries.{AreRoots}
use Rattle.vk_worklist.specs.Ticks.{tick_of, ticks}
use Rattle.vk_check.specs.Claims.{IsOnLine}
use Rattle.vk_check.specs.Certificates.{IsCertificate}
use Rattle.vk_check.specs.Certifying.{IsMarked, MarksMore, IsCertified}
use Rattle.vk_check.proofs.CertifyLemmas.{next_fact, certified_first, no_roots, not_marked, marked_follows, not_closed, certified_more, certified_last}

-- ---- steps

ticks_more : (xs : List plain.Fact) (y : plain.Fact) → ticks (xs ++ y ∷ []) ≡ ticks xs + tick_of y
ticks_more [] y = omega arith
ticks_more (x ∷ xs) y = let rest : ticks (xs ++ y ∷ []) ≡ ticks xs + tick_of y = ticks_more xs y in omega (arith, rest)

ticks_take : (n : ℕ) (xs : List plain.Fact) → ticks (take n xs) ≤ ticks xs
ticks_take zero xs = omega arith
ticks_take (suc n) [] = omega arith
ticks_take (suc n) (x ∷ xs) = let rest : ticks (take n xs) ≤ ticks xs = ticks_take n xs in omega (arith, rest)

-- the line at hand takes its steps
pub line_ticks : (lines : List Reason) (n : ℕ) (x : plain.Fact) (old new : ℕ) → IsOnLine lines n x → new ≤ old + tick_of x → new + ticks (take n (facts_of lines)) ≤ old + ticks (take (n + 1) (facts_of lines))
line_ticks lines n x old new is ticked =
    let more : ticks (take (n + 1) (facts_of lines)) ≡ ticks (take n (facts_of lines)) + tick_of is.reason.fact = ap ticks (next_fact lines n is.reason is.at) ∙ ticks_more (take n (facts_of lines)) is.reason.fact in
    let same = ap tick_of is.fact in
    omega (arith, more, same, ticked)

-- and those up to a line are no more than those of all
pub ticks_all : (facts : List plain.Fact) (n old now : ℕ) → now ≤ old + ticks (take n facts) → now ≤ old + ticks facts
ticks_all facts n old now few = let all = ticks_take n facts in omega (arith, few, all)

pub ticks_later : (facts : List plain.Fact) (n old now after : ℕ) → now ≤ old + ticks (take n facts) → after + ticks (take n facts) ≤ now + ticks (take (n + 1) facts) → after ≤ old + ticks facts
ticks_later facts n old now after before more = let all = ticks_take (n + 1) facts in omega (arith, before, more, all)

-- ---- the line at hand

pub line_next : (lines : List Reason) (n : ℕ) (x : plain.Fact) → IsOnLine lines n x → take (n + 1) (facts_of lines) ≡ take n (facts_of lines) ++ x ∷ []
line_next lines n x is = next_fact lines n is.reason is.at ∙ ap (λ y. take n (facts_of lines) ++ y ∷ []) is.fact

-- there is one at each place
pub line_there : (lines : List Reason) (n : ℕ) → n < length lines → (r : Reason) × (slice_get lines n ≡ Some r)
line_there [] n within = absurd (omega (arith, within))
line_there (r ∷ lines) zero within = (r, refl)
line_there (r ∷ lines) (suc n) within = line_there lines n (omega (arith, within))

-- the first facts of a list without repeats have none
first_distinct : (xs : List plain.Fact) (n : ℕ) → NoRepeats xs → NoRepeats (take n xs)
first_distinct xs zero distinct = tt
first_distinct [] (suc n) distinct = tt
first_distinct (x ∷ xs) (suc n) distinct = ((λ h. distinct.0 (first_within xs n x h)), first_distinct xs n distinct.1)
  where
    first_within : (xs : List plain.Fact) (n : ℕ) (y : plain.Fact) → Contains (take n xs) y → Contains xs y
    first_within xs n y h = subst (λ l. Contains l y) (take-append-drop n xs) (Contains-append_left (take n xs) (drop n xs) y h)

first_within : (xs : List plain.Fact) (n : ℕ) → IsWithin (take n xs) xs
first_within xs n y h = subst (λ l. Contains l y) (take-append-drop n xs) (Contains-append_left (take n xs) (drop n xs) y h)

-- ---- where pages are told

-- what is known of the pages and the setting stays where they stay
pub stays : {o p : Option Pages} {s t : Setting} (P : Setting → Pages → Type 0) → p ≡ o → t ≡ s → IfSome o (P s) → IfSome p (P t)
stays {o = o} {t = t} P same setting h = subst (λ k. IfSome k (P t)) (sym same) (subst (λ k. IfSome o (P k)) (sym setting) h)

-- the lines are a certificate, or they aren't
abbrev pub Holds : List Reason → Bool → Setting → Pages → Type 0
Holds lines b s pages = MatchBool b (IsCertificate (inputs_of s pages) lines) (IsCertificate (inputs_of s pages) lines → ⊥)

pub line_follows : (o : Option Pages) (s : Setting) (lines : List Reason) (n : ℕ) (marks : List Bool) (x : plain.Fact) → IsOnLine lines n x → IsMarked marks n
    → IfSome o (λ pages. IsCertified (inputs_of s pages) lines n marks) → IfSome o (λ pages. Follows (inputs_of s pages) x)
line_follows None s lines n marks x is marked so_far = tt
line_follows (Some pages) s lines n marks x is marked so_far = subst (Follows (inputs_of s pages)) is.fact (marked_follows (inputs_of s pages) lines n marks is.reason is.at so_far marked)

pub line_unmarked : (o : Option Pages) (s : Setting) (lines : List Reason) (n : ℕ) (marks : List Bool) → n < length lines → (IsMarked marks n → ⊥)
    → IfSome o (λ pages. IsCertified (inputs_of s pages) lines n marks) → IfSome o (Holds lines false s)
line_unmarked None s lines n marks within clear so_far = tt
line_unmarked (Some pages) s lines n marks within clear so_far = let r = line_there lines n within in not_marked (inputs_of s pages) lines n marks r.0 r.1 so_far clear

-- so many lines are certified, or they are no certificate
abbrev pub GoesOn : List Reason → ℕ → List Bool → Bool → Setting → Pages → Type 0
GoesOn lines n marks b s pages = MatchBool b (IsCertified (inputs_of s pages) lines n marks) (IsCertificate (inputs_of s pages) lines → ⊥)

pub line_taken : (o : Option Pages) (s : Setting) (lines : List Reason) (n : ℕ) (marks new : List Bool) (x : plain.Fact) (brought : List Reason) (goes : Bool) → NoRepeats (facts_of lines) → IsOnLine lines n x → IsMarked marks n
    → IfSome o (λ pages. IsCertified (inputs_of s pages) lines n marks) → IfSome o (λ pages. Produces (inputs_of s pages) (take n (facts_of lines)) x brought)
    → MatchBool goes (IsWithin (facts_of brought) (facts_of lines)) (IsWithin (facts_of brought) (facts_of lines) → ⊥) → (goes ≡ true → MarksMore lines marks new brought) → IfSome o (GoesOn lines (n + 1) new goes s)
line_taken None s lines n marks new x brought goes distinct is marked so_far produces there more = tt
line_taken (Some pages) s lines n marks new x brought true distinct is marked so_far produces there more =
    certified_more (inputs_of s pages) lines n marks is.reason is.at new brought
    (subst NoRepeats (next_fact lines n is.reason is.at) (first_distinct (facts_of lines) (n + 1) distinct)) so_far marked
    (subst (λ y. Produces (inputs_of s pages) (take n (facts_of lines)) y brought) (sym is.fact) produces) (more refl) there
line_taken (Some pages) s lines n marks new x brought false distinct is marked so_far produces there more =
    not_closed (inputs_of s pages) lines n marks is.reason is.at brought (subst (λ y. Produces (inputs_of s pages) (take n (facts_of lines)) y brought) (sym is.fact) produces)
    (subst (λ l. IsWithin l (facts_of lines)) (next_fact lines n is.reason is.at) (first_within (facts_of lines) (n + 1))) there

pub lines_first : (o : Option Pages) (s : Setting) (lines given : List Reason) (none marks : List Bool) → AreRoots s given → ((n : ℕ) → IsMarked none n → ⊥) → MarksMore lines none marks given → IsWithin (facts_of given) (facts_of lines)
    → IfSome o (λ pages. IsCertified (inputs_of s pages) lines 0 marks)
lines_first None s lines given none marks roots clear marked within = tt
lines_first (Some pages) s lines given none marks roots clear marked within = certified_first (inputs_of s pages) lines given roots.facts roots.causes none marks clear marked within

pub lines_lack : (o : Option Pages) (s : Setting) (lines given : List Reason) → AreRoots s given → (IsWithin (facts_of given) (facts_of lines) → ⊥) → IfSome o (Holds lines false s)
lines_lack None s lines given roots lacks = tt
lines_lack (Some pages) s lines given roots lacks = no_roots (inputs_of s pages) lines given roots.facts roots.causes lacks

pub lines_last : (o : Option Pages) (s : Setting) (lines : List Reason) (n : ℕ) (marks : List Bool) → NoRepeats (facts_of lines) → length lines ≤ n → IfSome o (λ pages. IsCertified (inputs_of s pages) lines n marks) → IfSome o (Holds lines true s)
lines_last None s lines n marks distinct long so_far = tt
lines_last (Some pages) s lines n marks distinct long so_far = certified_last (inputs_of s pages) lines n marks distinct long so_far

pub lines_repeat : (o : Option Pages) (s : Setting) (lines : List Reason) → (NoRepeats (facts_of lines) → ⊥) → IfSome o (Holds lines false s)
lines_repeat None s lines twice = tt
lines_repeat (Some pages) s lines twice = λ is. twice is.distinct
