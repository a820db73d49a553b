-- The lines of facts: what stands on a line, and on which line a fact stands.
use Rattle.std.proofs.Common.{◌≡◌, ◌≤◌, ◌<◌, ℕ, zero, suc, Bool, true, false, cond, List, [], ◌∷◌, refl, ap, sym, ◌∙◌, subst, arith}
use Rattle.std.specs.Prelude.{Some, option_map}
use Rattle.std.specs.List.{Contains}
use Rattle.vk_spec.specs.Lists.{NoRepeats}
use Rattle.vk_spec.proofs.ListLemmas.{contains_first, contains_later}
use Rattle.vk_resolution.specs.Asking.{Fact, same_fact}
use Rattle.vk_resolution.specs.Reasons.{first_line, line_of, fact_at}
use Rattle.vk_resolution.specs.Laws.{LinesAreNumbers}
use Rattle.vk_resolution.proofs.Members.{true_false}
use Rattle.vk_resolution.proofs.FactLemmas.{same_fact-Decides}
use Rattle.vk_resolution.proofs.Soundness.{map_some}
use Rattle.vk_resolution.proofs.ChoiceLemmas.{line_exists}

-- the first line is that of a fact that passes, and no line before it passes
pub record IsFirstLine (test : Fact → Bool) (facts : List Fact) (n : ℕ) : Type 0 where
  pub fact : Fact
  pub line : fact_at facts n ≡ Some fact
  pub passes : test fact ≡ true
  pub first : (m : ℕ) (other : Fact) → fact_at facts m ≡ Some other → test other ≡ true → n ≤ m

some_line : (facts : List Fact) (m : ℕ) (x : Fact) → fact_at facts m ≡ Some x → 0 < m
some_line facts zero x e = (cc)
some_line facts (suc m) x e = omega arith

first_case : (test : Fact → Bool) (x : Fact) (xs : List Fact) (n : ℕ) (b : Bool) → test x ≡ b → ((k : ℕ) → first_line test xs ≡ Some k → IsFirstLine test xs k) → cond b (Some 1) (option_map suc (first_line test xs)) ≡ Some n → IsFirstLine test (x ∷ xs) n
first_case test x xs n true e rest h =
    let one : 1 ≡ n = (cc) in
    subst (IsFirstLine test (x ∷ xs)) one (record { fact = x; line = refl; passes = e; first = λ m other at passes. some_line (x ∷ xs) m other at })
first_case test x xs n false e rest h =
    let r = map_some suc (first_line test xs) n h in
    let is = rest r.0 r.1 in
    subst (IsFirstLine test (x ∷ xs)) r.2 (after r.0 is)
  where
    after : (k : ℕ) → IsFirstLine test xs k → IsFirstLine test (x ∷ xs) (suc k)
    after zero is = (let clash : fact_at xs zero ≡ Some is.fact = is.line in (cc))
    after (suc k) is = record { fact = is.fact; line = is.line; passes = is.passes; first = later }
      where
        later : (m : ℕ) (other : Fact) → fact_at (x ∷ xs) m ≡ Some other → test other ≡ true → suc (suc k) ≤ m
        later zero other at passes = (cc)
        later (suc zero) other at passes = (let same : x ≡ other = (cc) in absurd (true_false (test other) passes (subst (λ z. test z ≡ false) same e)))
        later (suc (suc m)) other at passes = (let below : suc k ≤ suc m = is.first (suc m) other at passes in omega arith)

pub first_line_is : (test : Fact → Bool) (facts : List Fact) (n : ℕ) → first_line test facts ≡ Some n → IsFirstLine test facts n
first_line_is test [] n e = (cc)
first_line_is test (x ∷ xs) n e = first_case test x xs n (test x) refl (first_line_is test xs) e

-- what stands on a line is in the list
pub at_contains : (facts : List Fact) (n : ℕ) (x : Fact) → fact_at facts n ≡ Some x → Contains facts x
at_contains facts zero x e = (cc)
at_contains [] (suc n) x e = (cc)
at_contains (y ∷ ys) (suc zero) x e = let same : y ≡ x = (cc) in subst (Contains (y ∷ ys)) same (contains_first y ys)
at_contains (y ∷ ys) (suc (suc n)) x e = contains_later y x ys (at_contains ys (suc n) x e)

-- in a list without repeats a fact stands on one line
pub one_line : (facts : List Fact) → NoRepeats facts → (m n : ℕ) (x : Fact) → fact_at facts m ≡ Some x → fact_at facts n ≡ Some x → m ≡ n
one_line facts distinct zero n x e h = (cc)
one_line facts distinct (suc m) zero x e h = (cc)
one_line [] distinct (suc m) (suc n) x e h = (cc)
one_line (y ∷ ys) distinct (suc zero) (suc zero) x e h = refl
one_line (y ∷ ys) distinct (suc zero) (suc (suc n)) x e h = let same : y ≡ x = (cc) in absurd (distinct.0 (subst (Contains ys) (sym same) (at_contains ys (suc n) x h)))
one_line (y ∷ ys) distinct (suc (suc m)) (suc zero) x e h = let same : y ≡ x = (cc) in absurd (distinct.0 (subst (Contains ys) (sym same) (at_contains ys (suc m) x e)))
one_line (y ∷ ys) distinct (suc (suc m)) (suc (suc n)) x e h = ap suc (one_line ys distinct.1 (suc m) (suc n) x e h)

-- on a fact's line it stands
pub line_at : (facts : List Fact) (x : Fact) (n : ℕ) → line_of facts x ≡ Some n → fact_at facts n ≡ Some x
line_at facts x n e = let is = first_line_is (same_fact x) facts n e in is.line ∙ ap Some (sym ((same_fact-Decides x is.fact).0 is.passes))

-- the line on which a fact stands is its line
pub at_line : (facts : List Fact) → NoRepeats facts → (x : Fact) (n : ℕ) → fact_at facts n ≡ Some x → line_of facts x ≡ Some n
at_line facts distinct x n e =
    let line = line_exists (same_fact x) facts x (at_contains facts n x e) ((same_fact-Decides x x).1 refl) in
    line.1 ∙ ap Some (one_line facts distinct line.0 n x (line_at facts x line.0 line.1) e)

pub lines_are_numbers : LinesAreNumbers
lines_are_numbers facts distinct x n = (line_at facts x n, at_line facts distinct x n)
