-- Two texts, line by line, and where they first differ.
use Rattle.std.proofs.Common.{◌≡◌, ◌<◌, ◌≤◌, ◌+◌, ◌^◌, ℕ, zero, suc, min, Bool, true, false, cond, List, [], ◌∷◌, ◌++◌, length, length-append, append_assoc, take, refl, ap, sym, ◌∙◌, subst, arith}
use Rattle.std.specs.Prelude.{◌==◌, ◌↔◌, Option, option_map, slice_get}
use Rattle.std.proofs.lemmas.Bool.Decides.{nat_tests}
use Rattle.std.proofs.Math.Seq.{take-append_seam}
use Rattle.vk_check.specs.Lines.{with_byte, lines_of, without_feed, cut_lines}
use Rattle.vk_check.specs.Compared.{IsCompared}
use Rattle.vk_check.specs.Verdicts.{DifferAt, IsNo, HasFewSharedLines, VerdictIsOne, NoMeansDifferent}
use Rattle.vk_check.specs.declared.verdicts.Verdict.TheVariants.{Yes, No}

-- what a test doesn't find isn't so
pub absent : {b : Bool} {P : Type 0} → (b ≡ true) ↔ P → b ≡ false → P → ⊥
absent test fails held = let clash : true ≡ false = sym (test.1 held) ∙ fails in (cc)

pub no_bytes : (bytes : List ℕ) → (length bytes == 0) ≡ true → bytes ≡ []
no_bytes [] e = refl
no_bytes (b ∷ bytes) e = absurd (grind (arith, nat_tests, e))

pub some_bytes : (bytes : List ℕ) → (length bytes == 0) ≡ false → bytes ≡ [] → ⊥
some_bytes [] e none = (cc)
some_bytes (b ∷ bytes) e none = (cc)

-- ---- so far

pub compared_first : (report want : List ℕ) → IsCompared report want 1 report want
compared_first report want = record { shared = []; of_report = refl; of_want = refl; whole = λ e. e; number = refl }

some_lines : (b l : _) (ls : List (List ℕ)) (t : Bool) → cond t ((b ∷ []) ∷ l ∷ ls) ((b ∷ l) ∷ ls) ≡ [] → ⊥
some_lines b l ls true e = (cc)
some_lines b l ls false e = (cc)

with_some : (b : ℕ) (ls : List (List ℕ)) → with_byte b ls ≡ [] → ⊥
with_some b [] e = (cc)
with_some b (l ∷ ls) e = some_lines b l ls (b == 10) e

lines_none : (bytes : List ℕ) → lines_of bytes ≡ [] → bytes ≡ []
lines_none [] e = refl
lines_none (b ∷ bytes) e = absurd (with_some b (lines_of bytes) e)

cut_none : (text line rest : List ℕ) → lines_of text ≡ cut_lines line rest → line ≡ [] → text ≡ []
cut_none text line rest lines none = lines_none text (lines ∙ ap (λ l. cut_lines l rest) none)

cut_some : (line rest : List ℕ) → (line ≡ [] → ⊥) → cut_lines line rest ≡ line ∷ lines_of rest
cut_some [] rest some = absurd (some refl)
cut_some (b ∷ line) rest some = refl

-- both are empty
pub compared_last : (report want : List ℕ) (n : ℕ) (left wanted one rest other more : List ℕ) → IsCompared report want n left wanted → lines_of left ≡ cut_lines one rest → lines_of wanted ≡ cut_lines other more → one ≡ other → one ≡ [] → report ≡ want
compared_last report want n left wanted one rest other more so_far of_left of_wanted same none =
    so_far.whole (cut_none left one rest of_left none ∙ sym (cut_none wanted other more of_wanted (sym same ∙ none)))

-- the next line is the same too
pub compared_more : (report want : List ℕ) (n : ℕ) (left wanted one rest other more : List ℕ) → IsCompared report want n left wanted → left ≡ one ++ rest → wanted ≡ other ++ more
    → lines_of left ≡ cut_lines one rest → lines_of wanted ≡ cut_lines other more → one ≡ other → (one ≡ [] → ⊥) → IsCompared report want (n + 1) rest more
compared_more report want n left wanted one rest other more so_far left_is wanted_is of_left of_wanted same some = record {
  shared = so_far.shared ++ one ∷ [];
  of_report = so_far.of_report ∙ ap (λ ls. so_far.shared ++ ls) (of_left ∙ cut_some one rest some) ∙ sym (append_assoc so_far.shared (one ∷ []) (lines_of rest));
  of_want = so_far.of_want ∙ ap (λ ls. so_far.shared ++ ls) (of_wanted ∙ cut_some other more (λ none. some (same ∙ none)) ∙ ap (λ l. l ∷ lines_of more) (sym same)) ∙ sym (append_assoc so_far.shared (one ∷ []) (lines_of more));
  whole = λ e. so_far.whole (left_is ∙ ap (λ l. one ++ l) e ∙ ap (λ l. l ++ more) same ∙ sym wanted_is);
  number = (let long = length-append so_far.shared (one ∷ []) in omega (arith, so_far.number, long));
}

-- ---- where they differ

at_seam : {X : Type 0} (xs ys : List X) → slice_get (xs ++ ys) (length xs) ≡ slice_get ys 0
at_seam [] ys = refl
at_seam (x ∷ xs) ys = at_seam xs ys

first_same : (one rest other more : List ℕ) → slice_get (cut_lines one rest) 0 ≡ slice_get (cut_lines other more) 0 → one ≡ other
first_same [] rest [] more e = refl
first_same [] rest (c ∷ other) more e = (cc)
first_same (b ∷ one) rest [] more e = (cc)
first_same (b ∷ one) rest (c ∷ other) more e = (cc)

first_alone : (line rest : List ℕ) → slice_get (cut_lines line rest) 0 ≡ slice_get (cut_lines line []) 0
first_alone [] rest = refl
first_alone (b ∷ line) rest = refl

pub compared_differ : (report want : List ℕ) (n : ℕ) (left wanted one rest other more : List ℕ) (told : Option (List ℕ)) → IsCompared report want n left wanted → lines_of left ≡ cut_lines one rest → lines_of wanted ≡ cut_lines other more
    → (one ≡ other → ⊥) → told ≡ option_map without_feed (slice_get (cut_lines other []) 0) → IsNo report want n told
compared_differ report want n left wanted one rest other more told so_far of_left of_wanted differ shown =
    let of_report = so_far.of_report ∙ ap (λ ls. so_far.shared ++ ls) of_left in
    let of_want = so_far.of_want ∙ ap (λ ls. so_far.shared ++ ls) of_wanted in
    let report_at : slice_get (lines_of report) (length so_far.shared) ≡ slice_get (cut_lines one rest) 0 = ap (λ ls. slice_get ls (length so_far.shared)) of_report ∙ at_seam so_far.shared (cut_lines one rest) in
    let want_at : slice_get (lines_of want) (length so_far.shared) ≡ slice_get (cut_lines other more) 0 = ap (λ ls. slice_get ls (length so_far.shared)) of_want ∙ at_seam so_far.shared (cut_lines other more) in
    record {
      place = length so_far.shared;
      number = so_far.number;
      first = record {
        same = ap (take (length so_far.shared)) of_report ∙ take-append_seam so_far.shared (cut_lines one rest) ∙ sym (ap (take (length so_far.shared)) of_want ∙ take-append_seam so_far.shared (cut_lines other more));
        differ = λ e. differ (first_same one rest other more (sym report_at ∙ e ∙ want_at));
      };
      told = shown ∙ ap (option_map without_feed) (sym (want_at ∙ first_alone other more));
    }

-- the next line can be counted
pub compared_room : (report want : List ℕ) (n : ℕ) (left wanted : List ℕ) → HasFewSharedLines report want → IsCompared report want n left wanted → n < 2 ^ 32
compared_room report want n left wanted few so_far = let room = few so_far.shared (lines_of left) (lines_of wanted) so_far.of_report so_far.of_want in subst (λ k. k < 2 ^ 32) (sym so_far.number) room

-- ---- few lines

few_with : (b : ℕ) (ls : List (List ℕ)) → length (with_byte b ls) ≤ suc (length ls)
few_with b [] = omega arith
few_with b (l ∷ ls) = by (b == 10)
  where
    by : (t : Bool) → length (cond t ((b ∷ []) ∷ l ∷ ls) ((b ∷ l) ∷ ls)) ≤ suc (suc (length ls))
    by true = omega arith
    by false = omega arith

pub few_lines : (bytes : List ℕ) → length (lines_of bytes) ≤ length bytes
few_lines [] = omega arith
few_lines (b ∷ bytes) = let rest = few_lines bytes in let more = few_with b (lines_of bytes) in omega (arith, rest, more)

few_shared : (text : List ℕ) (shared rest : List (List ℕ)) → lines_of text ≡ shared ++ rest → length shared ≤ length text
few_shared text shared rest e = let few = few_lines text in let long = ap length e ∙ length-append shared rest in omega (arith, few, long)

least : (a b n : ℕ) → n ≤ a → n ≤ b → n ≤ min a b
least a b n h k = omega (arith, h, k)

pub few_of_short : (report want : List ℕ) → min (length report) (length want) + 1 < 2 ^ 32 → HasFewSharedLines report want
few_of_short report want short = λ shared one other of_report of_want.
    let few = least (length report) (length want) (length shared) (few_shared report shared one of_report) (few_shared want shared other of_want) in
    below (length shared) (min (length report) (length want)) (2 ^ 32) few short
  where
    below : (k n most : ℕ) → k ≤ n → n + 1 < most → k + 1 < most
    below k n most h short = omega (arith, h, short)

-- ---- one verdict

taken_at : {X : Type 0} (one other : List X) (m n : ℕ) → m < n → take n one ≡ take n other → slice_get one m ≡ slice_get other m
taken_at one other m n below same = sym (get_taken one m n below) ∙ ap (λ l. slice_get l m) same ∙ get_taken other m n below
  where
    get_taken : {X : Type 0} (xs : List X) (m n : ℕ) → m < n → slice_get (take n xs) m ≡ slice_get xs m
    get_taken [] m zero below = refl
    get_taken [] m (suc n) below = refl
    get_taken (x ∷ xs) m zero below = absurd (omega (arith, below))
    get_taken (x ∷ xs) zero (suc n) below = refl
    get_taken (x ∷ xs) (suc m) (suc n) below = get_taken xs m n (omega (arith, below))

one_place : {X : Type 0} (one other : List X) (m n : ℕ) → DifferAt one other m → DifferAt one other n → m ≡ n
one_place one other m n first second =
    let not_less : m < n → ⊥ = λ below. first.differ (taken_at one other m n below second.same) in
    let not_more : n < m → ⊥ = λ below. second.differ (taken_at one other n m below first.same) in
    omega arith

pub no_means_different : NoMeansDifferent
no_means_different report want line wanted verdict same = verdict.first.differ (ap (λ t. slice_get (lines_of t) verdict.place) same)

pub verdict_is_one : VerdictIsOne
verdict_is_one report want Yes Yes one other = refl
verdict_is_one report want Yes (No line wanted) one other = absurd (no_means_different report want line wanted other one)
verdict_is_one report want (No line wanted) Yes one other = absurd (no_means_different report want line wanted one other)
verdict_is_one report want (No line wanted) (No line_2 wanted_2) one other =
    let place : one.place ≡ other.place = one_place (lines_of report) (lines_of want) one.place other.place one.first other.first in
    let number : line ≡ line_2 = one.number ∙ ap (λ n. n + 1) place ∙ sym other.number in
    let told : wanted ≡ wanted_2 = one.told ∙ ap (λ n. option_map without_feed (slice_get (lines_of want) n)) place ∙ sym other.told in
    ap (λ n. No n wanted) number ∙ ap (No line_2) told
