-- Every report begins with the same line, so a text has fewer lines with it in common than bytes.
use Rattle.std.proofs.Common.{◌≡◌, ◌<◌, ◌≤◌, ◌+◌, ◌^◌, ℕ, suc, Bool, true, false, cond, List, [], ◌∷◌, ◌++◌, length, length-append, codes, refl, ap, sym, ◌∙◌, arith}
use Rattle.std.specs.Prelude.{◌==◌, flat_map, Result, Ok, Err}
use Rattle.vk_base.proofs.PathLemmas.{lacks_byte}
use Rattle.vk_spec.specs.Earlies.{Early}
use Rattle.vk_resolution.specs.Lines.{counted, ended, fault_line, item_text, numbered_lines, reasons_text}
use Rattle.vk_resolution.specs.Outcomes.{Outcome, planned, refused}
use Rattle.vk_model.specs.Lines.{early_line}
use Rattle.vk_report.specs.Reports.{whole_report}
use Rattle.vk_check.specs.Lines.{with_byte, lines_of}
use Rattle.vk_check.specs.Verdicts.{HasFewSharedLines}
use Rattle.vk_check.proofs.CutLemmas.{line_first}
use Rattle.vk_check.proofs.CompareLemmas.{few_lines}

-- ---- how long lines are

module _ {X : Type 0} where
  head_same : (x y : X) (xs ys : List X) → x ∷ xs ≡ y ∷ ys → x ≡ y
  head_same x y xs ys e = (cc)

  tail_same : (x y : X) (xs ys : List X) → x ∷ xs ≡ y ∷ ys → xs ≡ ys
  tail_same x y xs ys e = (cc)

long_with : (b n : ℕ) (ks : List (List ℕ)) (l : List ℕ) (ls : List (List ℕ)) → ((k : List ℕ) (rest : List (List ℕ)) → ks ≡ k ∷ rest → length k + length rest ≤ n) → length ks ≤ n → with_byte b ks ≡ l ∷ ls → length l + length ls ≤ suc n
long_with b n [] l ls longer few e =
    let first : 1 ≡ length l = ap length (head_same (b ∷ []) l [] ls e) in
    let rest : 0 ≡ length ls = ap length (tail_same (b ∷ []) l [] ls e) in
    omega (arith, first, rest)
long_with b n (k ∷ ks) l ls longer few e = by (b == 10) e
  where
    by : (t : Bool) → cond t ((b ∷ []) ∷ k ∷ ks) ((b ∷ k) ∷ ks) ≡ l ∷ ls → length l + length ls ≤ suc n
    by true h =
        let first : 1 ≡ length l = ap length (head_same (b ∷ []) l (k ∷ ks) ls h) in
        let rest : length (k ∷ ks) ≡ length ls = ap length (tail_same (b ∷ []) l (k ∷ ks) ls h) in
        omega (arith, first, rest, few)
    by false h =
        let first : length (b ∷ k) ≡ length l = ap length (head_same (b ∷ k) l ks ls h) in
        let rest : length ks ≡ length ls = ap length (tail_same (b ∷ k) l ks ls h) in
        let more = longer k ks refl in
        omega (arith, first, rest, more)

first_long : (bytes l : List ℕ) (ls : List (List ℕ)) → lines_of bytes ≡ l ∷ ls → length l + length ls ≤ length bytes
first_long [] l ls e = (cc)
first_long (b ∷ bytes) l ls e = long_with b (length bytes) (lines_of bytes) l ls (first_long bytes) (few_lines bytes) e

few_headed : (report want head : List ℕ) (rest : List (List ℕ)) → lines_of want ≡ head ∷ rest → 2 ≤ length head → length report < 2 ^ 32 → HasFewSharedLines report want
few_headed report want head rest headed long short [] one other of_report of_want = omega arith
few_headed report want head rest headed long short (d ∷ ds) one other of_report of_want =
    let first : length d ≡ length head = ap length (head_same d head (ds ++ other) rest (sym of_want ∙ headed)) in
    let room : length d + length (ds ++ one) ≤ length report = first_long report d (ds ++ one) of_report in
    let parts = length-append ds one in
    below (length d) (length head) (length ds) (length one) (length (ds ++ one)) (length report) (2 ^ 32) first long room parts short
  where
    below : (d head ds one both n most : ℕ) → d ≡ head → 2 ≤ head → d + both ≤ n → both ≡ ds + one → n < most → suc ds + 1 < most
    below d head ds one both n most first long room parts short = omega (arith, first, long, room, parts, short)

-- ---- the first line

abbrev rest_of : Result Outcome Early → List ℕ
rest_of (Ok (planned items reasons)) = codes "status planned\n" ++ counted (codes "plan") items ++ numbered_lines item_text 1 items ++ reasons_text reasons
rest_of (Ok (refused faults reasons)) = codes "status refused\n" ++ counted (codes "faults") faults ++ flat_map (λ f. ended (fault_line f)) faults ++ reasons_text reasons
rest_of (Err early) = codes "status refused\nfaults 1\n" ++ ended (early_line early) ++ codes "reasons 0\nend\n"

heading_stands : (o : Result Outcome Early) → whole_report o ≡ codes "vcpkg-plan 1" ++ 10 ∷ rest_of o
heading_stands (Ok (planned items reasons)) = refl
heading_stands (Ok (refused faults reasons)) = refl
heading_stands (Err early) = refl

pub few_with_report : (report : List ℕ) (o : Result Outcome Early) → length report < 2 ^ 32 → HasFewSharedLines report (whole_report o)
few_with_report report o short =
    few_headed report (whole_report o) (codes "vcpkg-plan 1" ++ 10 ∷ []) (lines_of (rest_of o))
    (ap lines_of (heading_stands o) ∙ line_first (codes "vcpkg-plan 1") (rest_of o) (lacks_byte 10 (codes "vcpkg-plan 1") refl)) (omega arith) short
