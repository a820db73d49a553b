-- What stands in a line of UTF-8 is UTF-8.
use Rattle.std.proofs.Common.{◌≡◌, ◌<◌, ◌++◌, ◌+◌, ◌-◌, ℕ, Bool, true, eqb, List, [], ◌∷◌, length, get_or, inl, inr, refl, append_assoc, length-append, arith}
use Rattle.std.specs.Prelude.{Some}
use Rattle.std.specs.List.{list_all}
use Rattle.std.specs.Str.{IsUtf8, IsAscii}
use Rattle.std.specs.Str.Lines.{strip_carriage_return}
use Rattle.std.proofs.Math.Seq.{take-append_seam, drop-append-add, get_or-append_seam}
use Rattle.std.proofs.lemmas.Bool.{cases_Bool, eqb-true, and_parts}
use Rattle.std.proofs.lemmas.Bool.Decides.{nat_tests}
use Rattle.std.proofs.lemmas.Str.{IsUtf8-nil, IsUtf8-take, IsUtf8-drop, IsUtf8-from_ascii, IsCharBoundary-before_ascii, IsCharBoundary-after_ascii}
use Rattle.std.proofs.lemmas.Str.Ascii.{IsAscii-nil, IsAscii-cons}
use Rattle.vk_triplet.specs.Lines.{IsWritten, IsSet, is_name_byte, is_bare_byte}
use Rattle.vk_triplet.specs.declared.triplets.Variable.{Variable}
use Rattle.vk_triplet.specs.LineReadings.{said_by}
use Rattle.vk_triplet.proofs.SayLemmas.{says_found}

ascii_of : (test : ℕ → Bool) → ((b : ℕ) → test b ≡ true → b < 128) → (text : List ℕ) → list_all test text ≡ true → IsAscii text
ascii_of test small [] all = IsAscii-nil
ascii_of test small (b ∷ text) all =
    let both = and_parts (test b) (list_all test text) all in
    IsAscii-cons b text (small b both.0) (ascii_of test small text both.1)

name_small : (b : ℕ) → is_name_byte b ≡ true → b < 128
name_small b h = grind (arith, nat_tests)

bare_small : (b : ℕ) → is_bare_byte b ≡ true → b < 128
bare_small b h = grind (arith, nat_tests)

within_seam : (xs ys : List ℕ) (c : ℕ) → length xs < length (xs ++ c ∷ ys)
within_seam xs ys c = rw (length-append xs (c ∷ ys)) (omega arith)

-- a text of UTF-8 may be cut before and after an ASCII byte
before_ascii : (xs ys : List ℕ) (c : ℕ) → c < 128 → IsUtf8 (xs ++ c ∷ ys) → IsUtf8 xs
before_ascii xs ys c small text =
    let at : get_or (xs ++ c ∷ ys) (length xs) 0 < 128 = rw (get_or-append_seam xs c ys 0) small in
    let cut = IsUtf8-take (xs ++ c ∷ ys) (length xs) text (IsCharBoundary-before_ascii (xs ++ c ∷ ys) (length xs) (within_seam xs ys c) at) in
    rw (take-append_seam xs (c ∷ ys)) at cut

after_ascii : (xs ys : List ℕ) (c : ℕ) → c < 128 → IsUtf8 (xs ++ c ∷ ys) → IsUtf8 ys
after_ascii xs ys c small text =
    let at : get_or (xs ++ c ∷ ys) (length xs) 0 < 128 = rw (get_or-append_seam xs c ys 0) small in
    let cut = IsUtf8-drop (xs ++ c ∷ ys) (length xs + 1) text (IsCharBoundary-after_ascii (xs ++ c ∷ ys) (length xs) text (within_seam xs ys c) at) in
    rw (drop-append-add xs (c ∷ ys) 1) at cut

shorter : (n i : ℕ) → i ≡ n - 1 → 0 < n → i < n
shorter n i e some = omega arith

some_at : (line : List ℕ) (i : ℕ) → get_or line i 0 ≡ 13 → 0 < length line
some_at [] i e = (cc)
some_at (b ∷ line) i e = omega arith

strip_text : (line : List ℕ) → IsUtf8 line → IsUtf8 (strip_carriage_return line)
strip_text line text =
    elim (cases_Bool (eqb (get_or line (length line - 1) 0) 13)) [
      | inl return ↦ (
          let is = eqb-true (get_or line (length line - 1) 0) 13 return in
          let some = some_at line (length line - 1) is in
          let small : get_or line (length line - 1) 0 < 128 = omega (arith, is) in
          rw return (IsUtf8-take line (length line - 1) text (IsCharBoundary-before_ascii line (length line - 1) (shorter (length line) (length line - 1) refl some) small)))
      | inr other ↦ rw other text
    ]

quoted_apart : (a b c d e blanks value f more : List ℕ)
    → a ++ ((b ++ (c ++ 40 ∷ (d ++ (e ++ ((blanks ++ 34 ∷ (value ++ 34 ∷ [])) ++ (f ++ 41 ∷ [])))))) ++ more)
    ≡ (a ++ (b ++ (c ++ 40 ∷ (d ++ (e ++ blanks))))) ++ 34 ∷ (value ++ 34 ∷ (f ++ 41 ∷ more))
quoted_apart a b c d e blanks value f more = simp append_assoc

-- the value of a command in a line of UTF-8
written_text : (before command more : List ℕ) (variable : Variable) (s : IsSet command variable) → IsWritten s.given variable.value → IsUtf8 (before ++ (command ++ more)) → IsUtf8 variable.value
written_text before command more variable s w text =
    elim w.form [
      | inl bare ↦ IsUtf8-from_ascii variable.value (ascii_of is_bare_byte bare_small variable.value bare.bytes)
      | inr quoted ↦ (
          let whole = rw (s.split, w.split, quoted.quotes, quoted_apart before s.word s.outside s.inside variable.name w.blanks variable.value s.end more) at text in
          before_ascii variable.value (s.end ++ 41 ∷ more) 34 (omega arith)
          (after_ascii (before ++ (s.word ++ (s.outside ++ 40 ∷ (s.inside ++ (variable.name ++ w.blanks))))) (variable.value ++ 34 ∷ (s.end ++ 41 ∷ more)) 34 (omega arith) whole))
    ]

value_text : (before command more : List ℕ) (variable : Variable) → IsSet command variable → IsUtf8 (before ++ (command ++ more)) → IsUtf8 variable.value
value_text before command more variable s text =
    elim s.value [
      | inl nothing ↦ rw nothing.1 IsUtf8-nil
      | inr written ↦ written_text before command more variable s written text
    ]

-- a line of UTF-8 sets a variable of UTF-8 to a value of UTF-8
pub said_text : (line : List ℕ) (variable : Variable) → IsUtf8 line → said_by (strip_carriage_return line) ≡ Some (Some variable) → IsUtf8 variable.name × IsUtf8 variable.value
said_text line variable text e =
    let s = says_found (strip_carriage_return line) (Some variable) e in
    let whole = rw s.split at (strip_text line text) in
    (IsUtf8-from_ascii variable.name (ascii_of is_name_byte name_small variable.name s.form.name), value_text s.before s.command (s.after ++ s.comment) variable s.form whole)
