-- Words and the bytes that they are made of, and blanks.
use Rattle.std.proofs.Common.{◌≡◌, ◌+◌, ◌<◌, ℕ, zero, suc, List, [], ◌∷◌, get_or, refl, ap, ◌∙◌, arith}
use Rattle.std.specs.Prelude.{Bool, true, false, not, cond}
use Rattle.std.specs.List.{list_all}
use Rattle.std.specs.Str.{IsAscii}
use Rattle.std.proofs.lemmas.Bool.Decides.{nat_tests}
use Rattle.std.proofs.lemmas.List.Sums.{take_while-cons}
use Rattle.vk_expr.specs.Tokens.{is_blank, is_word_byte, word_of, sign_begun, tokens_from}

pub word_more : (b : ℕ) (bs : List ℕ) → is_word_byte b ≡ true → word_of (b ∷ bs) ≡ b ∷ word_of bs
word_more b bs e = take_while-cons (λ b. not (not (is_word_byte b))) b bs ∙ ap (λ t. cond (not (not t)) (b ∷ word_of bs) []) e

pub word_ends : (b : ℕ) (bs : List ℕ) → is_word_byte b ≡ false → word_of (b ∷ bs) ≡ []
word_ends b bs e = take_while-cons (λ b. not (not (is_word_byte b))) b bs ∙ ap (λ t. cond (not (not t)) (b ∷ word_of bs) []) e

small : (b : ℕ) → is_word_byte b ≡ true → b < 128
small b e = grind (arith, nat_tests)

ascii_more : (b : ℕ) (word : List ℕ) → b < 128 → ((i : ℕ) → get_or word i 0 < 128) → (i : ℕ) → get_or (b ∷ word) i 0 < 128
ascii_more b word here later zero = here
ascii_more b word here later (suc i) = later i

ascii_by : (b : ℕ) (bs : List ℕ) → ((i : ℕ) → get_or (word_of bs) i 0 < 128) → (t : Bool) → is_word_byte b ≡ t → (i : ℕ) → get_or (word_of (b ∷ bs)) i 0 < 128
ascii_by b bs later true e i = rw (word_more b bs e) (ascii_more b (word_of bs) (small b e) later i)
ascii_by b bs later false e i = rw (word_ends b bs e) (omega arith)

-- a word is ASCII
pub IsAscii-word : (bytes : List ℕ) → IsAscii (word_of bytes)
IsAscii-word [] i = omega arith
IsAscii-word (b ∷ bs) i = ascii_by b bs (IsAscii-word bs) (is_word_byte b) refl i

-- blanks have no tokens
no_word : (b : ℕ) → is_blank b ≡ true → is_word_byte b ≡ false
no_word b e = grind (arith, nat_tests)

pub blank_first : (n : ℕ) (skipped : Bool) (b : ℕ) (bs : List ℕ) → is_blank b ≡ true → tokens_from n skipped (b ∷ bs) ≡ tokens_from (n + 1) false bs
unfolding tokens_from sign_begun
blank_first n skipped b bs e = rw (no_word b e, e) refl

blank_by : (b : ℕ) (bs : List ℕ) (r : Bool) → is_blank b ≡ r → list_all is_blank (b ∷ bs) ≡ true → (is_blank b ≡ true) × (list_all is_blank bs ≡ true)
blank_by b bs true e all = (e, rw e at all)
blank_by b bs false e all = cc (rw e at all)

pub blank_tokens : (text : List ℕ) (n : ℕ) (skipped : Bool) → list_all is_blank text ≡ true → tokens_from n skipped text ≡ []
unfolding tokens_from
blank_tokens [] n skipped all = refl
blank_tokens (b ∷ bs) n skipped all =
    let both : (is_blank b ≡ true) × (list_all is_blank bs ≡ true) = blank_by b bs (is_blank b) refl all in
    blank_first n skipped b bs both.0 ∙ blank_tokens bs (n + 1) false both.1
