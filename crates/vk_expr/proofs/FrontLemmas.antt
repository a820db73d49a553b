-- The front of a text with some of its first tokens, and what a blank after it leads to.
use Rattle.std.proofs.Common.{◌≡◌, ◌+◌, ℕ, List, [], ◌∷◌, ◌++◌, refl, ap, sym, ◌∙◌, append_assoc, subst}
use Rattle.std.specs.Prelude.{Bool, true, false, Option, Some, None, option_map, option_to_list}
use Rattle.vk_expr.specs.Tokens.{Sign, Token, token, is_word_byte, word_of, sign_begun, tokens_from}
use Rattle.vk_expr.proofs.TokenLemmas.{word_more, word_ends, blank_first}

-- the token that a byte begins
abbrev first_of : ℕ → Option Sign → List Token
first_of n o = option_to_list (option_map (token n) o)

-- what follows a byte matters for its token only by the word that it begins
same_begun : (skipped : Bool) (b : ℕ) (xs ys : List ℕ) → word_of (b ∷ xs) ≡ word_of (b ∷ ys) → sign_begun skipped b xs ≡ sign_begun skipped b ys
unfolding sign_begun
same_begun skipped b xs ys e = rw e refl

-- a byte before two texts that begin with the same word, if it is of a word itself
same_word : (b : ℕ) (xs ys : List ℕ) (r : Bool) → is_word_byte b ≡ r → (r ≡ true → word_of xs ≡ word_of ys) → word_of (b ∷ xs) ≡ word_of (b ∷ ys)
same_word b xs ys true e same = word_more b xs e ∙ ap (λ l. b ∷ l) (same refl) ∙ sym (word_more b ys e)
same_word b xs ys false e same = word_ends b xs e ∙ sym (word_ends b ys e)

-- a blank ends a word
word_cut : (front tail : List ℕ) → word_of (front ++ 32 ∷ tail) ≡ word_of front
word_cut [] tail = word_ends 32 tail refl
word_cut (b ∷ bs) tail = same_word b (bs ++ 32 ∷ tail) bs (is_word_byte b) refl (λ _. word_cut bs tail)

-- the tokens of a text, a blank and another text are those of the one and those of the other
pub after_blank : (n : ℕ) (skipped : Bool) (front tail : List ℕ) → (m : ℕ) × (tokens_from n skipped (front ++ 32 ∷ tail) ≡ tokens_from n skipped front ++ tokens_from m false tail)
unfolding tokens_from
after_blank n skipped [] tail = (n + 1, blank_first n skipped 32 tail refl)
after_blank n skipped (b ∷ bs) tail =
    let later = after_blank (n + 1) (is_word_byte b) bs tail in (
      later.0,
      ap (λ o. first_of n o ++ tokens_from (n + 1) (is_word_byte b) (bs ++ 32 ∷ tail)) (same_begun skipped b (bs ++ 32 ∷ tail) bs (word_cut (b ∷ bs) tail))
          ∙ ap (λ l. first_of n (sign_begun skipped b bs) ++ l) later.1
          ∙ sym (append_assoc (first_of n (sign_begun skipped b bs)) (tokens_from (n + 1) (is_word_byte b) bs) (tokens_from later.0 false tail)),
    )

-- the bytes of a text up to the token after some of its first
pub record Front (n : ℕ) (skipped : Bool) (text : List ℕ) (before : List Token) : Type 0 where
  pub bytes : List ℕ
  pub tokens : tokens_from n skipped bytes ≡ before
  pub word : skipped ≡ true → word_of bytes ≡ word_of text

-- a byte before a front makes it one byte longer
longer : (n : ℕ) (skipped : Bool) (b : ℕ) (bs : List ℕ) (before : List Token) (o : Option Sign) → sign_begun skipped b bs ≡ o → Front (n + 1) (is_word_byte b) bs before → Front n skipped (b ∷ bs) (first_of n o ++ before)
unfolding tokens_from
longer n skipped b bs before o begun front =
    let word : word_of (b ∷ front.bytes) ≡ word_of (b ∷ bs) = same_word b front.bytes bs (is_word_byte b) refl front.word in
    record {
      bytes = b ∷ front.bytes;
      tokens = ap (λ o. first_of n o ++ tokens_from (n + 1) (is_word_byte b) front.bytes) (same_begun skipped b front.bytes bs word ∙ begun) ∙ ap (λ l. first_of n o ++ l) front.tokens;
      word = λ _. word;
    }

word_over_by : (b : ℕ) (bs : List ℕ) (s : Sign) (r : Bool) → is_word_byte b ≡ r → sign_begun true b bs ≡ Some s → [] ≡ word_of (b ∷ bs)
unfolding sign_begun
word_over_by b bs s true e some =
    let none : None ≡ Some s = rw e at some in
    cc
word_over_by b bs s false e some = sym (word_ends b bs e)

-- where a token begins inside a word, the word has ended
word_over : (skipped : Bool) (b : ℕ) (bs : List ℕ) (s : Sign) → sign_begun skipped b bs ≡ Some s → skipped ≡ true → [] ≡ word_of (b ∷ bs)
word_over true b bs s some inside = word_over_by b bs s (is_word_byte b) refl some
word_over false b bs s some inside = cc

front_by : (n : ℕ) (skipped : Bool) (b : ℕ) (bs : List ℕ) (before rest : List Token) (o : Option Sign) → sign_begun skipped b bs ≡ o → first_of n o ++ tokens_from (n + 1) (is_word_byte b) bs ≡ before ++ rest
    → ((before : List Token) → tokens_from (n + 1) (is_word_byte b) bs ≡ before ++ rest → Front (n + 1) (is_word_byte b) bs before) → Front n skipped (b ∷ bs) before
unfolding tokens_from
front_by n skipped b bs before rest None none e more = longer n skipped b bs before None none (more before e)
front_by n skipped b bs [] rest (Some s) some e more = record { bytes = []; tokens = refl; word = word_over skipped b bs s some }
front_by n skipped b bs (t ∷ before) rest (Some s) some e more =
    let first : token n s ≡ t = cc in
    let later : tokens_from (n + 1) (is_word_byte b) bs ≡ before ++ rest = cc in
    subst (λ t. Front n skipped (b ∷ bs) (t ∷ before)) first (longer n skipped b bs before (Some s) some (more before later))

-- a text has a front with as many of its first tokens as one likes
pub front_of : (n : ℕ) (skipped : Bool) (text : List ℕ) (before rest : List Token) → tokens_from n skipped text ≡ before ++ rest → Front n skipped text before
unfolding tokens_from
front_of n skipped [] [] rest e = record { bytes = []; tokens = refl; word = λ _. refl }
front_of n skipped [] (t ∷ before) rest e = cc
front_of n skipped (b ∷ bs) before rest e = front_by n skipped b bs before rest (sign_begun skipped b bs) refl e (λ before. front_of (n + 1) (is_word_byte b) bs before rest)
