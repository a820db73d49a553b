-- Places in a cache: that their names are parts of a path, and where they are.
use Rattle.std.proofs.Common.{◌≡◌, ◌≢◌, ◌==◌, ◌<◌, ◌+◌, ◌^◌, ℕ, suc, false, List, [], ◌∷◌, ◌++◌, length, take, true, refl, ap, sym, ◌∙◌, append_assoc, arith}
use Rattle.std.specs.Prelude.{◌%◌, ◌/◌, slice_index, codes, Some, Result, IfOk}
use Rattle.std.specs.List.{All}
use Rattle.std.specs.Fmt.{decimal}
use Rattle.std.proofs.lemmas.Bool.{agree_below_at}
use Rattle.std.proofs.lemmas.Bool.Decides.{nat_tests}
use Rattle.std.proofs.lemmas.Fmt.{decimal_digit}
use Rattle.std.proofs.lemmas.List.Elements.{All-cons, All-nil}
use Rattle.std.proofs.lemmas.Result.{IfOk-weaker}
use Rattle.hex.specs.Hex.{IsBytes, encode_with, encode_lower, lower_digits}
use Rattle.hex.proofs.HexLemmas.{length-encode_with}
use Rattle.vk_spec.specs.Paths.{Path, anchor}
use Rattle.vk_base.specs.Names.{IsName, word_rule, is_name_byte}
use Rattle.vk_base.specs.Paths.{IsPath, IsFrom, is_part, ups_of, parts_of, joined}
use Rattle.vk_base.proofs.NamePartLemmas.{all_inside, name_is_part, name_part}
use Rattle.vk_base.proofs.PathLemmas.{ups_most, joined-here}
use Rattle.vk_places.specs.Places.{place, four_digits, agent_name}

-- ---- a folder in a folder of the cache

pub in_folder : {E : Type 0} (cache folder : Path) (name text : List ℕ) (r : Result Path E) → folder ≡ cache ++ name ∷ [] → IfOk r (λ p. p ≡ folder ++ text ∷ []) → IfOk r (λ p. p ≡ place cache name text)
in_folder cache folder name text r is ok =
    IfOk-weaker r (λ p. p ≡ folder ++ text ∷ []) (λ p. p ≡ place cache name text) (λ p e. e ∙ ap (λ f. f ++ text ∷ []) is ∙ append_assoc cache (name ∷ []) (text ∷ [])) ok

-- ---- names of agents' folders

digits_inside : (n : ℕ) → all_inside (codes "-" ++ four_digits n) ≡ true
digits_inside n = grind (arith, nat_tests)

pub agent_part : (agent : List ℕ) (n : ℕ) → IsName word_rule agent → is_part (agent_name agent n) ≡ true
agent_part agent n name = name_part word_rule agent (codes "-" ++ four_digits n) name (digits_inside n)

digit_is : (n : ℕ) → decimal (n % 10) ≡ (48 + n % 10) ∷ []
digit_is n = decimal_digit (n % 10) (omega arith)

-- the name as it is printed
abbrev pub printed : List ℕ → ℕ → List ℕ
printed agent n = agent ++ codes "-" ++ (decimal (n / 1000 % 10) ++ decimal (n / 100 % 10) ++ decimal (n / 10 % 10) ++ decimal (n % 10))

pub printed_name : (agent : List ℕ) (n : ℕ) → printed agent n ≡ agent_name agent n
printed_name agent n = rw (digit_is (n / 1000), digit_is (n / 100), digit_is (n / 10), digit_is n) (append_assoc agent (codes "-") (four_digits n))

-- ---- names of entries

module _ (k : ℕ) (small : k < 16) where
  digit_byte : is_name_byte word_rule (slice_index lower_digits k) ≡ true
  digit_byte = agree_below_at (λ k. is_name_byte word_rule (slice_index lower_digits k)) (λ k. true) 16 k refl small

  digit_first : (slice_index lower_digits k == 45) ≡ false
  digit_first = agree_below_at (λ k. slice_index lower_digits k == 45) (λ k. false) 16 k refl small

name_bytes : (bytes : List ℕ) → IsBytes bytes → All (λ b. is_name_byte word_rule b ≡ true) (encode_lower bytes)
unfolding encode_with
name_bytes [] are = All-nil (λ b. is_name_byte word_rule b ≡ true)
name_bytes (b ∷ rest) are =
    let fits : b < 256 = are 0 in
    All-cons (λ b. is_name_byte word_rule b ≡ true) (slice_index lower_digits (b / 16)) (slice_index lower_digits (b % 16) ∷ encode_lower rest) (digit_byte (b / 16) (omega arith))
    (All-cons (λ b. is_name_byte word_rule b ≡ true) (slice_index lower_digits (b % 16)) (encode_lower rest) (digit_byte (b % 16) (omega arith)) (name_bytes rest (λ i. are (suc i))))

name_first : (bytes : List ℕ) → IsBytes bytes → length bytes ≡ 32 → slice_index (encode_lower bytes) 0 ≢ 45
unfolding encode_with
name_first [] are long = absurd (omega (arith, long))
name_first (b ∷ rest) are long =
    let fits : b < 256 = are 0 in
    let other = digit_first (b / 16) (omega arith) in
    λ e. (let clash : true ≡ false = grind (arith, nat_tests) in (cc))

-- the digits of a digest are a name
digest_name : (bytes : List ℕ) → IsBytes bytes → length bytes ≡ 32 → IsName word_rule (encode_lower bytes)
digest_name bytes are long =
    let count = length-encode_with lower_digits bytes in
    record { bytes = name_bytes bytes are; some = omega (arith, count, long); few = omega (arith, count, long); first = name_first bytes are long; last = λ none. (cc) }

pub digest_part : (bytes : List ℕ) → IsBytes bytes → length bytes ≡ 32 → is_part (encode_lower bytes) ≡ true
digest_part bytes are long = name_is_part word_rule (encode_lower bytes) (digest_name bytes are long)

-- ---- a path's parts below a folder

pub few_steps : (folder start path seen : Path) → IsPath folder → IsFrom start path (Some seen) → ups_of folder + ups_of seen < 2 ^ 32
few_steps folder start path seen is from =
    let none : ups_of seen ≡ 0 = ap ups_of from.2 in
    omega (arith, none, ap ups_of is.key_is, ups_most is.rooted is.ups is.parts, is.path.small)

-- what a path has after its anchor
seen_parts : (start path seen : Path) → IsPath path → start ≡ take 1 path → IsFrom start path (Some seen) → seen ≡ (46 ∷ []) ∷ parts_of path
seen_parts start path seen known first from =
    let key : path ≡ anchor known.rooted known.ups ∷ known.parts = known.key_is in
    let front : start ≡ anchor known.rooted known.ups ∷ [] = first ∙ ap (take 1) key in
    let whole : path ≡ anchor known.rooted known.ups ∷ from.0 = from.1 ∙ ap (λ s. s ++ from.0) front in
    from.2 ∙ ap (λ p. (46 ∷ []) ∷ parts_of p) (sym whole)

pub joined_below : {E : Type 0} (folder start path seen : Path) (r : Result Path E) → IsPath folder → IsPath path → start ≡ take 1 path → IsFrom start path (Some seen) → IfOk r (λ p. p ≡ joined folder seen) → IfOk r (λ p. p ≡ folder ++ parts_of path)
joined_below folder start path seen r is known first from ok =
    IfOk-weaker r (λ p. p ≡ joined folder seen) (λ p. p ≡ folder ++ parts_of path)
    (λ p e. e ∙ ap (joined folder) (seen_parts start path seen known first from) ∙ joined-here folder (parts_of path) is) ok
