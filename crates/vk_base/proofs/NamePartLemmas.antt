-- Texts that are parts of a path: a name, or its first byte, and more after it.
use Rattle.std.proofs.Common.{◌≡◌, ◌≢◌, ◌&&◌, ◌||◌, ◌==◌, ℕ, Bool, true, false, not, eqb, List, [], ◌∷◌, ◌++◌, length, get_or, take, refl, arith}
use Rattle.std.specs.Prelude.{nat_le}
use Rattle.std.specs.List.{All}
use Rattle.std.proofs.lemmas.Bool.Decides.{nat_tests}
use Rattle.std.proofs.lemmas.List.Elements.{All-append, All-cons, All-nil, All-head, All-tail}
use Rattle.vk_base.specs.Names.{NameRule, IsName, is_name_byte}
use Rattle.vk_base.specs.Paths.{is_part, lacks}

-- neither `/` nor 0
abbrev is_inside : ℕ → Bool
is_inside b = not (b == 47) && not (b == 0)

abbrev IsInside : ℕ → Type 0
IsInside b = is_inside b ≡ true

-- the same of each byte, as a test that computes
abbrev pub all_inside : List ℕ → Bool
all_inside [] = true
all_inside (b ∷ text) = is_inside b && all_inside text

and_both : (a b : Bool) → (a && b) ≡ true → (a ≡ true) × (b ≡ true)
and_both true true e = (refl, refl)
and_both true false e = (cc)
and_both false b e = (cc)

insides : (text : List ℕ) → all_inside text ≡ true → All IsInside text
insides [] e = All-nil IsInside
insides (b ∷ text) e = let p = and_both (is_inside b) (all_inside text) e in All-cons IsInside b text p.0 (insides text p.1)

lacks_slash : (text : List ℕ) → All IsInside text → lacks 47 text ≡ true
lacks_slash [] all = refl
lacks_slash (c ∷ text) all =
    let inside = All-head IsInside c text all in
    let other : eqb c 47 ≡ false = grind (arith, nat_tests) in
    rw other (lacks_slash text (All-tail IsInside c text all))

lacks_zero : (text : List ℕ) → All IsInside text → lacks 0 text ≡ true
lacks_zero [] all = refl
lacks_zero (c ∷ text) all =
    let inside = All-head IsInside c text all in
    let other : eqb c 0 ≡ false = grind (arith, nat_tests) in
    rw other (lacks_zero text (All-tail IsInside c text all))

-- a text that doesn't begin with a dot
part_of : (b : ℕ) (text : List ℕ) → b ≢ 46 → All IsInside (b ∷ text) → is_part (b ∷ text) ≡ true
part_of b text dot all =
    let other : eqb b 46 ≡ false = grind (arith, nat_tests) in
    let slash = lacks_slash (b ∷ text) all in
    let zero = lacks_zero (b ∷ text) all in
    let some : eqb (length (b ∷ text)) 0 ≡ false = grind (arith, nat_tests) in
    rw (some, other, slash, zero) refl

byte_inside : (rule : NameRule) (b : ℕ) → is_name_byte rule b ≡ true → IsInside b
byte_inside rule b = by rule.underscore
  where
    by : (under : Bool) → ((nat_le 97 b && nat_le b 122) || (nat_le 48 b && nat_le b 57) || (b == 45) || (under && b == 95)) ≡ true → IsInside b
    by true byte = grind (arith, nat_tests)
    by false byte = grind (arith, nat_tests)

byte_no_dot : (rule : NameRule) (b : ℕ) → is_name_byte rule b ≡ true → b ≢ 46
byte_no_dot rule b byte e = by rule.underscore byte
  where
    by : (under : Bool) → ((nat_le 97 b && nat_le b 122) || (nat_le 48 b && nat_le b 57) || (b == 45) || (under && b == 95)) ≡ true → ⊥
    by true byte = let clash : true ≡ false = grind (arith, nat_tests) in (cc)
    by false byte = let clash : true ≡ false = grind (arith, nat_tests) in (cc)

module _ (rule : NameRule) where
  name_inside : (text : List ℕ) → IsName rule text → All IsInside text
  name_inside text name k d within = byte_inside rule (get_or text k d) (name.bytes k d within)

  first_no_dot : (b : ℕ) (rest : List ℕ) → IsName rule (b ∷ rest) → b ≢ 46
  first_no_dot b rest name = byte_no_dot rule b (name.bytes 0 b (omega arith))

  -- a name
  pub name_is_part : (name : List ℕ) → IsName rule name → is_part name ≡ true
  name_is_part [] name = absurd (omega (arith, name.some))
  name_is_part (b ∷ rest) name = part_of b rest (first_no_dot b rest name) (name_inside (b ∷ rest) name)

  -- a name with more after it
  pub name_part : (name more : List ℕ) → IsName rule name → all_inside more ≡ true → is_part (name ++ more) ≡ true
  name_part [] more name all = absurd (omega (arith, name.some))
  name_part (b ∷ rest) more name all = part_of b (rest ++ more) (first_no_dot b rest name) (All-append IsInside (b ∷ rest) more (name_inside (b ∷ rest) name) (insides more all))

  -- a name's first byte with more after it
  pub letter_part : (name more : List ℕ) → IsName rule name → all_inside more ≡ true → is_part (take 1 name ++ more) ≡ true
  letter_part [] more name all = absurd (omega (arith, name.some))
  letter_part (b ∷ rest) more name all = part_of b more (first_no_dot b rest name) (All-cons IsInside b more (byte_inside rule b (name.bytes 0 b (omega arith))) (insides more all))
