-- A fault is told by its name and its number, and a word is both.
use Rattle.std.proofs.Common.{◌≡◌, ◌<◌, ◌^◌, ◌==◌, ℕ, List, [], ◌∷◌, length, take, drop, Option, Some, None, inl, inr, refl, ap, sym, ◌∙◌, arith, drop_at, length-append}
use Rattle.std.specs.Prelude.{IfSome}
use Rattle.std.specs.Fmt.{decimal}
use Rattle.std.specs.List.{AllByRecursion, find, position_or_len}
use Rattle.std.specs.Str.{bytes_eq}
use Rattle.std.proofs.lemmas.Bool.{cases_Bool}
use Rattle.std.proofs.lemmas.Fmt.{decimal_injective}
use Rattle.std.proofs.lemmas.List.{take_all, take_at}
use Rattle.std.proofs.lemmas.Slice.Eq.{bytes_eq-Decides}
use Rattle.vk_json.specs.declared.faults.Why.{Why}
use Rattle.vk_json.specs.declared.faults.Why.TheVariants as why
use Rattle.vk_json.specs.declared.words.TheConstants.{PLAIN}
use Rattle.vk_json.specs.Words.{HasSmallNumber, name_of, number_in, with_number, word_of}

-- ---- from a name and a number to the fault

-- those that tell this number, or none
abbrev pub whys_of : Option ℕ → List Why
whys_of None = PLAIN
whys_of (Some n) = why.Unexpected n ∷ why.Mixed n ∷ why.Open n ∷ why.Line n ∷ []

-- the first of them with this name
abbrev pub why_of : List ℕ → Option ℕ → Option Why
why_of name number = find (λ w. bytes_eq (name_of w) name) (whys_of number)

number_is : (number : Option ℕ) → AllByRecursion (λ w. number_in w ≡ number) (whys_of number)
number_is None = search
number_is (Some n) = (refl, (refl, (refl, (refl, tt))))

found_in : (name : List ℕ) (number : Option ℕ) (ws : List Why) → AllByRecursion (λ w. number_in w ≡ number) ws
    → IfSome (find (λ w. bytes_eq (name_of w) name) ws) (λ w. (name_of w ≡ name) × (number_in w ≡ number))
found_in name number [] all = tt
found_in name number (w ∷ ws) all =
    elim (cases_Bool (bytes_eq (name_of w) name)) [
      | inl same ↦ rw same ((bytes_eq-Decides (name_of w) name).0 same, all.0)
      | inr other ↦ rw other (found_in name number ws all.1)
    ]

-- what is found has the name and the number
pub why_found : (name : List ℕ) (number : Option ℕ) → IfSome (why_of name number) (λ w. (name_of w ≡ name) × (number_in w ≡ number))
why_found name number = found_in name number (whys_of number) (number_is number)

-- a fault is found by its name and number, and its name is what stands before its word's first colon
told : (w : Why) → (why_of (name_of w) (number_in w) ≡ Some w) × (position_or_len (λ b. b == 58) (word_of w) ≡ length (name_of w))
told why.Absent = (refl, refl)
told why.Large = (refl, refl)
told why.Json = (refl, refl)
told why.Object = (refl, refl)
told why.List = (refl, refl)
told why.Text = (refl, refl)
told why.Bool = (refl, refl)
told why.Number = (refl, refl)
told why.Item = (refl, refl)
told why.Missing = (refl, refl)
told why.Name = (refl, refl)
told why.Reserved = (refl, refl)
told why.TwoVersions = (refl, refl)
told why.NoVersion = (refl, refl)
told why.Version = (refl, refl)
told why.Range = (refl, refl)
told why.Day = (refl, refl)
told (why.Unexpected n) = (refl, refl)
told (why.Mixed n) = (refl, refl)
told (why.Open n) = (refl, refl)
told why.Depth = (refl, refl)
told why.Path = (refl, refl)
told why.Kind = (refl, refl)
told why.Pattern = (refl, refl)
told why.Twice = (refl, refl)
told why.Many = (refl, refl)
told (why.Line n) = (refl, refl)
told why.Utf8 = (refl, refl)

same_parts : (v w : Why) → name_of v ≡ name_of w → number_in v ≡ number_in w → v ≡ w
same_parts v w name number =
    let found : Some v ≡ Some w = sym (told v).0 ∙ rw (name, number) (told w).0 in
    (cc)

-- ---- from a word to its name and number

front_is : (name : List ℕ) (number : Option ℕ) → take (length name) (with_number name number) ≡ name
front_is name None = take_all (length name) name (omega arith)
front_is name (Some n) = take_at name (58 ∷ decimal n) (length name) refl

same_number : (name : List ℕ) (a b : Option ℕ) → IfSome a (λ n. n < 2 ^ 32) → IfSome b (λ n. n < 2 ^ 32) → with_number name a ≡ with_number name b → a ≡ b
same_number name None None x y e = refl
same_number name None (Some n) x y e = absurd (omega (arith, ap length e, length-append name (58 ∷ decimal n)))
same_number name (Some n) None x y e = absurd (omega (arith, ap length e, length-append name (58 ∷ decimal n)))
same_number name (Some m) (Some n) x y e =
    let same : 58 ∷ decimal m ≡ 58 ∷ decimal n = sym (drop_at name (58 ∷ decimal m) (length name) refl) ∙ ap (drop (length name)) e ∙ drop_at name (58 ∷ decimal n) (length name) refl in
    ap Some (decimal_injective m n (omega arith) (omega arith) (ap (drop 1) same))

-- no two faults have one word
pub words_differ : (one other : Why) → HasSmallNumber one → HasSmallNumber other → word_of one ≡ word_of other → one ≡ other
words_differ one other x y e =
    let lengths : length (name_of one) ≡ length (name_of other) = sym (told one).1 ∙ ap (position_or_len (λ b. b == 58)) e ∙ (told other).1 in
    let names : name_of one ≡ name_of other = sym (front_is (name_of one) (number_in one)) ∙ rw (lengths, e) (front_is (name_of other) (number_in other)) in
    let words : with_number (name_of one) (number_in one) ≡ with_number (name_of one) (number_in other) = e ∙ ap (λ name. with_number name (number_in other)) (sym names) in
    same_parts one other names (same_number (name_of one) (number_in one) (number_in other) x y words)
