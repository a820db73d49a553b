-- The rule of names and the first fault say the same.
use Rattle.std.proofs.Common.{◌≡◌, ◌≢◌, ◌-◌, ◌<◌, ◌≤◌, ◌||◌, ◌&&◌, ◌==◌, ◌⊎◌, ℕ, Bool, true, false, not, cond, ltb, eqb, List, length, take, get_or, inl, inr, refl, ap, sym, ◌∙◌, arith}
use Rattle.std.specs.Prelude.{Option, Some, None}
use Rattle.std.specs.List.{position, position_or_len}
use Rattle.std.proofs.lemmas.Bool.{cases_lt, cond-false}
use Rattle.std.proofs.lemmas.Bool.Decides.{nat_tests}
use Rattle.std.proofs.lemmas.List.{take_all, get_or-take, length-take}
use Rattle.std.proofs.lemmas.List.Quantifiers.{position-Some}
use Rattle.std.proofs.lemmas.List.Sums.{fails_before_first, passes_at_first}
use Rattle.vk_base.specs.Names.{NameRule, IsName, BreaksFirst, is_name_byte, end_fault, fault_from, name_fault}

abbrev pub is_odd : NameRule → ℕ → Bool
is_odd rule b = not (is_name_byte rule b)

-- ends with a hyphen that the rule forbids
abbrev pub is_cut : NameRule → List ℕ → Bool
is_cut rule text = not rule.last_hyphen && eqb (get_or text (length text - 1) 0) 45

cond_None : (b : Bool) (x : ℕ) (rest : Option ℕ) → cond b (Some x) rest ≡ None → (b ≡ false) × (rest ≡ None)
cond_None true x rest e = (cc)
cond_None false x rest e = (refl, e)

from_None : (rule : NameRule) (text : List ℕ) (found : Option ℕ) → fault_from rule text found ≡ None → (found ≡ None) × (end_fault rule text ≡ None)
from_None rule text None e = (refl, e)
from_None rule text (Some k) e = (cc)

-- where the rule forbids the last hyphen, there is none
not_cut : (allowed : Bool) (b : ℕ) → (not allowed && eqb b 45) ≡ false → allowed ≡ false → b ≢ 45
not_cut true b e closed = (cc)
not_cut false b e closed = grind (arith, nat_tests)

last_right : (allowed : Bool) (b : ℕ) → (allowed ≡ false → b ≢ 45) → (not allowed && eqb b 45) ≡ false
last_right true b right = refl
last_right false b right = let other = right refl in grind (arith, nat_tests)

pub neither : (one two : Bool) → (one || two) ≡ false → (one ≡ false) × (two ≡ false)
neither true two e = (cc)
neither false two e = (refl, e)

pub end-None : (rule : NameRule) (text : List ℕ) → end_fault rule text ≡ None → (length text ≤ 200) × (0 < length text) × (rule.last_hyphen ≡ false → get_or text (length text - 1) 0 ≢ 45)
end-None rule text e =
    let long = cond_None (ltb 200 (length text)) 200 (cond (eqb (length text) 0 || is_cut rule text) (Some (length text)) None) e in
    let last = cond_None (eqb (length text) 0 || is_cut rule text) (length text) None long.1 in
    let both = neither (eqb (length text) 0) (is_cut rule text) last.0 in
    let short = long.0 in
    let some = both.0 in
    (grind (arith, nat_tests), grind (arith, nat_tests), not_cut rule.last_hyphen (get_or text (length text - 1) 0) both.1)

pub position-None : (p : ℕ → Bool) (xs : List ℕ) → position p xs ≡ None → (k d : ℕ) → k < length xs → p (get_or xs k d) ≡ false
position-None p xs e k d within =
    let past = cond_None (ltb (position_or_len p xs) (length xs)) (position_or_len p xs) None e in
    fails_before_first p xs k d (grind (arith, nat_tests))

not_false : (b : Bool) → not b ≡ false → b ≡ true
not_false true e = refl
not_false false e = (cc)

not_true : (b : Bool) → b ≡ true → not b ≡ false
not_true true e = refl
not_true false e = (cc)

pub rule_from_no_fault : (rule : NameRule) (text : List ℕ) → name_fault rule text ≡ None → IsName rule text
rule_from_no_fault rule text e =
    let first = cond_None (eqb (get_or text 0 0) 45) 0 (fault_from rule text (position (is_odd rule) (take 200 text))) e in
    let rest = from_None rule text (position (is_odd rule) (take 200 text)) first.1 in
    let end = end-None rule text rest.1 in
    let whole : take 200 text ≡ text = take_all 200 text end.0 in
    let none : position (is_odd rule) text ≡ None = ap (position (is_odd rule)) (sym whole) ∙ rest.0 in
    record {
      bytes = λ k d within. not_false _ (position-None (is_odd rule) text none k d within);
      some = end.1;
      few = end.0;
      first = let e = first.0 in grind (arith, nat_tests);
      last = end.2;
    }

pub position-All : (p : ℕ → Bool) (xs : List ℕ) → ((k d : ℕ) → k < length xs → p (get_or xs k d) ≡ false) → position p xs ≡ None
position-All p xs each =
    elim (cases_lt (position_or_len p xs) (length xs)) [
      | inl at ↦ (let yes = passes_at_first p xs 0 at in let no = each (position_or_len p xs) 0 at in let clash : true ≡ false = sym yes ∙ no in (cc))
      | inr past ↦ (let not_within : ltb (position_or_len p xs) (length xs) ≡ false = grind (arith, nat_tests) in cond-false (ltb (position_or_len p xs) (length xs)) _ _ not_within)
    ]

pub no_fault_from_rule : (rule : NameRule) (text : List ℕ) → IsName rule text → name_fault rule text ≡ None
no_fault_from_rule rule text name =
    let few = name.few in
    let some = name.some in
    let first = name.first in
    let whole : take 200 text ≡ text = take_all 200 text few in
    let none : position (is_odd rule) (take 200 text) ≡ None = ap (position (is_odd rule)) whole ∙ position-All (is_odd rule) text (λ k d within. not_true _ (name.bytes k d within)) in
    let short : ltb 200 (length text) ≡ false = grind (arith, nat_tests) in
    let filled : eqb (length text) 0 ≡ false = grind (arith, nat_tests) in
    let right : is_cut rule text ≡ false = last_right rule.last_hyphen (get_or text (length text - 1) 0) name.last in
    let end : end_fault rule text ≡ None = rw (short, filled, right) refl in
    let not_hyphen : (get_or text 0 0 == 45) ≡ false = grind (arith, nat_tests) in
    ap (λ b. cond b (Some 0) (fault_from rule text (position (is_odd rule) (take 200 text)))) not_hyphen ∙ ap (fault_from rule text) none ∙ end

-- what a fault says of the text before its place
first_case : (test : Bool) (place : ℕ) (rest : Option ℕ) (at : ℕ) → cond test (Some place) rest ≡ Some at → (place ≡ at) × (test ≡ true) ⊎ (rest ≡ Some at) × (test ≡ false)
first_case true place rest at e = inl ((cc), refl)
first_case false place rest at e = inr (e, refl)

no_place : (at : ℕ) → None ≡ Some at → ⊥
no_place at e = (cc)

end_place : (rule : NameRule) (text : List ℕ) (at : ℕ) → end_fault rule text ≡ Some at → (at ≤ 200) × (at ≤ length text)
end_place rule text at e =
    elim (first_case (ltb 200 (length text)) 200 (cond (eqb (length text) 0 || is_cut rule text) (Some (length text)) None) at e) [
      | inl long ↦ (let past = long.1 in let more : 200 < length text = grind (arith, nat_tests) in (omega (arith, long.0), omega (arith, long.0, more)))
      | inr short ↦ (let few = short.1 in
          let most : length text ≤ 200 = grind (arith, nat_tests) in
          elim (first_case (eqb (length text) 0 || is_cut rule text) (length text) None at short.0) [
            | inl end ↦ (omega (arith, end.0, most), omega (arith, end.0))
            | inr none ↦ absurd (no_place at none.0)
          ])
    ]

before_found : (rule : NameRule) (text : List ℕ) (at k : ℕ) → at ≤ length text → ((j : ℕ) → j < at → is_odd rule (get_or (take 200 text) j 0) ≡ false) → at ≤ 200 → k < at → is_name_byte rule (get_or text k 0) ≡ true
before_found rule text at k within each few before =
    not_false (is_name_byte rule (get_or text k 0)) (ap (is_odd rule) (sym (get_or-take 200 text k 0 (omega (arith, few, before)))) ∙ each k before)

found_place : (rule : NameRule) (text : List ℕ) (found : Option ℕ) (at : ℕ) → position (is_odd rule) (take 200 text) ≡ found → fault_from rule text found ≡ Some at → eqb (get_or text 0 0) 45 ≡ false → BreaksFirst rule text at
found_place rule text (Some k) at is e plain =
    let same : k ≡ at = (cc) in
    let says = position-Some (is_odd rule) (take 200 text) k 0 is in
    let count = length-take 200 text in
    record {
      within = omega (arith, same, says.0, count);
      few = omega (arith, same, says.0, count);
      before = λ j below. before_found rule text k j (omega (arith, says.0, count)) says.2 (omega (arith, says.0, count)) (omega (arith, same, below));
      first = λ some. grind (arith, nat_tests);
    }
found_place rule text None at is e plain =
    let place = end_place rule text at e in
    let count = length-take 200 text in
    record {
      within = place.1;
      few = place.0;
      before = λ j below. before_found rule text at j place.1 (λ i less. position-None (is_odd rule) (take 200 text) is i 0 (omega (arith, less, place.0, place.1, count))) place.0 below;
      first = λ some. grind (arith, nat_tests);
    }

pub breaks_first : (rule : NameRule) (text : List ℕ) (at : ℕ) → name_fault rule text ≡ Some at → BreaksFirst rule text at
breaks_first rule text at e =
    elim (first_case (eqb (get_or text 0 0) 45) 0 (fault_from rule text (position (is_odd rule) (take 200 text))) at e) [
      | inl front ↦ record {
        within = omega (arith, front.0);
        few = omega (arith, front.0);
        before = λ k below. absurd (omega (arith, front.0, below));
        first = λ some. absurd (omega (arith, front.0, some));
      }
      | inr later ↦ found_place rule text (position (is_odd rule) (take 200 text)) at refl later.0 later.1
    ]
