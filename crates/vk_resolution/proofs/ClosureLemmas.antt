-- There is one closure, or there are too many facts.
use Rattle.std.proofs.Common.{◌≡◌, ◌<◌, ◌≤◌, ◌+◌, ◌⊎◌, ℕ, zero, suc, List, [], ◌∷◌, length, take, inl, inr, refl, ap, sym, ◌∙◌, subst, arith}
use Rattle.std.specs.List.{Contains}
use Rattle.std.proofs.lemmas.Bool.{cases_lt}
use Rattle.std.proofs.lemmas.List.{length-take-le, length-map}
use Rattle.vk_spec.specs.Lists.{NoRepeats}
use Rattle.vk_spec.proofs.ListLemmas.{contains_nothing, contains_first, contains_later, contains_cases}
use Rattle.vk_resolution.specs.Least.{IsForced, IsLeast}
use Rattle.vk_resolution.specs.Asking.{Fact, fact_key}
use Rattle.vk_resolution.specs.Consequences.{Inputs, rules_of}
use Rattle.vk_resolution.specs.Reasons.{Reason, IsReasons, facts_of}
use Rattle.vk_resolution.specs.Faults.{first_faults_of}
use Rattle.vk_resolution.specs.Outcomes.{Printing, lines_of, by_first}
use Rattle.vk_resolution.specs.Closures.{Closure, HasTooManyFacts, HasClosure, ClosureRefuses, ClosureIsOne, ClosureOrTooMany, TooManyIsNoClosure}
use Rattle.vk_resolution.proofs.FactLemmas.{fact_key-IsKey}
use Rattle.vk_resolution.proofs.LeastLemmas.{no_longer}
use Rattle.vk_resolution.proofs.Rounds.{least_exists}
use Rattle.vk_resolution.proofs.Existence.{reasons_there}
use Rattle.vk_resolution.proofs.Uniqueness.{reasons_same}

same_closure : (one other : Closure) → one.reasons ≡ other.reasons → one.faults ≡ other.faults → one ≡ other
same_closure one other reasons faults = λ i. record { reasons = reasons i; faults = faults i }

pub closure_is_one : ClosureIsOne
closure_is_one inputs bytes one other is is_other =
    let same = reasons_same inputs one.reasons other.reasons is.reasons is_other.reasons in
    same_closure one other same (is.faults ∙ ap (λ r. lines_of bytes (first_faults_of inputs (facts_of r))) same ∙ sym is_other.faults)

pub closure_refuses : ClosureRefuses
closure_refuses inputs bytes closure is some = (is.reasons, by_first (λ none. some (is.faults ∙ ap (lines_of bytes) none)) is.faults)

-- the first of a list
take_contains : {X : Type 0} (n : ℕ) (xs : List X) (x : X) → Contains (take n xs) x → Contains xs x
take_contains zero xs x h = absurd (contains_nothing x h)
take_contains (suc n) [] x h = h
take_contains (suc n) (y ∷ ys) x h =
    elim (contains_cases y x (take n ys) h) [
      | inl same ↦ subst (Contains (y ∷ ys)) same (contains_first y ys)
      | inr later ↦ contains_later y x ys (take_contains n ys x later)
    ]

take_distinct : {X : Type 0} (n : ℕ) (xs : List X) → NoRepeats xs → NoRepeats (take n xs)
take_distinct zero xs distinct = tt
take_distinct (suc n) [] distinct = tt
take_distinct (suc n) (y ∷ ys) distinct = ((λ h. distinct.0 (take_contains n ys y h)), take_distinct n ys distinct.1)

facts_long : (reasons : List Reason) → length (facts_of reasons) ≡ length reasons
facts_long reasons = length-map reasons (λ (r : Reason). r.fact)

-- where more facts are forced than the setting allows, there are too many
pub too_many : (inputs : Inputs) (facts : List Fact) → IsForced (rules_of inputs) facts → inputs.setting.max_facts < length facts → HasTooManyFacts inputs
too_many inputs facts forced more = record {
  facts = take (inputs.setting.max_facts + 1) facts;
  forced = record {
    distinct = take_distinct (inputs.setting.max_facts + 1) facts forced.distinct;
    within = λ other closed x h. forced.within other closed x (take_contains (inputs.setting.max_facts + 1) facts x h);
  };
  more = length-take-le (inputs.setting.max_facts + 1) facts (omega arith);
}

module _ (inputs : Inputs) (bytes : Printing) (facts : List Fact) (least : IsLeast (rules_of inputs) facts) (reasons : List Reason) (same : facts_of reasons ≡ facts) (is : IsReasons inputs reasons) where
  few_or_many : HasClosure inputs bytes ⊎ HasTooManyFacts inputs
  few_or_many =
      elim (cases_lt inputs.setting.max_facts (length facts)) [
        | inl more ↦ inr (too_many inputs facts least.forced more)
        | inr few ↦ inl (
            let long : length reasons ≡ length facts = sym (facts_long reasons) ∙ ap length same in
            record {
              closure = record { reasons = reasons; faults = lines_of bytes (first_faults_of inputs (facts_of reasons)) };
              is_closure = record { reasons = is; faults = refl };
              few = omega arith;
            }
            )
      ]

pub closure_or_too_many : ClosureOrTooMany
closure_or_too_many inputs bytes closed is_closed =
    let facts = least_exists (rules_of inputs) fact_key fact_key-IsKey closed is_closed in
    let r = reasons_there inputs facts.0 facts.1.least facts.1 in
    few_or_many inputs bytes facts.0 facts.1.least r.0 r.1 r.2

pub too_many_is_no_closure : TooManyIsNoClosure
too_many_is_no_closure inputs many reasons is =
    let short : length many.facts ≤ length (facts_of reasons) = no_longer many.facts (facts_of reasons) many.forced.distinct (many.forced.within (facts_of reasons) is.facts.least.closed) in
    let long : length (facts_of reasons) ≡ length reasons = facts_long reasons in
    let more : length many.facts ≡ inputs.setting.max_facts + 1 = many.more in
    omega arith
