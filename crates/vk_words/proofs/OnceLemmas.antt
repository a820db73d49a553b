-- An option that may not repeat stands once at most.
use Rattle.std.proofs.Common.{◌≡◌, ◌+◌, ◌≤◌, ◌||◌, ℕ, Bool, true, false, not, cond, List, [], ◌∷◌, ◌++◌, length, refl, ap, sym, subst, ◌∙◌, inl, inr, arith}
use Rattle.std.specs.Prelude.{Option, Some, Result, Ok, Err, find, filter, bytes_eq}
use Rattle.std.specs.List.{list_any}
use Rattle.std.proofs.lemmas.Bool.{cases_Bool}
use Rattle.std.proofs.lemmas.List.{append-nil}
use Rattle.std.proofs.lemmas.Slice.Eq.{bytes_eq-Decides}
use Rattle.vk_spec.specs.Reading.{read_after}
use Rattle.vk_words.specs.Options.{option_name, options, rule_of}
use Rattle.vk_words.specs.Arguments.{is_of, is_given, argument_at}
use Rattle.vk_words.specs.Laws.{OptionStandsOnce, NamesAreApart}
use Rattle.vk_words.specs.declared.options.OptionName.{OptionName}
use Rattle.vk_words.specs.declared.options.OptionName.TheVariants as option
use Rattle.vk_words.specs.declared.arguments.Argument.{Argument}
use Rattle.vk_words.proofs.StepLemmas.{word_may_stand}

-- ---- names

-- the option of this name, whoever has it
abbrev pub named : List ℕ → Option OptionName
named name = find (λ o. bytes_eq (option_name o) name) options

named_itself : (o : OptionName) → named (option_name o) ≡ Some o
named_itself option.Triplet = refl
named_itself option.HostTriplet = refl
named_itself option.Project = refl
named_itself option.Feature = refl
named_itself option.NoDefaultFeatures = refl
named_itself option.OverlayPorts = refl
named_itself option.OverlayTriplets = refl
named_itself option.MaxFacts = refl
named_itself option.MaxBytes = refl
named_itself option.Builder = refl
named_itself option.Port = refl
named_itself option.PortTriplet = refl
named_itself option.Installed = refl
named_itself option.Cache = refl
named_itself option.Agent = refl
named_itself option.Report = refl
named_itself option.Size = refl

pub names_are_apart : NamesAreApart
names_are_apart one other same =
    let both : Some one ≡ Some other = sym (named_itself one) ∙ ap named same ∙ named_itself other in (cc)

-- an argument is of its own option alone
pub is_of_its : (o : OptionName) (a : Argument) → is_of o a ≡ true → a.option ≡ o
is_of_its o a is = names_are_apart a.option o ((bytes_eq-Decides (option_name a.option) (option_name o)).0 is)

-- ---- counting

filter_none : {X : Type 0} (p : X → Bool) (xs : List X) → list_any p xs ≡ false → filter p xs ≡ []
filter_none p [] none = refl
filter_none p (x ∷ xs) none =
    elim (cases_Bool (p x)) [
      | inl is ↦ (let found : list_any p (x ∷ xs) ≡ true = rw is refl in let no : true ≡ false = sym found ∙ none in (cc))
      | inr other ↦ (let rest : list_any p xs ≡ false = rw other at none in rw other (filter_none p xs rest))
    ]

filter_push : {X : Type 0} (p : X → Bool) (xs : List X) (x : X) → filter p (xs ++ x ∷ []) ≡ filter p xs ++ cond (p x) (x ∷ []) []
filter_push p [] x = refl
filter_push p (y ∷ ys) x =
    elim (cases_Bool (p y)) [
      | inl is ↦ rw is (ap (λ l. y ∷ l) (filter_push p ys x))
      | inr other ↦ rw other (filter_push p ys x)
    ]

-- what is given at most once
abbrev pub AtMostOnce : OptionName → List Argument → Type 0
AtMostOnce o arguments = length (filter (is_of o) arguments) ≤ 1

-- one that may not repeat may stand only where it doesn't yet
not_yet : (repeats given : Bool) → (repeats || not given) ≡ true → repeats ≡ false → given ≡ false
not_yet true given may never = (cc)
not_yet false true may never = (cc)
not_yet false false may never = refl

push_first : (o : OptionName) (earlier : List Argument) (a : Argument) → is_given o earlier ≡ false
    → AtMostOnce o (earlier ++ a ∷ [])
push_first o earlier a none =
    elim (cases_Bool (is_of o a)) [
      | inl is ↦ rw (filter_push (is_of o) earlier a, filter_none (is_of o) earlier none, is) (omega arith)
      | inr other ↦ rw (filter_push (is_of o) earlier a, filter_none (is_of o) earlier none, other) (omega arith)
    ]

push_other : (o : OptionName) (earlier : List Argument) (a : Argument) → is_of o a ≡ false → AtMostOnce o earlier
    → AtMostOnce o (earlier ++ a ∷ [])
push_other o earlier a other once =
    rw (filter_push (is_of o) earlier a, other, append-nil (filter (is_of o) earlier)) once

push_once : (o : OptionName) (earlier : List Argument) (a : Argument) → (rule_of o).repeats ≡ false
    → ((rule_of a.option).repeats || not (is_given a.option earlier)) ≡ true → AtMostOnce o earlier
    → AtMostOnce o (earlier ++ a ∷ [])
push_once o earlier a never may once =
    elim (cases_Bool (is_of o a)) [
      | inl is ↦ (
          let may_o = subst (λ x. ((rule_of x).repeats || not (is_given x earlier)) ≡ true) (is_of_its o a is) may in
          push_first o earlier a (not_yet (rule_of o).repeats (is_given o earlier) may_o never))
      | inr other ↦ push_other o earlier a other once
    ]

-- ---- what each step keeps, all keep

module _ {X A F : Type 0} (f : List A → ℕ → X → Result A F) (P : List A → Type 0) where
  kept_by : (read : List A) (n : ℕ) (x : X) (xs : List X) (all : List A) (answer : Result A F) → f read n x ≡ answer
      → ((y : A) → f read n x ≡ Ok y → read_after f (read ++ y ∷ []) (n + 1) xs ≡ Ok all → P all)
      → read_after f read n (x ∷ xs) ≡ Ok all → P all
  unfolding read_after
  kept_by read n x xs all (Ok y) is rest reads = rest y is (rw is at reads)
  kept_by read n x xs all (Err e) is rest reads = let no : Err e ≡ Ok all = rw is at reads in (cc)

  pub keeps : ((read : List A) (n : ℕ) (x : X) (y : A) → P read → f read n x ≡ Ok y → P (read ++ y ∷ []))
      → (read : List A) (n : ℕ) (xs : List X) (all : List A) → P read → read_after f read n xs ≡ Ok all → P all
  unfolding read_after
  keeps step read n [] all so_far reads = let same : Ok read ≡ Ok all = reads in let is : read ≡ all = (cc) in subst P is so_far
  keeps step read n (x ∷ xs) all so_far reads =
      kept_by read n x xs all (f read n x) refl
      (λ y is rest. keeps step (read ++ y ∷ []) (n + 1) xs all (step read n x y so_far is) rest) reads

pub stands_once : OptionStandsOnce
stands_once command words arguments o reads never =
    keeps (argument_at command) (AtMostOnce o)
    (λ earlier place word a once is. push_once o earlier a never (word_may_stand command earlier (place + 2) word a is) once)
    [] 0 words arguments (omega arith) reads
