-- What each step of reading a word says.
use Rattle.std.proofs.Common.{◌≡◌, ◌||◌, ℕ, Bool, true, false, not, cond, List, [], refl, ap, sym, subst, ◌∙◌}
use Rattle.std.specs.Prelude.{Option, Some, None, Result, Ok, Err}
use Rattle.vk_spec.specs.Reading.{◌>>=◌, or_fault}
use Rattle.vk_model.specs.Retold.{told_as}
use Rattle.vk_base.specs.Names.{reads_name, reads_feature, word_rule, port_rule}
use Rattle.vk_base.specs.PathReading.{path_of}
use Rattle.vk_model.specs.Builders.{reads_builder}
use Rattle.vk_words.specs.Words.{Parts, parts_of}
use Rattle.vk_words.specs.Options.{option_named, rule_of}
use Rattle.vk_words.specs.Values.{value_of, number_in}
use Rattle.vk_words.specs.Arguments.{argument_in, argument_from, text_for, check_once, is_given}
use Rattle.vk_words.specs.Laws.{word_told, FaultTellsItsWord}
use Rattle.vk_words.specs.declared.options.Subcommand.{Subcommand}
use Rattle.vk_words.specs.declared.options.Takes.{Takes}
use Rattle.vk_words.specs.declared.options.Takes.TheVariants as takes
use Rattle.vk_words.specs.declared.arguments.Argument.{Argument}
use Rattle.vk_words.specs.declared.faults.WordFault.{WordFault}
use Rattle.vk_words.specs.declared.faults.WordFault.TheVariants as fault
use Rattle.vk_spec.proofs.ReadingLemmas.{bind_ok}

pub ok_is : {A F : Type 0} (r : Result A F) (x y : A) → r ≡ Ok x → r ≡ Ok y → x ≡ y
ok_is r x y one other = (cc)

err_is : {A F : Type 0} (r : Result A F) (x y : F) → r ≡ Err x → r ≡ Err y → x ≡ y
err_is r x y one other = (cc)

-- what failed has a fault of the first step, or of the next
pub bind_fails : {A B F : Type 0} (P : F → Type 0) (r : Result A F) (next : A → Result B F) (wrong : F)
    → ((w : F) → r ≡ Err w → P w) → ((x : A) (w : F) → next x ≡ Err w → P w) → (r >>= next) ≡ Err wrong → P wrong
bind_fails P (Ok x) next wrong first then_on fails = then_on x wrong fails
bind_fails P (Err e) next wrong first then_on fails = subst P (err_is (Err e >>= next) e wrong refl fails) (first e refl)

-- ---- the faults of each step

missing_told : {A F : Type 0} (e wrong : F) (o : Option A) → or_fault e o ≡ Err wrong → wrong ≡ e
missing_told e wrong None fails = let is : Err e ≡ Err wrong = fails in (cc)
missing_told e wrong (Some x) fails = let no : Ok x ≡ Err wrong = fails in (cc)

retold : {A F G : Type 0} (e wrong : G) (r : Result A F) → told_as e r ≡ Err wrong → wrong ≡ e
retold e wrong (Ok x) fails = let no : Ok x ≡ Err wrong = fails in (cc)
retold e wrong (Err other) fails = let is : Err e ≡ Err wrong = fails in (cc)

made : {A F : Type 0} (x : A) (wrong e : F) → Ok x ≡ Err wrong → wrong ≡ e
made x wrong e clash = (cc)

-- of a value there is one fault
value_fails : (bad : WordFault) (t : Takes) (text : List ℕ) (wrong : WordFault) → value_of bad t text ≡ Err wrong → wrong ≡ bad
unfolding value_of
value_fails bad takes.Nothing text wrong fails = made _ wrong bad fails
value_fails bad takes.Triplet text wrong fails = bind_fails (λ w. w ≡ bad) (told_as bad (reads_name word_rule text)) _ wrong (λ w. retold bad w _) (λ x w. made _ w bad) fails
value_fails bad takes.Port text wrong fails = bind_fails (λ w. w ≡ bad) (told_as bad (reads_name port_rule text)) _ wrong (λ w. retold bad w _) (λ x w. made _ w bad) fails
value_fails bad takes.Feature text wrong fails = bind_fails (λ w. w ≡ bad) (told_as bad (reads_feature text)) _ wrong (λ w. retold bad w _) (λ x w. made _ w bad) fails
value_fails bad takes.Path text wrong fails = bind_fails (λ w. w ≡ bad) (told_as bad (path_of text)) _ wrong (λ w. retold bad w _) (λ x w. made _ w bad) fails
value_fails bad (takes.Number most) text wrong fails = bind_fails (λ w. w ≡ bad) (or_fault bad (number_in most text)) _ wrong (λ w. missing_told bad w _) (λ x w. made _ w bad) fails
value_fails bad takes.Agent text wrong fails = bind_fails (λ w. w ≡ bad) (told_as bad (reads_name word_rule text)) _ wrong (λ w. retold bad w _) (λ x w. made _ w bad) fails
value_fails bad takes.Builder text wrong fails = bind_fails (λ w. w ≡ bad) (told_as bad (reads_builder text)) _ wrong (λ w. retold bad w _) (λ x w. made _ w bad) fails

number_told : (n : ℕ) (e wrong : WordFault) → word_told e ≡ Some n → wrong ≡ e → word_told wrong ≡ Some n
number_told n e wrong told is = ap word_told is ∙ told

text_fails : (t : Takes) (n : ℕ) (value : Option (List ℕ)) (wrong : WordFault) → text_for t n value ≡ Err wrong → word_told wrong ≡ Some n
text_fails takes.Nothing n None wrong fails = let no : Ok [] ≡ Err wrong = fails in (cc)
text_fails takes.Nothing n (Some text) wrong fails = let is : Err (fault.Unknown n) ≡ Err wrong = fails in number_told n (fault.Unknown n) wrong refl (cc)
text_fails takes.Triplet n None wrong fails = let is : Err (fault.NoValue n) ≡ Err wrong = fails in number_told n (fault.NoValue n) wrong refl (cc)
text_fails takes.Port n None wrong fails = let is : Err (fault.NoValue n) ≡ Err wrong = fails in number_told n (fault.NoValue n) wrong refl (cc)
text_fails takes.Feature n None wrong fails = let is : Err (fault.NoValue n) ≡ Err wrong = fails in number_told n (fault.NoValue n) wrong refl (cc)
text_fails takes.Path n None wrong fails = let is : Err (fault.NoValue n) ≡ Err wrong = fails in number_told n (fault.NoValue n) wrong refl (cc)
text_fails (takes.Number most) n None wrong fails = let is : Err (fault.NoValue n) ≡ Err wrong = fails in number_told n (fault.NoValue n) wrong refl (cc)
text_fails takes.Agent n None wrong fails = let is : Err (fault.NoValue n) ≡ Err wrong = fails in number_told n (fault.NoValue n) wrong refl (cc)
text_fails takes.Builder n None wrong fails = let is : Err (fault.NoValue n) ≡ Err wrong = fails in number_told n (fault.NoValue n) wrong refl (cc)
text_fails takes.Triplet n (Some text) wrong fails = let no : Ok text ≡ Err wrong = fails in (cc)
text_fails takes.Port n (Some text) wrong fails = let no : Ok text ≡ Err wrong = fails in (cc)
text_fails takes.Feature n (Some text) wrong fails = let no : Ok text ≡ Err wrong = fails in (cc)
text_fails takes.Path n (Some text) wrong fails = let no : Ok text ≡ Err wrong = fails in (cc)
text_fails (takes.Number most) n (Some text) wrong fails = let no : Ok text ≡ Err wrong = fails in (cc)
text_fails takes.Agent n (Some text) wrong fails = let no : Ok text ≡ Err wrong = fails in (cc)
text_fails takes.Builder n (Some text) wrong fails = let no : Ok text ≡ Err wrong = fails in (cc)

-- a test that stands for a fault
abbrev pub twice_if : Bool → ℕ → Result (Unit {0}) WordFault
twice_if may n = cond may (Ok tt) (Err (fault.Twice n))

twice_fails : (may : Bool) (n : ℕ) (wrong : WordFault) → twice_if may n ≡ Err wrong → word_told wrong ≡ Some n
twice_fails true n wrong fails = let no : Ok tt ≡ Err wrong = fails in (cc)
twice_fails false n wrong fails = let is : Err (fault.Twice n) ≡ Err wrong = fails in number_told n (fault.Twice n) wrong refl (cc)

pub may_stand : (may : Bool) (n : ℕ) → twice_if may n ≡ Ok tt → may ≡ true
may_stand true n is = refl
may_stand false n is = let no : Err (fault.Twice n) ≡ Ok tt = is in (cc)

-- ---- a whole word

parts_fail : (command : Subcommand) (earlier : List Argument) (n : ℕ) (parts : Parts) (wrong : WordFault)
    → argument_from command earlier n parts ≡ Err wrong → word_told wrong ≡ Some n
unfolding argument_from
parts_fail command earlier n parts wrong fails =
    bind_fails (λ w. word_told w ≡ Some n) (or_fault (fault.Unknown n) (option_named command parts.name)) _ wrong
    (λ w is. number_told n (fault.Unknown n) w refl (missing_told (fault.Unknown n) w _ is))
    (λ option w rest.
    bind_fails (λ w. word_told w ≡ Some n) (text_for (rule_of option).takes n parts.value) _ w
    (λ w. text_fails (rule_of option).takes n parts.value w)
    (λ text w rest.
    bind_fails (λ w. word_told w ≡ Some n) (check_once option n earlier) _ w
    (λ w. twice_fails ((rule_of option).repeats || not (is_given option earlier)) n w)
    (λ once w rest.
    bind_fails (λ w. word_told w ≡ Some n) (value_of (fault.BadValue n) (rule_of option).takes text) _ w
    (λ w is. number_told n (fault.BadValue n) w refl (value_fails (fault.BadValue n) (rule_of option).takes text w is))
    (λ value w no. ap word_told (made _ w (fault.BadValue n) no))
    rest)
    rest)
    rest)
    fails

pub fault_tells_its_word : FaultTellsItsWord
unfolding argument_in
fault_tells_its_word command earlier n word wrong fails =
    bind_fails (λ w. word_told w ≡ Some n) (or_fault (fault.Unknown n) word) _ wrong
    (λ w is. number_told n (fault.Unknown n) w refl (missing_told (fault.Unknown n) w word is))
    (λ text w rest. parts_fail command earlier n (parts_of text) w rest)
    fails

-- what the option of a word is, and that it may stand
pub option_may_stand : (command : Subcommand) (earlier : List Argument) (n : ℕ) (parts : Parts) (argument : Argument)
    → argument_from command earlier n parts ≡ Ok argument
    → ((rule_of argument.option).repeats || not (is_given argument.option earlier)) ≡ true
unfolding argument_from
option_may_stand command earlier n parts argument reads =
    let named = bind_ok (or_fault (fault.Unknown n) (option_named command parts.name)) _ argument reads in
    let taken = bind_ok (text_for (rule_of named.0).takes n parts.value) _ argument named.2 in
    let once = bind_ok (check_once named.0 n earlier) _ argument taken.2 in
    let value = bind_ok (value_of (fault.BadValue n) (rule_of named.0).takes taken.0) _ argument once.2 in
    let same : argument.option ≡ named.0 = sym (ap (λ a. a.option) (ok_is (Ok argument) _ argument (sym value.2) refl)) in
    rw same (may_stand _ n once.1)

pub word_may_stand : (command : Subcommand) (earlier : List Argument) (n : ℕ) (word : Option (List ℕ)) (argument : Argument)
    → argument_in command earlier n word ≡ Ok argument
    → ((rule_of argument.option).repeats || not (is_given argument.option earlier)) ≡ true
unfolding argument_in
word_may_stand command earlier n word argument reads =
    let text = bind_ok (or_fault (fault.Unknown n) word) _ argument reads in
    option_may_stand command earlier n (parts_of text.0) argument text.2
