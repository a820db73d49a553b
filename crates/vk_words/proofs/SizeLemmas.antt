-- A size that the words give is one that its option allows.
use Rattle.std.proofs.Common.{◌≡◌, ◌+◌, ◌<◌, ◌≤◌, ◌^◌, ℕ, List, [], ◌∷◌, refl, ap, sym, subst, ◌∙◌, arith}
use Rattle.std.specs.Prelude.{Option, Some, None, Result, Ok, Err, find, option_map, option_and_then}
use Rattle.std.specs.List.{All}
use Rattle.std.proofs.lemmas.List.Elements.{All-nil, All-push, All-contains}
use Rattle.vk_spec.specs.Reading.{◌>>=◌, or_fault}
use Rattle.vk_spec.proofs.ReadingLemmas.{bind_ok}
use Rattle.vk_resolution.proofs.Members.{found_contains}
use Rattle.vk_words.specs.Words.{Words, Parts, parts_of}
use Rattle.vk_words.specs.Options.{command_named, option_named, rule_of}
use Rattle.vk_words.specs.Values.{value_of, number_in, as_number}
use Rattle.vk_words.specs.Arguments.{is_of, number_given, path_given, port_given, text_for, check_once, argument_from, argument_in, argument_at, arguments_in}
use Rattle.vk_words.specs.Commands.{project_in, plan_in, abi_in, install_in, check_in, load_in, command_from, command_line, reads_words}
use Rattle.vk_words.specs.declared.options.Subcommand.{Subcommand}
use Rattle.vk_words.specs.declared.options.Subcommand.TheVariants as command
use Rattle.vk_words.specs.declared.options.OptionName.{OptionName}
use Rattle.vk_words.specs.declared.options.OptionName.TheVariants as option
use Rattle.vk_words.specs.declared.options.Takes.TheVariants as takes
use Rattle.vk_words.specs.declared.values.Value.{Value}
use Rattle.vk_words.specs.declared.values.Value.TheVariants as value
use Rattle.vk_words.specs.declared.arguments.Argument.{Argument}
use Rattle.vk_words.specs.declared.commands.Command.{Command}
use Rattle.vk_words.specs.declared.commands.Command.TheVariants as the
use Rattle.vk_words.specs.declared.faults.WordFault.{WordFault}
use Rattle.vk_words.specs.declared.faults.WordFault.TheVariants as fault
use Rattle.vk_words.proofs.NumberLemmas.{numbers_are_decimal}
use Rattle.vk_words.proofs.StepLemmas.{ok_is}
use Rattle.vk_words.proofs.OnceLemmas.{is_of_its, keeps}

there_is : {A F : Type 0} (wrong : F) (o : Option A) (x : A) → or_fault wrong o ≡ Ok x → o ≡ Some x
there_is wrong None x reads = let no : Err wrong ≡ Ok x = reads in (cc)
there_is wrong (Some y) x reads = let is : Ok y ≡ Ok x = reads in (cc)

-- ---- what each argument keeps

-- a number is from 1 to the most that the argument's option takes
abbrev pub IsAllowed : Argument → Type 0
IsAllowed argument = (most n : ℕ) → most < 2 ^ 32 → (rule_of argument.option).takes ≡ takes.Number most
    → as_number argument.value ≡ Some n → (1 ≤ n) × (n ≤ most)

number_allowed : (bad : WordFault) (most n : ℕ) (text : List ℕ) (read : Value) → most < 2 ^ 32
    → value_of bad (takes.Number most) text ≡ Ok read → as_number read ≡ Some n → (1 ≤ n) × (n ≤ most)
unfolding value_of
number_allowed bad most n text read small reads is =
    let number = bind_ok (or_fault bad (number_in most text)) (λ m. Ok (value.Number m)) read reads in
    let same : Some number.0 ≡ Some n = ap as_number (ok_is (Ok read) (value.Number number.0) read (sym number.2) refl) ∙ is in
    let there = there_is bad (number_in most text) number.0 number.1 ∙ same in
    let told = numbers_are_decimal most n text small there in
    (told.1, told.2)

parts_allowed : (command : Subcommand) (earlier : List Argument) (n : ℕ) (parts : Parts) (argument : Argument)
    → argument_from command earlier n parts ≡ Ok argument → IsAllowed argument
unfolding argument_from
parts_allowed command earlier n parts argument reads =
    let named = bind_ok (or_fault (fault.Unknown n) (option_named command parts.name)) _ argument reads in
    let taken = bind_ok (text_for (rule_of named.0).takes n parts.value) _ argument named.2 in
    let once = bind_ok (check_once named.0 n earlier) _ argument taken.2 in
    let read = bind_ok (value_of (fault.BadValue n) (rule_of named.0).takes taken.0) _ argument once.2 in
    let made = ok_is (Ok argument) _ argument (sym read.2) refl in
    λ most m small takes_it is.
    let rule : (rule_of named.0).takes ≡ takes.Number most = ap (λ a. (rule_of a.option).takes) made ∙ takes_it in
    let number : as_number read.0 ≡ Some m = ap (λ a. as_number a.value) made ∙ is in
    number_allowed (fault.BadValue n) most m taken.0 read.0 small
    (subst (λ t. value_of (fault.BadValue n) t taken.0 ≡ Ok read.0) rule read.1) number

word_allowed : (command : Subcommand) (earlier : List Argument) (n : ℕ) (word : Option (List ℕ)) (argument : Argument)
    → argument_in command earlier n word ≡ Ok argument → IsAllowed argument
unfolding argument_in
word_allowed command earlier n word argument reads =
    let text = bind_ok (or_fault (fault.Unknown n) word) _ argument reads in
    parts_allowed command earlier n (parts_of text.0) argument text.2

all_allowed : (command : Subcommand) (words : Words) (arguments : List Argument)
    → arguments_in command words ≡ Ok arguments → All IsAllowed arguments
all_allowed command words arguments reads =
    keeps (argument_at command) (All IsAllowed)
    (λ earlier place word argument before is.
    All-push IsAllowed earlier argument before (word_allowed command earlier (place + 2) word argument is))
    [] 0 words arguments (All-nil IsAllowed) reads

-- ---- the number of an option

number_by : (o : Option Argument) (n : ℕ) → option_and_then as_number (option_map (λ a. a.value) o) ≡ Some n
    → (argument : Argument) × (o ≡ Some argument) × (as_number argument.value ≡ Some n)
number_by None n is = (cc)
number_by (Some argument) n is = (argument, refl, is)

given_allowed : (o : OptionName) (most n : ℕ) (arguments : List Argument) → most < 2 ^ 32
    → (rule_of o).takes ≡ takes.Number most → All IsAllowed arguments → number_given o arguments ≡ Some n
    → (1 ≤ n) × (n ≤ most)
given_allowed o most n arguments small takes_it all given =
    let by = number_by (find (is_of o) arguments) n given in
    let found = found_contains (is_of o) arguments by.0 by.1 in
    let its : by.0.option ≡ o = is_of_its o by.0 found.1 in
    All-contains IsAllowed arguments by.0 all found.0 most n small
    (ap (λ p. (rule_of p).takes) its ∙ takes_it) by.2

-- ---- the size of a command

-- what doesn't end in a size has none
no_size : {A : Type 0} (r : Result A WordFault) (next : A → Result Command WordFault) (n : ℕ)
    → ((x : A) → next x ≡ Ok (the.SelfLoad n) → ⊥) → (r >>= next) ≡ Ok (the.SelfLoad n) → ⊥
no_size r next n never reads = let x = bind_ok r next (the.SelfLoad n) reads in never x.0 x.2

size_given : (command : Subcommand) (arguments : List Argument) (n : ℕ)
    → command_from command arguments ≡ Ok (the.SelfLoad n) → number_given option.Size arguments ≡ Some n
unfolding plan_in abi_in install_in check_in load_in
size_given command.Plan arguments n reads = absurd (no_size (project_in arguments) _ n (λ project e. (cc)) reads)
size_given command.Abi arguments n reads =
    let project = bind_ok (project_in arguments) _ (the.SelfLoad n) reads in
    absurd (no_size (or_fault _ (port_given arguments)) _ n (λ port e. (cc)) project.2)
size_given command.Install arguments n reads =
    let project = bind_ok (project_in arguments) _ (the.SelfLoad n) reads in
    absurd (no_size (or_fault _ (path_given option.Cache arguments)) _ n (λ cache e. (cc)) project.2)
size_given command.Check arguments n reads =
    let project = bind_ok (project_in arguments) _ (the.SelfLoad n) reads in
    absurd (no_size (or_fault _ (path_given option.Report arguments)) _ n (λ report e. (cc)) project.2)
size_given command.SelfLoad arguments n reads =
    let size = bind_ok (or_fault _ (number_given option.Size arguments)) (λ m. Ok (the.SelfLoad m)) (the.SelfLoad n) reads in
    let same : size.0 ≡ n = (cc) in
    there_is _ (number_given option.Size arguments) size.0 size.1 ∙ ap Some same

line_allowed : (first : Option (List ℕ)) (rest : Words) (n : ℕ) → command_line first rest ≡ Ok (the.SelfLoad n)
    → (1 ≤ n) × (n ≤ 2000)
unfolding command_line
line_allowed first rest n reads =
    let named = bind_ok (or_fault (fault.Unknown 1) (option_and_then command_named first)) _ (the.SelfLoad n) reads in
    let arguments = bind_ok (arguments_in named.0 rest) (command_from named.0) (the.SelfLoad n) named.2 in
    given_allowed option.Size 2000 n arguments.0 (omega arith) refl
    (all_allowed named.0 rest arguments.0 arguments.1) (size_given named.0 arguments.0 n arguments.2)

pub size_allowed : (words : Words) (n : ℕ) → reads_words words ≡ Ok (the.SelfLoad n) → (1 ≤ n) × (n ≤ 2000)
size_allowed [] n reads = let no : Err fault.NoCommand ≡ Ok (the.SelfLoad n) = reads in (cc)
size_allowed (first ∷ rest) n reads = line_allowed first rest n reads
