-- What the laws of the command line say, in words that don't speak of reading on.
use Rattle.std.specs.Prelude.{◌≡◌, ◌<◌, ◌≤◌, ◌+◌, ◌^◌, ℕ, false, List, length, take, filter, slice_get}
use Rattle.std.specs.Prelude.{Option, Some, None, Ok, Err}
use Rattle.std.specs.Fmt.{decimal}
use Rattle.vk_words.specs.Words.{Words}
use Rattle.vk_words.specs.Options.{option_name, rule_of}
use Rattle.vk_words.specs.Values.{number_in}
use Rattle.vk_words.specs.Arguments.{is_of, argument_in, arguments_in}
use Rattle.vk_words.specs.declared.options.Subcommand.{Subcommand}
use Rattle.vk_words.specs.declared.options.OptionName.{OptionName}
use Rattle.vk_words.specs.declared.arguments.Argument.{Argument}
use Rattle.vk_words.specs.declared.faults.WordFault.{WordFault}
use Rattle.vk_words.specs.declared.faults.WordFault.TheVariants as fault

-- the words before a place have no fault, and the word there has this one
pub record IsFirstFault (command : Subcommand) (words : Words) (wrong : WordFault) : Type 0 where
  pub place : ℕ
  pub word : Option (List ℕ)
  pub stands : slice_get words place ≡ Some word
  pub earlier : List Argument
  pub clean : arguments_in command (take place words) ≡ Ok earlier
  pub has : argument_in command earlier (place + 2) word ≡ Err wrong

-- the number of the word that a fault tells
abbrev pub word_told : WordFault → Option ℕ
word_told (fault.Unknown n) = Some n
word_told (fault.NoValue n) = Some n
word_told (fault.Twice n) = Some n
word_told (fault.BadValue n) = Some n
word_told other = None

-- the first word after the command that has a fault is told, and no other
abbrev pub FirstFaultIsTold : Type 0
FirstFaultIsTold = (command : Subcommand) (words : Words) (wrong : WordFault)
    → arguments_in command words ≡ Err wrong → IsFirstFault command words wrong

abbrev pub ToldIsFirstFault : Type 0
ToldIsFirstFault = (command : Subcommand) (words : Words) (wrong : WordFault)
    → IsFirstFault command words wrong → arguments_in command words ≡ Err wrong

-- it is told with its number
abbrev pub FaultTellsItsWord : Type 0
FaultTellsItsWord = (command : Subcommand) (earlier : List Argument) (n : ℕ) (word : Option (List ℕ)) (wrong : WordFault)
    → argument_in command earlier n word ≡ Err wrong → word_told wrong ≡ Some n

-- where no word has a fault, an option that may not repeat stands once at most
abbrev pub OptionStandsOnce : Type 0
OptionStandsOnce = (command : Subcommand) (words : Words) (arguments : List Argument) (option : OptionName)
    → arguments_in command words ≡ Ok arguments → (rule_of option).repeats ≡ false
    → length (filter (is_of option) arguments) ≤ 1

-- options of one name are one option
abbrev pub NamesAreApart : Type 0
NamesAreApart = (one other : OptionName) → option_name one ≡ option_name other → one ≡ other

-- a number's value is its decimal digits
abbrev pub NumbersAreDecimal : Type 0
NumbersAreDecimal = (most n : ℕ) (text : List ℕ) → most < 2 ^ 32 → number_in most text ≡ Some n
    → (decimal n ≡ text) × (1 ≤ n) × (n ≤ most)

abbrev pub DecimalsAreNumbers : Type 0
DecimalsAreNumbers = (most n : ℕ) (text : List ℕ) → most < 2 ^ 32 → decimal n ≡ text → 1 ≤ n → n ≤ most
    → number_in most text ≡ Some n
