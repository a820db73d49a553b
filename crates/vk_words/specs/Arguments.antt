-- What the words after the command say: each is an option, and its value.
use Rattle.std.specs.Prelude.{◌||◌, ◌+◌, ℕ, Bool, not, List, [], Option, Some, None, Result, Ok, Err}
use Rattle.std.specs.Prelude.{bytes_eq, find, filter_map, option_map, option_and_then}
use Rattle.std.specs.Prelude.{if◌then◌else◌}
use Rattle.std.specs.List.{list_any}
use Rattle.vk_spec.specs.Paths.{Path}
use Rattle.vk_spec.specs.Reading.{◌>>=◌, or_fault, read_after}
use Rattle.vk_base.specs.declared.features.FeatureName.{FeatureName}
use Rattle.vk_base.specs.declared.features.FeatureName.TheVariants as feature
use Rattle.vk_model.specs.declared.builders.Builder.{Builder}
use Rattle.vk_words.specs.Words.{Words, Parts, parts_of}
use Rattle.vk_words.specs.Options.{option_name, option_named, rule_of}
use Rattle.vk_words.specs.Values.{value_of, as_triplet, as_port, as_feature, as_path, as_number}
use Rattle.vk_words.specs.Values.{as_agent, as_builder}
use Rattle.vk_words.specs.declared.options.Subcommand.{Subcommand}
use Rattle.vk_words.specs.declared.options.OptionName.{OptionName}
use Rattle.vk_words.specs.declared.options.OptionName.TheVariants as option
use Rattle.vk_words.specs.declared.options.Takes.{Takes}
use Rattle.vk_words.specs.declared.options.Takes.TheVariants as takes
use Rattle.vk_words.specs.declared.values.Value.{Value}
use Rattle.vk_words.specs.declared.arguments.Argument.{Argument}
use Rattle.vk_words.specs.declared.faults.WordFault.{WordFault}
use Rattle.vk_words.specs.declared.faults.WordFault.TheVariants as fault

-- ---- what was said of an option

-- an argument is of this option
abbrev pub is_of : OptionName → Argument → Bool
is_of option argument = bytes_eq (option_name argument.option) (option_name option)

abbrev pub is_given : OptionName → List Argument → Bool
is_given option arguments = list_any (is_of option) arguments

-- the value of an option that stands once
abbrev pub value_given : OptionName → List Argument → Option Value
value_given option arguments = option_map (λ a. a.value) (find (is_of option) arguments)

abbrev pub triplet_given : OptionName → List Argument → Option (List ℕ)
triplet_given option arguments = option_and_then as_triplet (value_given option arguments)

abbrev pub path_given : OptionName → List Argument → Option Path
path_given option arguments = option_and_then as_path (value_given option arguments)

abbrev pub number_given : OptionName → List Argument → Option ℕ
number_given option arguments = option_and_then as_number (value_given option arguments)

abbrev pub port_given : List Argument → Option (List ℕ)
port_given arguments = option_and_then as_port (value_given option.Port arguments)

abbrev pub agent_given : List Argument → Option (List ℕ)
agent_given arguments = option_and_then as_agent (value_given option.Agent arguments)

abbrev pub builder_given : List Argument → Option Builder
builder_given arguments = option_and_then as_builder (value_given option.Builder arguments)

-- the values of an option that may repeat, in the order of the words
abbrev pub path_by : OptionName → Argument → Option Path
path_by option argument = if is_of option argument then as_path argument.value else None

abbrev pub paths_given : OptionName → List Argument → List Path
paths_given option arguments = filter_map (path_by option) arguments

abbrev pub feature_by : Argument → Option FeatureName
feature_by argument =
    if is_of option.Feature argument then option_map feature.Named (as_feature argument.value)
    else None

abbrev pub features_given : List Argument → List FeatureName
features_given arguments = filter_map feature_by arguments

-- ---- one word

-- the text that an option takes: a flag has none, and every other option must have one
abbrev pub text_for : Takes → ℕ → Option (List ℕ) → Result (List ℕ) WordFault
text_for takes.Nothing n None = Ok []
text_for takes.Nothing n (Some text) = Err (fault.Unknown n)
text_for other n None = Err (fault.NoValue n)
text_for other n (Some text) = Ok text

-- an option that was given already may stand again only where it repeats
abbrev pub check_once : OptionName → ℕ → List Argument → Result (Unit {0}) WordFault
check_once option n earlier =
    if (rule_of option).repeats || not (is_given option earlier) then Ok tt else Err (fault.Twice n)

-- what these parts of the n-th word say to a command, after these arguments
unfoldable pub argument_from : Subcommand → List Argument → ℕ → Parts → Result Argument WordFault
argument_from command earlier n parts = do
  option ← or_fault (fault.Unknown n) (option_named command parts.name)
  text ← text_for (rule_of option).takes n parts.value
  once ← check_once option n earlier
  value ← value_of (fault.BadValue n) (rule_of option).takes text
  Ok (record { option = option; value = value })

-- what the n-th word says
unfoldable pub argument_in : Subcommand → List Argument → ℕ → Option (List ℕ) → Result Argument WordFault
argument_in command earlier n word = do
  text ← or_fault (fault.Unknown n) word
  argument_from command earlier n (parts_of text)

-- ---- all words after the command, of which the first is the second of the command line

abbrev pub argument_at : Subcommand → List Argument → ℕ → Option (List ℕ) → Result Argument WordFault
argument_at command earlier place word = argument_in command earlier (place + 2) word

abbrev pub arguments_in : Subcommand → Words → Result (List Argument) WordFault
arguments_in command words = read_after (argument_at command) [] 0 words
