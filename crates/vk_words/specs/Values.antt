-- What an option's value is.
use Rattle.std.specs.Prelude.{◌&&◌, ℕ, nat_le, List, Option, Some, None, Result, Ok, bytes_eq}
use Rattle.std.specs.Prelude.{if◌then◌else◌}
use Rattle.std.specs.Fmt.{decimal}
use Rattle.std.specs.Str.Parse.{digits_value}
use Rattle.vk_spec.specs.Paths.{Path}
use Rattle.vk_spec.specs.Reading.{◌>>=◌, or_fault}
use Rattle.vk_base.specs.Names.{reads_name, reads_feature, word_rule, port_rule}
use Rattle.vk_base.specs.PathReading.{path_of}
use Rattle.vk_model.specs.Retold.{told_as}
use Rattle.vk_model.specs.Builders.{reads_builder}
use Rattle.vk_model.specs.declared.builders.Builder.{Builder}
use Rattle.vk_words.specs.declared.options.Takes.{Takes}
use Rattle.vk_words.specs.declared.options.Takes.TheVariants as takes
use Rattle.vk_words.specs.declared.values.Value.{Value}
use Rattle.vk_words.specs.declared.values.Value.TheVariants as value
use Rattle.vk_words.specs.declared.faults.WordFault.{WordFault}

-- a number from 1 to the most
abbrev pub within : ℕ → ℕ → Option ℕ
within most n = if nat_le 1 n && nat_le n most then Some n else None

-- such a number, of which a text is the decimal digits without leading zeros
abbrev pub number_in : ℕ → List ℕ → Option ℕ
number_in most text =
    if bytes_eq (decimal (digits_value 10 text)) text then within most (digits_value 10 text)
    else None

-- the value of a text, or this fault
unfoldable pub value_of : WordFault → Takes → List ℕ → Result Value WordFault
value_of bad takes.Nothing text = Ok value.Nothing
value_of bad takes.Triplet text = told_as bad (reads_name word_rule text) >>= λ name. Ok (value.Triplet name)
value_of bad takes.Port text = told_as bad (reads_name port_rule text) >>= λ name. Ok (value.Port name)
value_of bad takes.Feature text = told_as bad (reads_feature text) >>= λ name. Ok (value.Feature name)
value_of bad takes.Path text = told_as bad (path_of text) >>= λ path. Ok (value.Path path)
value_of bad (takes.Number most) text = or_fault bad (number_in most text) >>= λ n. Ok (value.Number n)
value_of bad takes.Agent text = told_as bad (reads_name word_rule text) >>= λ name. Ok (value.Agent name)
value_of bad takes.Builder text = told_as bad (reads_builder text) >>= λ builder. Ok (value.Builder builder)

-- a value that is of this kind
abbrev pub as_triplet : Value → Option (List ℕ)
as_triplet (value.Triplet name) = Some name
as_triplet other = None

abbrev pub as_port : Value → Option (List ℕ)
as_port (value.Port name) = Some name
as_port other = None

abbrev pub as_feature : Value → Option (List ℕ)
as_feature (value.Feature name) = Some name
as_feature other = None

abbrev pub as_path : Value → Option Path
as_path (value.Path path) = Some path
as_path other = None

abbrev pub as_number : Value → Option ℕ
as_number (value.Number n) = Some n
as_number other = None

abbrev pub as_agent : Value → Option (List ℕ)
as_agent (value.Agent name) = Some name
as_agent other = None

abbrev pub as_builder : Value → Option Builder
as_builder (value.Builder builder) = Some builder
as_builder other = None
