-- The pattern that a text is.
use Rattle.std.specs.Prelude.{◌==◌, ◌&&◌, ℕ, Bool, not, List, length, slice_index, Result, Ok, Err}
use Rattle.std.specs.Prelude.{if◌then◌else◌}
use Rattle.std.specs.List.{list_any, list_all, before_first, after_first}
use Rattle.vk_spec.specs.Reading.{◌>>=◌}
use Rattle.vk_base.specs.declared.names.NameFault.{NameFault}
use Rattle.vk_base.specs.Names.{port_rule, is_name_byte, reads_name}
use Rattle.vk_json.specs.declared.faults.Why.{Why}
use Rattle.vk_json.specs.declared.faults.Why.TheVariants as why
use Rattle.vk_json.specs.declared.faults.FileFault.{FileFault}
use Rattle.vk_json.specs.Places.{here}
use Rattle.vk_json.specs.Readings.{Reading, text_at}
use Rattle.vk_fields.specs.Saying.{said_here}
use Rattle.vk_config.specs.Configs.{Pattern, exact, starting}

abbrev pub is_star : ℕ → Bool
is_star b = b == 42

-- how names of ports may begin, or nothing at all
abbrev pub is_beginning : List ℕ → Bool
is_beginning text = list_all (is_name_byte port_rule) text && not (slice_index text 0 == 45)

-- a text that is no name is no pattern
abbrev pub pattern_word : NameFault → Why
pattern_word wrong = why.Pattern

-- a beginning, where nothing stands after the star
abbrev pub starred : List ℕ → List ℕ → Result Pattern FileFault
starred text rest = if length rest == 0
    && is_beginning text then Ok (starting text) else Err (here why.Pattern)

-- a port's name
unfoldable pub named : List ℕ → Result Pattern FileFault
named text = said_here pattern_word (reads_name port_rule text) >>= λ name. Ok (exact name)

-- a port's name, or how names begin and then a star
abbrev pub pattern_of : List ℕ → Result Pattern FileFault
pattern_of text =
    if list_any is_star text then starred (before_first is_star text)
    (after_first is_star text) else named text

abbrev pub pattern_at : Reading Pattern
pattern_at d = text_at d >>= pattern_of
