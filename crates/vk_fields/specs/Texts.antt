-- Texts that have a rule of their own.
use Rattle.std.specs.Prelude.{ℕ, Bool, List, Result, Ok}
use Rattle.std.specs.List.{list_any}
use Rattle.vk_spec.specs.Reading.{◌>>=◌}
use Rattle.vk_spec.specs.Paths.{Path}
use Rattle.vk_spec.specs.Versions.{Ask}
use Rattle.vk_base.specs.Names.{reads_name, reads_feature, port_rule}
use Rattle.vk_base.specs.PathReading.{path_of}
use Rattle.vk_version.specs.declared.faults.VersionFault.{VersionFault}
use Rattle.vk_version.specs.Texts.{is_hash}
use Rattle.vk_version.specs.Readings.{reads_ask, unless, string_fault}
use Rattle.vk_spec.specs.Conditions.{Condition}
use Rattle.vk_expr.specs.Reading.{reading_of}
use Rattle.vk_json.specs.declared.faults.Why.{Why}
use Rattle.vk_json.specs.Readings.{Reading, text_at}
use Rattle.vk_fields.specs.Wording.{name_word, path_word, version_word, expression_word}
use Rattle.vk_fields.specs.Saying.{said_here}

-- a text, and what a rule says of it
abbrev pub by_rule : {A F : Type 0} → (F → Why) → (List ℕ → Result A F) → Reading A
by_rule word rule d = text_at d >>= λ text. said_here word (rule text)

abbrev pub port_name_at : Reading (List ℕ)
port_name_at = by_rule name_word (reads_name port_rule)

-- a feature's name, which is neither `core` nor `default`
abbrev pub feature_name_at : Reading (List ℕ)
feature_name_at = by_rule name_word reads_feature

abbrev pub path_at : Reading Path
path_at = by_rule path_word path_of

abbrev pub expression_at : Reading Condition
expression_at = by_rule expression_word reading_of

-- a minimum: a text, and maybe `#` and a port-version
abbrev pub ask_at : Reading Ask
ask_at = by_rule version_word reads_ask

-- the text of an ask without `#`
abbrev pub reads_plain : List ℕ → Result (List ℕ) VersionFault
reads_plain text = unless (string_fault text) text

abbrev pub plain_at : Reading (List ℕ)
plain_at = by_rule version_word reads_plain

-- an ask, and whether its text says the port-version
pub record WrittenAsk : Type 0 where
  pub ask : Ask
  pub numbered : Bool

unfoldable pub reads_written : List ℕ → Result WrittenAsk VersionFault
reads_written text = do
  ask ← reads_ask text
  Ok (record { ask = ask; numbered = list_any is_hash text })

abbrev pub written_at : Reading WrittenAsk
written_at = by_rule version_word reads_written
