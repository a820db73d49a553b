-- Which texts tell apart the builders of one name.
use Rattle.std.specs.Prelude.{ℕ, nat_lt, List, length, Result, Ok, Err, if◌then◌else◌}
use Rattle.vk_spec.specs.Reading.{◌>>=◌}
use Rattle.vk_version.specs.Schemes as scheme
use Rattle.vk_version.specs.Readings.{reads_version}
use Rattle.vk_model.specs.Retold.{told_as}
use Rattle.vk_model.specs.declared.builders.BuilderFault.{BuilderFault}
use Rattle.vk_model.specs.declared.builders.BuilderFault.TheVariants as fault

-- a text that `version-string` allows, of at most 200 bytes
unfoldable pub reads_builder_text : List ℕ → Result (List ℕ) BuilderFault
reads_builder_text text =
    if nat_lt 200 (length text) then Err fault.Form
    else (told_as fault.Form (reads_version scheme.string text 0) >>= λ version. Ok text)
