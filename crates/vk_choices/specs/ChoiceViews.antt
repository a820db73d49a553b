-- What contracts see of choices: the plain ones of resolution.
use Rattle.std.specs.Prelude.{ℕ, List, map}
use Rattle.vk_resolution.specs.Selections as plain
use Rattle.vk_choices.specs.declared.chosen.Choice.{Choice}
use Rattle.vk_choices.specs.declared.chosen.Choices.{Choices}

-- an entry of the table, as the choice of its port
abbrev pub choice_view : List ℕ × Choice → plain.Choice
choice_view e = record { port = e.0; version = e.1.version; line = e.1.line }

abbrev pub choices_view : Choices → List plain.Choice
choices_view c = map choice_view c.ports.entries
