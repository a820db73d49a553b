-- Which texts name a builder.
use Rattle.std.specs.Prelude.{ℕ, List, Result, Ok, codes}
use Rattle.vk_spec.specs.Reading.{◌>>=◌, or_fault}
use Rattle.vk_base.specs.Names.{reads_name, word_rule}
use Rattle.vk_model.specs.Retold.{told_as}
use Rattle.vk_model.specs.Cuts.{cut_at}
use Rattle.vk_model.specs.BuilderTexts.{reads_builder_text}
use Rattle.vk_model.specs.declared.builders.Builder.{Builder}
use Rattle.vk_model.specs.declared.builders.BuilderFault.{BuilderFault}
use Rattle.vk_model.specs.declared.builders.BuilderFault.TheVariants as fault

-- a name of an agent, and what tells it apart from others of this name
unfoldable pub builder_from : List ℕ → List ℕ → Result Builder BuilderFault
builder_from name text = do
  named ← told_as fault.Form (reads_name word_rule name)
  told ← reads_builder_text text
  Ok (record { name = named; text = told })

-- the two with the first `@` between them
unfoldable pub reads_builder : List ℕ → Result Builder BuilderFault
reads_builder text = do
  parts ← or_fault fault.Form (cut_at 64 text)
  builder_from parts.0 parts.1

-- the builder that is meant where none is named
abbrev pub recorded : Builder
recorded = record { name = codes "recorded"; text = codes "1" }
