-- The builder that is meant where none is named.
use Rattle.std.proofs.Common.{◌≡◌, refl}
use Rattle.std.specs.Prelude.{Option, Some, None, Ok, Err, codes}
use Rattle.vk_spec.specs.Reading.{Fails}
use Rattle.vk_model.specs.BuilderTexts.{reads_builder_text}
use Rattle.vk_model.specs.Builders.{reads_builder, builder_from, recorded}

-- its text reads
pub recorded_reads : reads_builder (codes "recorded@1") ≡ Ok recorded
unfolding reads_builder builder_from reads_builder_text
recorded_reads = refl

-- what reads has no fault
pub no_fault_told : {A F : Type 0} (told : Option F) (x : A) → Fails told (Ok x) → told ≡ None
no_fault_told None x fails = refl
no_fault_told (Some f) x fails = let no : Ok x ≡ Err f = fails in (cc)
