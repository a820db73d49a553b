use Rattle.std.proofs.Common.{◌∙◌}
use Rattle.vk_fields.specs.Versions.{key_of}
use Rattle.vk_fields.proofs.KeyLemmas.{has_same}
use Rattle.vk_fields.proofs.versions.keys_in.Goals as goal

pub returns-in-Object : goal.returns-in-Object
returns-in-Object c = λ scheme. c.keys_among.ensures scheme ∙ has_same (key_of scheme) c.args.value.now c.in-Object.object c.as_slice.ensures.value c.in-Object.is
