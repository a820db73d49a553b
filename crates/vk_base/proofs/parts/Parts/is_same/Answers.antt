use Rattle.std.proofs.Common.{◌∙◌}
use Rattle.std.specs.Prelude.{string_bytes}
use Rattle.vk_base.proofs.PartLemmas.{same_parts}
use Rattle.vk_base.proofs.parts.Parts.is_same.Goals as goal

pub returns : goal.returns
returns c = rw (← c.self.view_is, ← c.other.view_is) (c.eq.ensures ∙ same_parts (string_bytes c.self.inside.joined) (string_bytes c.other.inside.joined))
