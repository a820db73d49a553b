use Rattle.std.proofs.Common.{sym, ap, ◌∙◌}
use Rattle.std.specs.List.{join_with_byte}
use Rattle.vk_base.proofs.PartLemmas.{join_parts}
use Rattle.vk_base.proofs.parts.Parts.as_str.Goals as goal

pub returns-clause-joined : goal.returns-clause-joined
returns-clause-joined c = sym (join_parts c.as_str.result.now) ∙ ap (join_with_byte 47) (rw (← c.as_str.ensures.value) at c.self.view_is)
