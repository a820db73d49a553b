use Rattle.std.proofs.Common.{[], ◌∷◌}
use Rattle.vk_base.specs.Parts.{parts_in}
use Rattle.vk_base.proofs.PartLemmas.{front_each}
use Rattle.vk_base.proofs.parts.ends_in.Goals as goal

pub last_part-requires-clause-each : goal.last_part-requires-clause-each
last_part-requires-clause-each c = front_each (parts_in c.args.text.now) (parts_in c.in-Some.front.now) (c.in-Some.last.now ∷ []) c.in-Some.ensures.parts.0 c.requires
