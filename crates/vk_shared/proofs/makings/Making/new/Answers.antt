use Rattle.std.proofs.Common.{ap, ◌∙◌}
use Rattle.vk_protocol.specs.Turns.{goes}
use Rattle.vk_make.specs.Makes.{make_from, make_of, none_yet}
use Rattle.vk_shared.specs.MakeMachine.{new_work}
use Rattle.vk_shared.proofs.makings.Making.new.Goals as goal

pub returns-in-Ok-clause-left : goal.returns-in-Ok-clause-left
unfolding make_of
returns-in-Ok-clause-left c s =
    let w = new_work s c.args.cache.now c.args.agent.now c.args.max_bytes in
    c.begun.ensures.left s
    ∙ ap (λ v. goes (make_from v c.in_ok-later.later (none_yet v.most))) (c.in-Ok.ensures s)
    ∙ ap (λ later. goes (make_from w later (none_yet w.most))) c.in_ok-later.ensures
