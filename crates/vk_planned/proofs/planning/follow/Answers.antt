use Rattle.std.proofs.Common.{◌≡◌, length, subst, arith}
use Rattle.vk_spec.specs.Catalogues.{OnPages}
use Rattle.vk_planned.specs.Followed.{IsTakenUp}
use Rattle.vk_planned.proofs.TakenLemmas.{taken_all, taken_steps}
use Rattle.vk_planned.proofs.planning.follow.Goals as goal

pub returns-then-place-len-clause-taken : goal.returns-then-place-len-clause-taken
returns-then-place-len-clause-taken g c =
    let same : c.loop-place.place ≡ length c.loop-place.planned.needs.keys = omega (arith, c.len.ensures.len) in
    subst (λ k. OnPages (IsTakenUp c.args.basis.now k c.loop-place.planned) (g.C.Catalogue.state c.args.cat.now)) same c.loop-place.invariant.taken

pub returns-then-place-len-clause-ticks : goal.returns-then-place-len-clause-ticks
returns-then-place-len-clause-ticks g c =
    taken_steps c.args.basis.now c.loop-place.place c.args.steps.now c.loop-place.steps c.loop-place.planned (g.C.Catalogue.state c.args.cat.now).pages (omega (arith, c.loop-place.invariant.within, c.loop-place.invariant.ticks)) c.requires.sound c.loop-place.invariant.taken

pub returns-in_err-take_up-clause-ticks : goal.returns-in_err-take_up-clause-ticks
returns-in_err-take_up-clause-ticks g c =
    taken_steps c.args.basis.now c.loop-place.place c.args.steps.now c.take_up.new.steps c.loop-place.planned (g.C.Catalogue.state c.args.cat.now).pages (omega (arith, c.len.ensures.len, c.loop-place.invariant.ticks, c.take_up.ensures.ticks)) c.requires.sound c.loop-place.invariant.taken

pub returns-clause-taken : goal.returns-clause-taken
returns-clause-taken g c =
    taken_all c.args.basis.now c.loop-place.place c.loop-place.planned (g.C.Catalogue.state c.args.cat.now).pages c.loop-place-test.false c.loop-place.invariant.within c.requires.sound c.loop-place.invariant.taken

pub returns-clause-ticks : goal.returns-clause-ticks
returns-clause-ticks g c =
    taken_steps c.args.basis.now c.loop-place.place c.args.steps.now c.loop-place.steps c.loop-place.planned (g.C.Catalogue.state c.args.cat.now).pages (omega (arith, c.loop-place.invariant.within, c.loop-place.invariant.ticks)) c.requires.sound c.loop-place.invariant.taken
