use Rattle.std.proofs.Common.{}
use Rattle.vk_planned.proofs.TakenLemmas.{taken_needed, taken_next}
use Rattle.vk_planned.proofs.planning.take_up.Goals as goal

pub expand-requires-clause-needed : goal.expand-requires-clause-needed
expand-requires-clause-needed g c =
    taken_needed c.args.basis.now c.args.place c.args.place c.args.planned.now c.index.result.now (g.C.Catalogue.state c.args.cat.now).pages c.index.ensures c.requires.sound c.requires.taken

pub returns-clause-taken : goal.returns-clause-taken
returns-clause-taken g c =
    taken_next c.args.basis.now c.args.place c.args.planned.now (record { needs = c.link_all.new.needs; edges = c.link_all.new.edges; flaws = c.push.new.self }) c.index.result.now
    c.in_ok-asked.field-0.asked c.in_ok-asked.field-0.flaw (g.C.Catalogue.state c.args.cat.now).pages c.index.ensures c.in_ok-push.ensures.items c.in_ok-link_all.ensures c.in_ok-asked.ensures.asked c.in_ok-asked.ensures.flaw c.requires.taken
