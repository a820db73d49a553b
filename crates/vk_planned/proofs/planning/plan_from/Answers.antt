use Rattle.std.proofs.Common.{}
use Rattle.vk_planned.proofs.TakenLemmas.{taken_first, taken_graph, taken_flaws}
use Rattle.vk_planned.proofs.planning.plan_from.Goals as goal

pub follow-requires-clause-first : goal.follow-requires-clause-first
follow-requires-clause-first g c = taken_first c.args.basis.now (record { needs = c.in_ok-needs.needs; edges = c.new.result; flaws = c.new-2.result }) (g.C.Catalogue.state c.args.cat.now).pages c.in_ok-needs.ensures c.new.ensures.items c.new-2.ensures.items

pub returns-in-Ok-clause-graph : goal.returns-in-Ok-clause-graph
returns-in-Ok-clause-graph g c = taken_graph c.args.basis.now c.follow.new.planned (g.C.Catalogue.state c.args.cat.now).pages c.requires.sound c.in-Ok.ensures.taken

pub returns-in-Ok-clause-flaws : goal.returns-in-Ok-clause-flaws
returns-in-Ok-clause-flaws g c = taken_flaws c.args.basis.now c.follow.new.planned (g.C.Catalogue.state c.args.cat.now).pages c.in-Ok.ensures.taken
