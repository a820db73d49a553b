use Rattle.std.proofs.Common.{◌≡◌, ◌++◌}
use Rattle.std.specs.Vec.Iter.{into_iter_items}
use Rattle.vk_planned.specs.Links.{Links}
use Rattle.vk_planned.specs.Needs.{facts_view, needs_in}
use Rattle.vk_planned.proofs.links.link_all.Given as goal

abbrev pub invariant-loop-fact : goal.invariant-loop-fact
invariant-loop-fact l = record {
  split : l.yielded ++ into_iter_items l.fact-iterator ≡ l.fn.asked;
  links : Links l.place (needs_in l.yielded) (facts_view l.initial.needs.keys) (facts_view l.needs.keys) l.initial.edges.items l.edges.items;
}
