use Rattle.std.proofs.Common.{◌≡◌, ◌++◌, map, false}
use Rattle.std.specs.Prelude.{flat_map}
use Rattle.std.specs.Vec.Iter.{into_iter_items}
use Rattle.vk_spec.specs.Catalogues.{OnlyAsked, OnPages}
use Rattle.vk_model.specs.FactViews.{fact_view}
use Rattle.std.specs.Map.{keys_of}
use Rattle.vk_worklist.specs.Places.{KeepsSeats}
use Rattle.vk_close.specs.Known.{AreKnown}
use Rattle.vk_close.specs.Steps.{asked_on}
use Rattle.vk_worklist.specs.Entries.{reasons_in}
use Rattle.vk_close.proofs.steps.push_all.Given as goal

abbrev pub invariant-loop-fact : goal.invariant-loop-fact
invariant-loop-fact g l = record {
  split : l.yielded ++ into_iter_items l.fact-iterator ≡ l.fn.facts;
  asked : OnlyAsked false (g.C.Catalogue.state l.initial.cat) (g.C.Catalogue.state l.cat);
  seats : KeepsSeats (keys_of l.initial.ports.entries) (keys_of l.ports.entries);
  known : OnPages (λ pages. AreKnown l.overrides pages l.ports.entries) (g.C.Catalogue.state l.initial.cat);
  brought : OnPages (λ pages. reasons_in l.brought.items ≡ reasons_in l.initial.brought.items ++ flat_map (asked_on l.overrides pages l.line) (map fact_view l.yielded)) (g.C.Catalogue.state l.initial.cat);
}
