use Rattle.std.proofs.Common.{false, take, map}
use Rattle.vk_spec.specs.Catalogues.{OnPages, OnlyAsked}
use Rattle.vk_choices.specs.Asks.{asked_view}
use Rattle.vk_choices.specs.Floors.{AreFloors}
use Rattle.vk_choices.proofs.floors.floors_of.Given as goal

abbrev pub invariant-loop-asked : goal.invariant-loop-asked
invariant-loop-asked g l = record {
  asked : OnlyAsked false (g.C.Catalogue.state l.initial.cat) (g.C.Catalogue.state l.cat);
  floors : OnPages (λ pages. AreFloors pages l.port (map asked_view (take l.asked-index l.asks)) l.floors) (g.C.Catalogue.state l.initial.cat);
}
