use Rattle.std.proofs.Common.{◌≡◌, ◌++◌, false}
use Rattle.vk_spec.specs.Catalogues.{OnPages, OnlyAsked}
use Rattle.vk_choices.specs.declared.asks.Asked.{Asked}
use Rattle.vk_choices.specs.Rows.{Rows, AreInOrder}
use Rattle.vk_choices.specs.Settling.{AreSettledFor}
use Rattle.vk_choices.proofs.SettleLemmas.{AreBehind}
use Rattle.vk_choices.proofs.settling.Settled.settle_rows.Given as goal

abbrev pub invariant-loop-port : goal.invariant-loop-port
invariant-loop-port g l = record {
  asked : OnlyAsked false (g.C.Catalogue.state l.initial.cat) (g.C.Catalogue.state l.cat);
  done : Rows Asked;
  split : done ++ l.port-iterator ≡ l.rows.entries;
  ordered : AreInOrder l.port-iterator;
  settled : OnPages (λ pages. AreSettledFor pages done l.self) (g.C.Catalogue.state l.initial.cat);
  behind : AreBehind l.port-iterator l.self;
}
