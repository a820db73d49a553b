use Rattle.vk_spec.specs.Catalogues.{CanAskVersion}
use Rattle.vk_spec.proofs.AskLemmas.{asks_later, pages_after}
use Rattle.vk_choices.proofs.FloorLemmas.{floors_more}
use Rattle.vk_choices.proofs.floors.floors_of.Goals as goal

pub version-requires : goal.version-requires
version-requires g c = pages_after (λ pages. CanAskVersion (pages c.args.port.now)) c.loop-asked.invariant.asked c.requires

pub loop-asked-preserved : goal.loop-asked-preserved
loop-asked-preserved g c =
    let said = asks_later c.loop-asked.invariant.asked c.in_ok-found.ensures in
    record {
      asked = said.only;
      floors = floors_more c.args.port.now c.args.asks.now c.loop-asked.asked-index c.asked-item.result c.loop-asked-test.true c.asked-item.is (g.C.Catalogue.state c.args.cat.now).pages c.in_ok-found.found c.loop-asked.floors c.push_found.new.floors
          c.loop-asked.invariant.floors said.told said.kept c.in_ok-push_found.ensures;
    }
