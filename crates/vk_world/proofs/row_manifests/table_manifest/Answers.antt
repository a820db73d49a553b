use Rattle.std.proofs.Common.{◌∙◌, sym, ap, refl}
use Rattle.std.specs.Prelude.{option_map}
use Rattle.vk_registry.specs.TableViews.{row_view}
use Rattle.vk_version.specs.AskViews.{ask_view}
use Rattle.vk_world.proofs.LearnLemmas.{learns_pure, learns_settled}
use Rattle.vk_world.proofs.ManifestLemmas.{meant_learned}
use Rattle.vk_world.proofs.row_manifests.table_manifest.Goals as goal

pub returns-in-None : goal.returns-in-None
returns-in-None g c = rw c.no_answer.ensures (learns_pure refl (λ f known. (known, tt)))

pub returns-in-Some : goal.returns-in-Some
returns-in-Some g c =
    meant_learned c.args.port.now c.args.registry.now c.args.table.now (ask_view c.args.ask.now) (row_view c.in-Some.row.now)
    (sym c.row_meant.ensures ∙ ap (option_map (λ r. row_view r.now)) c.in-Some.is) (learns_settled c.settle.result c.settle.ensures c.row_manifest.ensures)
