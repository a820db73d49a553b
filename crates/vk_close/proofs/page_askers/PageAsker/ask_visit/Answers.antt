use Rattle.vk_spec.specs.Catalogues.{CanAskManifest}
use Rattle.vk_spec.proofs.AskLemmas.{pages_after}
use Rattle.vk_version.specs.AskViews.{ask_view}
use Rattle.vk_model.specs.SettingViews.{setting_view}
use Rattle.vk_close.proofs.FloorLemmas.{can_here}
use Rattle.vk_close.proofs.page_askers.PageAsker.ask_visit.Goals as goal

pub manifest-requires : goal.manifest-requires
manifest-requires g c =
    pages_after (λ pages. CanAskManifest (ask_view c.args.ask.now) (pages c.args.inst.now.port)) c.in_ok-see_any.ensures.asked
    (can_here (setting_view c.args.self.now.setting.now) c.args.inst.now.port (ask_view c.args.ask.now) (g.C.Catalogue.state c.args.cat.now).pages c.in_ok-see_any.ensures.sound c.requires.visited)
