use Rattle.vk_spec.proofs.AskLemmas.{pages_before}
use Rattle.vk_model.specs.SettingViews.{setting_view}
use Rattle.vk_model.specs.FactViews.{reasons_view}
use Rattle.vk_worklist.specs.Entries.{reasons_in}
use Rattle.vk_close.proofs.CloseLemmas.{AreTold, closure_is}
use Rattle.vk_close.proofs.closures.close.Goals as goal

pub told-requires : goal.told-requires
told-requires g c = record { small = c.in_ok-closed.ensures.small }

pub returns-clause-closure : goal.returns-clause-closure
returns-clause-closure g c =
    closure_is (g.C.Catalogue.state c.args.cat.now).pages (setting_view c.args.setting.now) c.in_ok-told.field-0 c.in_ok-closed.closed.clean (reasons_in c.in_ok-closed.closed.lines.entries)
    c.in_ok-told.ensures.reasons c.in_ok-closed.ensures.reasons c.in_ok-closed.ensures.clean
    (pages_before (AreTold c.in_ok-closed.closed.clean (reasons_view c.in_ok-told.field-0.reasons) c.in_ok-told.field-0.faults) c.in_ok-closed.ensures.asked c.in_ok-told.ensures.faults)
