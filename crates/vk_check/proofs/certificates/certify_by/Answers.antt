use Rattle.std.proofs.Common.{ap, subst}
use Rattle.std.specs.Prelude.{IfOk, IfSome}
use Rattle.vk_spec.proofs.OptionLemmas.{of_each}
use Rattle.vk_model.specs.SettingViews.{setting_view}
use Rattle.vk_worklist.specs.Entries.{reasons_in}
use Rattle.vk_check.proofs.StepLemmas.{Holds}
use Rattle.vk_check.proofs.certificates.certify_by.Goals as goal

pub certify_from-requires-clause-tracks : goal.certify_from-requires-clause-tracks
certify_from-requires-clause-tracks g c =
    of_each (g.C.Catalogue.state c.args.cat.now).pages (λ pages.
    (c.requires.tracks pages, c.requires.rows pages))

pub returns-clause-certified : goal.returns-clause-certified
returns-clause-certified g c =
    subst (λ s. IfOk c.certify_from.result (λ holds. IfSome (g.C.Catalogue.state c.args.cat.now).pages (Holds (reasons_in c.args.lines.now.entries) holds s))) (ap setting_view c.requires.setting) c.certify_from.ensures.certified
