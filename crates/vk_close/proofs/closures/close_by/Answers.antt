use Rattle.std.proofs.Common.{◌∙◌, ap, subst}
use Rattle.std.specs.Prelude.{IfSome}
use Rattle.std.proofs.lemmas.Result.{err_from_is_err_and}
use Rattle.vk_spec.proofs.OptionLemmas.{of_each, of_both}
use Rattle.vk_resolution.specs.Planner.{inputs_of}
use Rattle.vk_resolution.specs.Reasons.{IsReasons}
use Rattle.vk_model.specs.SettingViews.{setting_view}
use Rattle.vk_worklist.specs.Entries.{reasons_in, facts_in}
use Rattle.vk_close.proofs.CloseLemmas.{clean_of}
use Rattle.vk_close.proofs.closures.close_by.Goals as goal

pub close_from-requires-clause-fresh : goal.close_from-requires-clause-fresh
close_from-requires-clause-fresh g c =
    of_each (g.C.Catalogue.state c.args.cat.now).pages (λ pages.
    (c.requires.tracks pages, c.requires.rows pages))

pub returns-in_err-lines-clause-asked : goal.returns-in_err-lines-clause-asked
returns-in_err-lines-clause-asked g c =
    let p = err_from_is_err_and c.from_residual.result c.from_residual.ensures.1 in
    rw (p.1, p.2) c.in_err-lines.ensures.asked

pub returns-clause-reasons : goal.returns-clause-reasons
returns-clause-reasons g c =
    subst (λ s. IfSome (g.C.Catalogue.state c.args.cat.now).pages (λ pages. IsReasons (inputs_of s pages) (reasons_in c.in_ok-lines.lines.entries))) (ap setting_view c.requires.setting) c.in_ok-lines.ensures.ok

pub returns-clause-clean : goal.returns-clause-clean
returns-clause-clean g c =
    clean_of (g.C.Catalogue.state c.args.cat.now).pages c.close_from.new.source.asker (setting_view c.args.setting.now) (facts_in c.in_ok-lines.lines.entries) c.is_clean.result c.is_clean.ensures
    (c.in_ok-lines.ensures.setting ∙ ap setting_view c.requires.setting) (of_both (g.C.Catalogue.state c.args.cat.now).pages c.in_ok-lines.ensures.tracks c.in_ok-lines.ensures.tracks (λ pages kept also. kept.0))
