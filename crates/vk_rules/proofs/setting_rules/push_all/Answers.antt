use Rattle.std.proofs.Common.{◌++◌, ap, ◌∙◌}
use Rattle.vk_model.specs.SettingViews.{setting_view}
use Rattle.vk_root.specs.Requirers.{requirer_view}
use Rattle.vk_rules.specs.Asked.{facts_view}
use Rattle.vk_rules.proofs.AskedLemmas.{asked_all}
use Rattle.vk_rules.proofs.setting_rules.push_all.Goals as goal

pub returns : goal.returns
returns c = c.loop-dependency.invariant ∙ ap (λ l. facts_view c.args.facts.now ++ l) (asked_all (setting_view c.args.rules.now) (requirer_view c.args.who) c.args.dependencies.now c.loop-dependency.dependency-index c.loop-dependency-test.false)
