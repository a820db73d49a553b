use Rattle.vk_model.specs.SettingViews.{setting_view}
use Rattle.vk_world.specs.Worlds.{state_of}
use Rattle.vk_app.proofs.CheckLemmas.{judged}
use Rattle.vk_app.proofs.checks.judged_by.Goals as goal

pub returns-clause-content : goal.returns-clause-content
returns-clause-content g c = judged (setting_view c.args.setting.now) c.args.bytes.now c.check.result (state_of g.T.Tree.state c.args.world.now) c.check.ensures.verdict c.check.ensures.facts
