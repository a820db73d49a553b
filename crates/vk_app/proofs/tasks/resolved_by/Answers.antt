use Rattle.vk_model.specs.SettingViews.{setting_view}
use Rattle.vk_world.specs.Worlds.{state_of}
use Rattle.vk_app.proofs.DoneLemmas.{settled}
use Rattle.vk_app.proofs.tasks.resolved_by.Goals as goal

pub returns-clause-content : goal.returns-clause-content
returns-clause-content g c = settled (setting_view c.args.setting.now) c.resolve.result (state_of g.T.Tree.state c.args.world.now) c.resolve.ensures.resolved c.resolve.ensures.facts
