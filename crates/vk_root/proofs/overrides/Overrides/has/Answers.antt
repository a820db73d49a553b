use Rattle.std.proofs.Common.{◌∙◌}
use Rattle.vk_version.specs.AskViews.{ask_view}
use Rattle.vk_root.proofs.OverrideLemmas.{has_where}
use Rattle.vk_root.proofs.overrides.Overrides.has.Goals as goal

pub returns : goal.returns
returns c = c.is_some.ensures ∙ has_where (λ a. ask_view a.now) c.ask_for.result c.args.self.now c.args.port.now c.ask_for.ensures
