use Rattle.std.proofs.Common.{◌≡◌, ◌++◌, subst}
use Rattle.std.specs.Prelude.{OnOk}
use Rattle.vk_model.specs.Views.{dependency_view}
use Rattle.vk_model.specs.SettingViews.{setting_view}
use Rattle.vk_root.specs.Requirers.{requirer_view}
use Rattle.vk_rules.specs.Asked.{facts_view}
use Rattle.vk_rules.proofs.AskedLemmas.{other_is}
use Rattle.vk_rules.proofs.setting_rules.push_asked.Goals as goal

pub returns : goal.returns
returns c =
    subst (λ l. OnOk c.push_at.result (facts_view c.push_at.new.facts ≡ facts_view c.args.facts.now ++ l))
    (other_is (setting_view c.args.rules.now) (requirer_view c.args.who) (dependency_view c.args.dependency.now) c.args.marks.now.names c.triplet_for-triplet.result.now
    (rw (← c.is_own.ensures) c.if-is_own.false) c.triplet_for-triplet.ensures c.requires)
    c.push_at.ensures
