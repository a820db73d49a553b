use Rattle.std.proofs.Common.{◌≡◌, ◌++◌, refl, subst}
use Rattle.std.specs.Prelude.{OnOk}
use Rattle.vk_model.specs.Views.{dependency_view}
use Rattle.vk_model.specs.SettingViews.{setting_view}
use Rattle.vk_root.specs.Roots.{instance_at}
use Rattle.vk_rules.specs.Asked.{facts_view}
use Rattle.vk_rules.proofs.AskedLemmas.{at_is}
use Rattle.vk_rules.proofs.setting_rules.push_at.Goals as goal

pub returns : goal.returns
returns c =
    subst (λ l. OnOk c.push_other.result (facts_view c.push_other.new.facts ≡ facts_view c.args.facts.now ++ l))
    (at_is (setting_view c.args.rules.now) (dependency_view c.args.dependency.now) c.args.marks.now.names c.args.triplet.now (instance_at c.args.dependency.now.name c.args.triplet.now) c.in_ok-off.off refl c.in_ok-off.ensures)
    c.push_other.ensures
