use Rattle.std.proofs.Common.{◌≡◌, ◌++◌, subst}
use Rattle.std.specs.Prelude.{OnOk}
use Rattle.vk_base.specs.FeatureViews.{feature_view}
use Rattle.vk_root.specs.Roots.{root_setting}
use Rattle.vk_root.specs.NamedInstances.{instances_view}
use Rattle.vk_root.proofs.NamedLemmas.{named_made}
use Rattle.vk_root.proofs.off_lists.push_feature.Goals as goal

pub returns : goal.returns
returns c =
    subst (λ l. OnOk c.push_all.result (instances_view c.push_all.new.named ≡ instances_view c.args.named.now ++ l))
    (named_made (root_setting c.args.root) c.own_marks.result.now.names c.args.only (feature_view c.args.feature.now) c.dependencies_of-dependencies.result.now c.own_marks.ensures c.dependencies_of-dependencies.ensures)
    c.push_all.ensures
