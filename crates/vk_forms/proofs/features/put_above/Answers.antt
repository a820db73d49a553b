use Rattle.std.proofs.Common.{sym, ◌∙◌}
use Rattle.vk_base.specs.FeatureViews.{feature_view}
use Rattle.vk_forms.proofs.FeatureForms.{name_none, name_some, put_last}
use Rattle.vk_forms.proofs.features.put_above.Goals as goal

pub returns-in_default : goal.returns-in_default
returns-in_default c name above = name_none feature_view c.args.text.now c.read.result c.read.ensures.value c.in_ok-feature.field-0 c.in_ok-feature.ensures c.in_default.is name

pub returns : goal.returns
returns c =
    let it = name_some feature_view c.args.text.now c.read.result c.read.ensures.value c.in_ok-feature.field-0 c.in_ok-feature.ensures c.in-Some.feature c.in-Some.is in (
      it.0,
      sym c.cmp.ensures ∙ c.in-Less.is,
      put_last feature_view c.args.features.now c.push.new.self c.in-Some.feature c.args.text.now c.in_ok-push.ensures.ok it.1,
    )
