use Rattle.std.proofs.lemmas.List.Elements.{All-nil}
use Rattle.vk_base.specs.Names.{IsName, word_rule}
use Rattle.vk_base.specs.FeatureViews.{feature_view}
use Rattle.vk_abi_text.specs.Lines.{feature_line}
use Rattle.vk_abi_text.proofs.PutLemmas.{put_all, put_next, put_none, right_all, right_next}
use Rattle.vk_abi_text.proofs.writing.put_features.Goals as goal

pub loop-feature-init : goal.loop-feature-init
loop-feature-init c = record { lines = put_none c.args.lines.now.keys; right = All-nil (IsName word_rule) }

pub loop-feature-preserved : goal.loop-feature-preserved
loop-feature-preserved c = record {
  lines = put_next feature_view feature_line c.args.features.now c.loop-feature.feature-index c.feature-item.result c.in_ok-feature_line.field-0 c.args.lines.now.keys c.loop-feature.lines.keys c.put.new.lines.keys
      c.loop-feature-test.true c.feature-item.is c.loop-feature.invariant.lines c.in_ok-put.ensures c.in_ok-feature_line.ensures.line;
  right = right_next feature_view (IsName word_rule) c.args.features.now c.loop-feature.feature-index c.feature-item.result c.loop-feature-test.true c.feature-item.is c.loop-feature.invariant.right c.in_ok-feature_line.ensures.right;
}

pub returns-clause-lines : goal.returns-clause-lines
returns-clause-lines c = put_all feature_view feature_line c.args.features.now c.loop-feature.feature-index c.args.lines.now.keys c.loop-feature.lines.keys c.loop-feature-test.false c.loop-feature.invariant.lines

pub returns-clause-right : goal.returns-clause-right
returns-clause-right c = right_all feature_view (IsName word_rule) c.args.features.now c.loop-feature.feature-index c.loop-feature-test.false c.loop-feature.invariant.right
