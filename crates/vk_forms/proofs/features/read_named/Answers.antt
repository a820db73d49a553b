use Rattle.std.proofs.Common.{map, rules}
use Rattle.std.specs.Str.{IsUtf8}
use Rattle.vk_base.specs.FeatureViews.{feature_view}
use Rattle.vk_forms.proofs.FeatureForms.{along_ends, along_fails, along_more, along_stops}
use Rattle.vk_forms.proofs.features.read_named.Goals as goal

pub returns-then-not-branch : goal.returns-then-not-branch
returns-then-not-branch c =
    let put = rw c.if-not-branch.true at c.in_ok-put_above.ensures in
    along_stops c.args.text.now c.loop-front.last.now c.loop-front.rest.now c.in-Some.front.now c.in-Some.after.now (map feature_view c.loop-front.features) (map feature_view c.put_above.new.features) c.loop-front.invariant.2 c.in-Some.ensures.0 c.in-Some.ensures.1 put

pub loop-front-preserved : goal.loop-front-preserved
loop-front-preserved c =
    let put = rw c.if-not-branch.false at c.in_ok-put_above.ensures in
    let front : IsUtf8 c.in-Some.front.now = search rules in
    let after : IsUtf8 c.in-Some.after.now = search rules in (
      front,
      after,
      along_more c.args.text.now c.loop-front.last.now c.loop-front.rest.now c.in-Some.front.now c.in-Some.after.now (map feature_view c.loop-front.features) (map feature_view c.put_above.new.features) c.loop-front.invariant.2 c.in-Some.ensures.0 c.in-Some.ensures.1 put,
    )

pub returns-then-branch : goal.returns-then-branch
returns-then-branch c =
    let put = rw c.if-branch.true at c.in_ok-put_above-2.ensures in
    along_ends c.args.text.now c.loop-front.last.now c.loop-front.rest.now (map feature_view c.loop-front.features) (map feature_view c.put_above-2.new.features) c.loop-front.invariant.2 c.in_default.ensures put

pub returns : goal.returns
returns c =
    let put = rw c.if-branch.false at c.in_ok-put_above-2.ensures in
    along_fails c.args.text.now c.loop-front.last.now c.loop-front.rest.now (map feature_view c.loop-front.features) (map feature_view c.put_above-2.new.features) c.loop-front.invariant.2 c.in_default.ensures put
