use Rattle.std.proofs.Common.{◌<◌, ◌≤◌, ◌∙◌, subst, rules}
use Rattle.vk_opening.proofs.StoreLemmas.{one_above, all_above}
use Rattle.vk_opening.proofs.stores.push_prefixes.Goals as goal

pub loop-count-preserved : goal.loop-count-preserved
loop-count-preserved c =
    c.in_ok-push.ensures.ok ∙ one_above c.args.path.now _ _ _ c.loop-count.count (subst (λ n. c.loop-count.count < n) c.part_count-count-end.ensures c.loop-count-test.true) c.loop-count.invariant c.in_ok-prefix.ensures

pub returns : goal.returns
returns c =
    c.in_ok-push-2.ensures.ok ∙ all_above c.args.path.now _ _ _ c.loop-count.count (subst (λ n. n ≤ c.loop-count.count) c.part_count-count-end.ensures c.loop-count-test.false) c.loop-count.invariant (search rules)
