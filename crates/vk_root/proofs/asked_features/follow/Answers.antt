use Rattle.std.proofs.Common.{[], ◌≤◌, ◌∙◌, ap, refl, subst}
use Rattle.vk_resolution.specs.Settings.{root_rules_of}
use Rattle.vk_root.specs.Roots.{setting_at}
use Rattle.vk_root.specs.AskedNames.{names_view}
use Rattle.vk_root.proofs.AskedNameLemmas.{asked_first, asked_next, asked_last}
use Rattle.vk_root.proofs.asked_features.follow.Goals as goal

pub loop-n-init : goal.loop-n-init
loop-n-init c words defaults first = asked_first (root_rules_of (setting_at c.args.root words defaults [] 0)) c.args.names.now.keys first

pub loop-n-preserved : goal.loop-n-preserved
loop-n-preserved c words defaults first =
    asked_next (root_rules_of (setting_at c.args.root words defaults [] 0)) c.loop-n.n c.loop-n.names.keys c.put_all.new.names.keys c.index.result.now (names_view c.as_slice.result.now)
    (c.loop-n.invariant words defaults first) c.index.ensures (ap names_view c.as_slice.ensures ∙ c.in_ok-more.ensures) c.in_ok-put_all.ensures

pub returns : goal.returns
returns c words defaults first =
    asked_last (root_rules_of (setting_at c.args.root words defaults [] 0)) c.loop-n.n c.loop-n.names.keys (λ a b. refl) (c.loop-n.invariant words defaults first)
    (subst (λ k. k ≤ c.loop-n.n) c.len.ensures.len c.loop-n-test.false)
