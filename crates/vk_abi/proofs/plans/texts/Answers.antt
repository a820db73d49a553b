use Rattle.std.proofs.Common.{◌<◌, length, get_or, map, ap, subst, arith}
use Rattle.std.specs.Prelude.{Ok, Err}
use Rattle.std.proofs.lemmas.Result.{err_from_is_err_and}
use Rattle.vk_spec.proofs.StateLemmas.{narrow_nothing, narrow_then}
use Rattle.vk_model.specs.FaultViews.{item_view}
use Rattle.vk_model.specs.SettingViews.{instance_view, setting_view}
use Rattle.vk_abi.specs.Plans.{pair_view}
use Rattle.vk_folder.proofs.ReadLemmas.{reads_nothing}
use Rattle.vk_abi.proofs.TextLemmas.{reads_next, told_as, comes_first, comes_next, comes_stopped, comes_last, comes_right}
use Rattle.vk_abi.proofs.plans.texts.Goals as goal

pub loop-at-init : goal.loop-at-init
loop-at-init g c = (rw (c.new-pairs.ensures) (comes_first _ c.args.plan.now.items c.args.folders.now (g.T.Tree.state c.args.tree.now)), reads_nothing _, narrow_nothing 65536 _)

pub returns-in_err-pair-clause-is : goal.returns-in_err-pair-clause-is
returns-in_err-pair-clause-is g c =
    let p = err_from_is_err_and c.from_residual.result c.from_residual.ensures.1 in rw (p.1, p.2)
    (comes_stopped (record { builder = c.args.builder.now; setting = setting_view c.args.setting.now; most = c.args.max_bytes }) c.args.plan.now.items c.args.folders.now c.loop-at.at c.index-job-at.result c.index-job-at-in-loop-at.result c.loop-at.pairs _ (g.T.Tree.state c.args.tree.now) (g.T.Tree.state c.loop-at.tree)
    c.requires (subst (λ xs. c.loop-at.at < length xs) c.as_slice.ensures c.loop-at-test.true) (cc) (cc) c.loop-at.invariant.1.only c.loop-at.invariant.0 (told_as (record { builder = c.args.builder.now; setting = setting_view c.args.setting.now; most = c.args.max_bytes }) (map (λ i. instance_view i.inst) c.as_slice.result.now) (map (λ i. instance_view i.inst) c.args.plan.now.items)
    (item_view (get_or c.as_slice.result.now c.loop-at.at c.index-job-at.result), get_or c.as_slice-2.result.now c.loop-at.at c.index-job-at-in-loop-at.result) (item_view c.index-job-at.result, c.index-job-at-in-loop-at.result)
    (map pair_view c.as_slice-in-loop-at.result.now) (map pair_view c.loop-at.pairs) (Err c.in_err-pair.field-0.0) (g.T.Tree.state c.loop-at.tree)
    (ap (map (λ i. instance_view i.inst)) c.as_slice.ensures) (cc) (ap (map pair_view) c.as_slice-in-loop-at.ensures) c.in_err-pair.ensures.is))

pub returns-in_err-pair-clause-reads : goal.returns-in_err-pair-clause-reads
returns-in_err-pair-clause-reads g c =
    let p = err_from_is_err_and c.from_residual.result c.from_residual.ensures.1 in
    rw (p.1, p.2) (reads_next c.args.folders.now c.loop-at.at (get_or c.as_slice-2.result.now c.loop-at.at c.index-job-at-in-loop-at.result) (omega (arith, c.requires, ap length c.as_slice.ensures, c.loop-at-test.true)) (cc) c.loop-at.invariant.1 c.in_err-pair.ensures.reads)

pub returns-in_err-pair-clause-narrow : goal.returns-in_err-pair-clause-narrow
returns-in_err-pair-clause-narrow g c = narrow_then c.loop-at.invariant.2 c.in_err-pair.ensures.narrow

pub returns-in_err-push-clause-reads : goal.returns-in_err-push-clause-reads
returns-in_err-push-clause-reads g c =
    let p = err_from_is_err_and c.from_residual-in_err-push.result c.from_residual-in_err-push.ensures.1 in
    rw (p.1, p.2) (reads_next c.args.folders.now c.loop-at.at (get_or c.as_slice-2.result.now c.loop-at.at c.index-job-at-in-loop-at.result) (omega (arith, c.requires, ap length c.as_slice.ensures, c.loop-at-test.true)) (cc) c.loop-at.invariant.1 c.in_ok-pair.ensures.reads)

pub returns-in_err-push-clause-narrow : goal.returns-in_err-push-clause-narrow
returns-in_err-push-clause-narrow g c = narrow_then c.loop-at.invariant.2 c.in_ok-pair.ensures.narrow

pub loop-at-preserved : goal.loop-at-preserved
loop-at-preserved g c = (
  rw (c.in_ok-push.ensures.ok) (comes_next (record { builder = c.args.builder.now; setting = setting_view c.args.setting.now; most = c.args.max_bytes }) c.args.plan.now.items c.args.folders.now c.loop-at.at c.index-job-at.result c.index-job-at-in-loop-at.result c.loop-at.pairs c.in_ok-pair.pair (g.T.Tree.state c.args.tree.now) (g.T.Tree.state c.loop-at.tree)
      c.requires (subst (λ xs. c.loop-at.at < length xs) c.as_slice.ensures c.loop-at-test.true) (cc) (cc) c.loop-at.invariant.1.only c.loop-at.invariant.0 (told_as (record { builder = c.args.builder.now; setting = setting_view c.args.setting.now; most = c.args.max_bytes }) (map (λ i. instance_view i.inst) c.as_slice.result.now) (map (λ i. instance_view i.inst) c.args.plan.now.items)
      (item_view (get_or c.as_slice.result.now c.loop-at.at c.index-job-at.result), get_or c.as_slice-2.result.now c.loop-at.at c.index-job-at-in-loop-at.result) (item_view c.index-job-at.result, c.index-job-at-in-loop-at.result)
      (map pair_view c.as_slice-in-loop-at.result.now) (map pair_view c.loop-at.pairs) (Ok c.in_ok-pair.pair) (g.T.Tree.state c.loop-at.tree)
      (ap (map (λ i. instance_view i.inst)) c.as_slice.ensures) (cc) (ap (map pair_view) c.as_slice-in-loop-at.ensures) c.in_ok-pair.ensures.is)),
  reads_next c.args.folders.now c.loop-at.at (get_or c.as_slice-2.result.now c.loop-at.at c.index-job-at-in-loop-at.result) (omega (arith, c.requires, ap length c.as_slice.ensures, c.loop-at-test.true)) (cc) c.loop-at.invariant.1 c.in_ok-pair.ensures.reads,
  narrow_then c.loop-at.invariant.2 c.in_ok-pair.ensures.narrow,
)

pub returns-clause-is : goal.returns-clause-is
returns-clause-is g c = comes_last (record { builder = c.args.builder.now; setting = setting_view c.args.setting.now; most = c.args.max_bytes }) c.args.plan.now.items c.args.folders.now c.loop-at.at c.loop-at.pairs (g.T.Tree.state c.args.tree.now) c.requires (omega (arith, ap length c.as_slice.ensures, c.loop-at-test.false, c.loop-at.auto.at-end)) c.loop-at.invariant.0

pub returns-clause-right : goal.returns-clause-right
returns-clause-right g c = λ each its. comes_right (record { builder = c.args.builder.now; setting = setting_view c.args.setting.now; most = c.args.max_bytes }) c.args.plan.now.items c.args.folders.now c.loop-at.at c.loop-at.pairs (g.T.Tree.state c.args.tree.now) c.requires (omega (arith, ap length c.as_slice.ensures, c.loop-at-test.false, c.loop-at.auto.at-end)) c.loop-at.invariant.0 each its
