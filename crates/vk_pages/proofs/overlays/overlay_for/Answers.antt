use Rattle.std.proofs.Common.{map, ap}
use Rattle.vk_opening.specs.Views.{overlay_view}
use Rattle.vk_files.proofs.FirstLemmas.{left_from, nothing_left, none_yet, none_more, first_found, first_stopped, none_found}
use Rattle.vk_pages.proofs.overlays.overlay_for.Goals as goal

pub returns-in_err-has_port : goal.returns-in_err-has_port
returns-in_err-has_port g c =
    let step = ap (map overlay_view) (left_from c.loop-overlay.overlay-index c.args.overlays.now c.overlay-item.result c.loop-overlay-test.true c.overlay-item.is) in
    first_stopped step c.loop-overlay.invariant c.in_err-has_port.ensures c.from_residual.ensures.1

pub returns-then-branch : goal.returns-then-branch
returns-then-branch g c =
    let step = ap (map overlay_view) (left_from c.loop-overlay.overlay-index c.args.overlays.now c.overlay-item.result c.loop-overlay-test.true c.overlay-item.is) in
    first_found step c.loop-overlay.invariant (rw c.if-branch.true at c.in_ok-has_port.ensures)

pub loop-overlay-init : goal.loop-overlay-init
loop-overlay-init g c = none_yet

pub loop-overlay-preserved : goal.loop-overlay-preserved
loop-overlay-preserved g c =
    let step = ap (map overlay_view) (left_from c.loop-overlay.overlay-index c.args.overlays.now c.overlay-item.result c.loop-overlay-test.true c.overlay-item.is) in
    none_more step c.loop-overlay.invariant (rw c.if-branch.false at c.in_ok-has_port.ensures)

pub returns : goal.returns
returns g c = none_found (ap (map overlay_view) (nothing_left c.loop-overlay.overlay-index c.args.overlays.now c.loop-overlay-test.false)) c.loop-overlay.invariant
