use Rattle.std.proofs.Common.{◌≡◌, ◌∙◌, ◌∷◌, sym}
use Rattle.std.specs.Vec.Iter.{into_iter_items}
use Rattle.vk_opening.specs.Overlays.{overlays_at}
use Rattle.vk_opening.proofs.LoopLemmas.{so_far_none, so_far_more, so_far_stopped, so_far_lacking, so_far_all, none_left}
use Rattle.vk_opening.proofs.overlays.read_overlays.Goals as goal

pub loop-folder-init : goal.loop-folder-init
loop-folder-init g c = so_far_none c.new-overlays.ensures (c.into_iter-folder-iterator.ensures.into_iter_gives.0 ∙ c.into_vec-folder-items.ensures)

pub loop-folder-preserved : goal.loop-folder-preserved
loop-folder-preserved g c =
    let step : into_iter_items c.loop-folder.folder-iterator ≡ c.in-Some.folder ∷ into_iter_items c.next.new.self = c.in-Some.ensures.steps.0 in
    rw c.in_ok-push.ensures.ok (so_far_more step c.loop-folder.invariant c.in_ok-overlay.ensures)

pub returns-in_err-overlay : goal.returns-in_err-overlay
unfolding overlays_at
returns-in_err-overlay g c =
    let step : into_iter_items c.loop-folder.folder-iterator ≡ c.in-Some.folder ∷ into_iter_items c.next.new.self = c.in-Some.ensures.steps.0 in
    so_far_stopped step c.loop-folder.invariant c.in_err-overlay.ensures c.from_residual.ensures.1

pub returns-in_err-push : goal.returns-in_err-push
unfolding overlays_at
returns-in_err-push g c =
    let step : into_iter_items c.loop-folder.folder-iterator ≡ c.in-Some.folder ∷ into_iter_items c.next.new.self = c.in-Some.ensures.steps.0 in
    so_far_lacking step c.loop-folder.invariant c.in_ok-overlay.ensures c.from_residual-in_err-push.ensures.1

pub returns : goal.returns
unfolding overlays_at
returns g c = so_far_all (none_left _ (sym c.loop-folder.folder-iterator.rest.ok.0 ∙ c.in-None.ensures.steps.0)) c.loop-folder.invariant
