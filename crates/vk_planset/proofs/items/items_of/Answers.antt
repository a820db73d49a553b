use Rattle.std.proofs.Common.{◌++◌, ◌∙◌, ap, sym}
use Rattle.std.specs.Prelude.{slice_get}
use Rattle.vk_model.specs.SettingViews.{instance_view}
use Rattle.vk_planset.specs.Items.{at_end, made_of}
use Rattle.vk_planset.proofs.SeatLemmas.{zip_more}
use Rattle.vk_planset.proofs.items.items_of.Goals as goal

pub loop-place-preserved : goal.loop-place-preserved
loop-place-preserved c =
    c.in_ok-push_at.ensures
    ∙ ap (λ l. l ++ at_end (made_of c.args.choices.now.ports.entries) (instance_view c.inst-item.result) (slice_get c.args.seats.now c.loop-place.place)) c.loop-place.invariant
    ∙ sym (zip_more instance_view (made_of c.args.choices.now.ports.entries) c.args.order.now.keys c.args.seats.now c.loop-place.place c.inst-item.result (rw c.as_slice-inst-items.ensures.keys at c.loop-place-test.true) (rw c.as_slice-inst-items.ensures.keys at c.inst-item.is))
