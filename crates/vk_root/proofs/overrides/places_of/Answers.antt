use Rattle.std.proofs.Common.{refl, sym, subst, map, take}
use Rattle.vk_model.specs.Views.{override_view}
use Rattle.vk_root.specs.Overrides.{ArePlaces}
use Rattle.vk_root.proofs.OverrideLemmas.{one_more, so_many}
use Rattle.vk_root.proofs.overrides.places_of.Goals as goal

pub loop-place-preserved : goal.loop-place-preserved
loop-place-preserved c =
    let all = c.args.overrides.now in
    let one = c.index-overrides-place.result in
    subst (λ before. ArePlaces before c.note_place.new.places.entries) (sym (one_more all c.loop-place.place one c.loop-place-test.true c.index-overrides-place.is))
    (c.in_ok-note_place.ensures (map override_view (take c.loop-place.place all)) (override_view one) (so_many all c.loop-place.place c.loop-place-test.true) refl c.loop-place.invariant)
