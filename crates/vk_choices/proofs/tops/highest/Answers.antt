use Rattle.std.proofs.Common.{◌+◌, arith, sym, ◌∙◌, subst, take}
use Rattle.vk_choices.specs.Tops.{IsHighest}
use Rattle.vk_choices.proofs.TopLemmas.{highest_of_one, new_highest, same_highest}
use Rattle.vk_choices.proofs.tops.highest.Goals.{then-is_at_most, else-is_at_most}
use Rattle.vk_choices.proofs.tops.highest.Goals as goal

pub loop-place-init : goal.loop-place-init
loop-place-init c = record { below = omega arith; highest = highest_of_one c.args.floors.now c.requires }

pub loop-place-preserved : goal.loop-place-preserved
loop-place-preserved c = record {
  below = elim c.if-is_at_most.branch [ then-is_at_most w ↦ omega (arith, w.best-is) | else-is_at_most w ↦ omega (arith, w.best-is, c.loop-place.invariant.below) ];
  highest = elim c.if-is_at_most.branch [
    | then-is_at_most w ↦ subst (λ k. IsHighest (take (c.loop-place.place + 1) c.args.floors.now) k) (sym w.best-is)
        (new_highest c.args.floors.now c.loop-place.place c.loop-place.best c.index-floors-best.result c.index-floors-place.result c.loop-place-test.true c.loop-place.invariant.highest (sym c.is_at_most.ensures ∙ w.if-is_at_most.true))
    | else-is_at_most w ↦ subst (λ k. IsHighest (take (c.loop-place.place + 1) c.args.floors.now) k) (sym w.best-is)
        (same_highest c.args.floors.now c.loop-place.place c.loop-place.best c.index-floors-best.result c.index-floors-place.result c.loop-place-test.true c.loop-place.invariant.highest (sym c.is_at_most.ensures ∙ w.if-is_at_most.false))
  ];
}
