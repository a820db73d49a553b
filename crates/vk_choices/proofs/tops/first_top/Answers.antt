use Rattle.std.proofs.Common.{◌+◌, sym, ◌∙◌, subst, take}
use Rattle.std.specs.Prelude.{option_map}
use Rattle.vk_choices.specs.Tops.{IsFirst, is_later_top}
use Rattle.vk_choices.proofs.TopLemmas.{new_first, same_first, whole}
use Rattle.vk_choices.proofs.tops.first_top.Goals.{then-is_next, else-is_next}
use Rattle.vk_choices.proofs.tops.first_top.Goals as goal

pub loop-floor-preserved : goal.loop-floor-preserved
loop-floor-preserved c = record {
  known = λ h. c.is_next.ensures.known;
  first = elim c.if-is_next.branch [
    | then-is_next w ↦ subst (λ o. IsFirst (is_later_top c.args.floors.now (option_map (λ v. v.now) c.args.after)) (take (c.loop-floor.floor-index + 1) c.args.floors.now) (option_map (λ f. f.now) o)) (sym w.first-is)
        (new_first (is_later_top c.args.floors.now (option_map (λ v. v.now) c.args.after)) c.args.floors.now c.loop-floor.floor-index c.floor-item.result (option_map (λ f. f.now) c.loop-floor.first) c.loop-floor-test.true c.floor-item.is c.loop-floor.invariant.first (sym c.is_next.ensures.next ∙ w.if-is_next.true))
    | else-is_next w ↦ subst (λ o. IsFirst (is_later_top c.args.floors.now (option_map (λ v. v.now) c.args.after)) (take (c.loop-floor.floor-index + 1) c.args.floors.now) (option_map (λ f. f.now) o)) (sym w.first-is)
        (same_first (is_later_top c.args.floors.now (option_map (λ v. v.now) c.args.after)) c.args.floors.now c.loop-floor.floor-index c.floor-item.result (option_map (λ f. f.now) c.loop-floor.first) c.loop-floor-test.true c.floor-item.is c.loop-floor.invariant.first (sym c.is_next.ensures.next ∙ w.if-is_next.false))
  ];
}

pub returns : goal.returns
returns c =
    subst (λ l. IsFirst (is_later_top c.args.floors.now (option_map (λ v. v.now) c.args.after)) l (option_map (λ f. f.now) c.loop-floor.first))
    (whole c.args.floors.now c.loop-floor.floor-index c.loop-floor-test.false) c.loop-floor.invariant.first
