use Rattle.std.proofs.Common.{◌<◌, take, length}
use Rattle.std.specs.Prelude.{option_map}
use Rattle.vk_choices.specs.Tops.{IsFirst, is_later_top}
use Rattle.vk_choices.proofs.tops.first_top.Given as goal

abbrev pub invariant-loop-floor : goal.invariant-loop-floor
invariant-loop-floor l = record {
  first : IsFirst (is_later_top l.floors (option_map (λ v. v.now) l.after)) (take l.floor-index l.floors) (option_map (λ f. f.now) l.first);
  known : 0 < length l.floors → l.known < length l.floors;
}
