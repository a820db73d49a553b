-- The first cause of a fact, while the list grows: that of the part in which there is one.
use Rattle.std.proofs.Common.{◌≡◌, List, [], ◌∷◌, ◌++◌, refl, ap, ◌∙◌}
use Rattle.std.specs.Prelude.{Option, Some, None, option_map}
use Rattle.std.specs.List.{find}
use Rattle.std.specs.Option.{option_or}
use Rattle.vk_resolution.specs.Asking.{Fact, same_fact}
use Rattle.vk_resolution.specs.Consequences.{Inputs, Cause, Step, steps_from}
use Rattle.vk_resolution.specs.Reasons.{first_cause}

or_or : {X : Type 0} (a b c : Option X) → option_or a (option_or b c) ≡ option_or (option_or a b) c
or_or None b c = refl
or_or (Some x) b c = refl

pub first_cause-append : (inputs : Inputs) (before rest : List Fact) (x : Fact) → first_cause inputs (before ++ rest) x ≡ option_or (first_cause inputs before x) (first_cause inputs rest x)
first_cause-append inputs [] rest x = refl
first_cause-append inputs (y ∷ before) rest x =
    let here : Option (Cause Fact) = option_map (λ (step : Step). step.cause) (find (λ step. same_fact x step.fact) (steps_from inputs y)) in
    ap (option_or here) (first_cause-append inputs before rest x) ∙ or_or here (first_cause inputs before x) (first_cause inputs rest x)

-- a cause that was found stays
pub first_cause-stays : (inputs : Inputs) (before rest : List Fact) (x : Fact) (c : Cause Fact) → first_cause inputs before x ≡ Some c → first_cause inputs (before ++ rest) x ≡ Some c
first_cause-stays inputs before rest x c e = first_cause-append inputs before rest x ∙ ap (λ o. option_or o (first_cause inputs rest x)) e

-- a fact that has none before has that of the rest
pub first_cause-later : (inputs : Inputs) (before rest : List Fact) (x : Fact) → first_cause inputs before x ≡ None → first_cause inputs (before ++ rest) x ≡ first_cause inputs rest x
first_cause-later inputs before rest x e = first_cause-append inputs before rest x ∙ ap (λ o. option_or o (first_cause inputs rest x)) e
