-- Which cycles stand in a report, and how they are put together from what is read.
use Rattle.std.specs.Prelude.{◌⊎◌, ◌++◌, ℕ, List, [], ◌∷◌, map}
use Rattle.std.proofs.Common.{inl, inr}
use Rattle.std.specs.List.{All}
use Rattle.vk_spec.specs.Settings as plain
use Rattle.vk_base.specs.declared.instances.Instance.{Instance}
use Rattle.vk_resolution.specs.Settings.{inst}
use Rattle.vk_resolution.specs.Faults.{Fault, has_cycle}
use Rattle.vk_resolution.specs.Lines.{who_text}
use Rattle.vk_model.specs.SettingViews.{instance_view}
use Rattle.vk_forms.specs.declared.choices.Either.{Either}
use Rattle.vk_forms.specs.Choices.{either_plain}
use Rattle.vk_forms.specs.Forms.{pair_plain}
use Rattle.vk_forms.specs.Names.{IsRightInstance}

-- instances with blanks between
abbrev pub walk_text : List plain.Instance → List ℕ
walk_text [] = []
walk_text (i ∷ []) = who_text (inst i)
walk_text (i ∷ j ∷ is) = who_text (inst i) ++ 32 ∷ walk_text (j ∷ is)

-- at least one instance
abbrev pub IsWalk : List plain.Instance → Type 0
IsWalk [] = ⊥
IsWalk (i ∷ is) = All IsRightInstance (i ∷ is)

-- a word, and instances if there are any
abbrev pub CycleParts : Type 0
CycleParts = Unit {0} ⊎ (Unit {0} × List plain.Instance)

abbrev pub cycle_parts : Either (Unit {0}) (Unit {0} × List Instance) → CycleParts
cycle_parts = either_plain (λ u. u) (pair_plain (λ u. u) (map instance_view))

abbrev pub cycle_fault : CycleParts → Fault
cycle_fault (inl u) = has_cycle []
cycle_fault (inr p) = has_cycle p.1
