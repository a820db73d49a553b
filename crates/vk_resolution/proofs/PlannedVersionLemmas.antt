-- Each planned port has its overlay's version, its override's, or the least allowed.
use Rattle.std.proofs.Common.{◌≡◌, ℕ, false, List, [], refl, ap, sym, ◌∙◌, subst}
use Rattle.std.specs.Prelude.{Some, Ok}
use Rattle.std.specs.List.{Contains}
use Rattle.vk_spec.specs.Versions.{Version}
use Rattle.vk_spec.specs.Pages.{Given, overlay, override, baseline, is_pinned_by}
use Rattle.vk_spec.specs.Settings.{Instance}
use Rattle.vk_resolution.specs.Least.{IsLeast}
use Rattle.vk_resolution.specs.Settings.{inst}
use Rattle.vk_resolution.specs.Givens.{is_pinned}
use Rattle.vk_resolution.specs.Asking.{Fact, need}
use Rattle.vk_resolution.specs.Consequences.{Inputs, rules_of}
use Rattle.vk_resolution.specs.Choices.{chosen_of}
use Rattle.vk_resolution.specs.Reasons.{facts_of}
use Rattle.vk_resolution.specs.Planning.{Item}
use Rattle.vk_resolution.specs.Faults.{first_faults_of}
use Rattle.vk_resolution.specs.PlannedVersions.{IsPlannedVersion, of_overlay, of_override, of_floors, PlannedVersions}
use Rattle.vk_resolution.proofs.Members.{map_contains}
use Rattle.vk_resolution.proofs.ChoiceLemmas.{needed_given, given_floor, floor_in_table, free_choice, floors_are, choice_is_above_floors}
use Rattle.vk_resolution.proofs.SelectionLemmas.{chosen_pinned}
use Rattle.vk_resolution.proofs.PlanLemmas.{plan_stays_within}
use Rattle.vk_resolution.proofs.Existence.{instance_need}

module _ (inputs : Inputs) (facts : List Fact) (least : IsLeast (rules_of inputs) facts) (first : first_faults_of inputs facts ≡ []) (i : Instance) (f : List ℕ) (needed : Contains facts (need (inst i) f)) (v : Version) (chosen : chosen_of inputs facts i.port ≡ Some v) where
  version_by : (g : Given) → (inputs.pages i.port).given ≡ Ok g → IsPlannedVersion inputs facts i.port v
  version_by (overlay w) e =
      let same : Some w ≡ Some v = sym (chosen_pinned inputs facts i.port (Ok (overlay w)) w e refl refl) ∙ chosen in
      let is : w ≡ v = (cc) in
      of_overlay (subst (λ u. (inputs.pages i.port).given ≡ Ok (overlay u)) is e)
  version_by (override a) e =
      let w = floor_in_table inputs facts first i.port a (override a) e (λ u clash. (cc)) (given_floor inputs facts least.closed i f needed (override a) e) in
      of_override a e (w.1 ∙ sym (chosen_pinned inputs facts i.port (Ok (override a)) w.0 e refl w.1) ∙ chosen)
  version_by (baseline a) e =
      let free : is_pinned inputs.setting inputs.pages i.port ≡ false = ap (is_pinned_by inputs.setting.root.overrides i.port) e in
      let choice = free_choice inputs facts i.port v free chosen in
      let is = floors_are inputs facts i.port v choice.0 in
      of_floors a e (record {
        baseline = given_floor inputs facts least.closed i f needed (baseline a) e;
        above = choice_is_above_floors inputs facts i.port free v chosen;
        least = λ w above. above is.ask v is.has is.version;
      })

pub planned_versions : PlannedVersions
planned_versions inputs order bytes items reasons is item h =
    let agreed = is.1 in
    let least = is.0.facts.least in
    let listed = (agreed.plan.all item.instance).0 (map_contains (λ (k : Item). k.instance) items item h) in
    let n = instance_need inputs (facts_of reasons) agreed.planned agreed.is_planned item.instance listed in
    let needed = (plan_stays_within inputs order (facts_of reasons) agreed.planned least agreed.first agreed.is_planned).within (need (inst item.instance) n.0) n.1 in
    let g = needed_given inputs (facts_of reasons) agreed.first item.instance n.0 needed in
    version_by inputs (facts_of reasons) least agreed.first item.instance n.0 needed item.version (agreed.plan.each item h).version g.0 g.1
