-- The rules of the plan mean their sentences, and a plan has nothing more.
use Rattle.std.proofs.Common.{◌≡◌, true, List, [], inl, inr, refl, sym, subst}
use Rattle.std.specs.Prelude.{Option, Some, None, Result, Ok, Err}
use Rattle.std.specs.List.{Contains}
use Rattle.vk_spec.specs.Conditions.{Condition}
use Rattle.vk_spec.specs.Versions.{Version, ask_of, Ask}
use Rattle.vk_spec.specs.Manifests.{Manifest}
use Rattle.vk_spec.specs.Pages.{Wrong}
use Rattle.vk_spec.specs.Settings.{Instance}
use Rattle.vk_spec.proofs.ListLemmas.{contains_nothing, contains_first}
use Rattle.vk_resolution.specs.Least.{FollowsFrom, from_one, from_two}
use Rattle.vk_resolution.specs.Settings.{root, inst}
use Rattle.vk_resolution.specs.Givens.{manifest_at}
use Rattle.vk_resolution.specs.Asking.{Fact, need, floor, visit, fact_key, asked_of}
use Rattle.vk_resolution.specs.Consequences.{Inputs, asked_in, asked_at}
use Rattle.vk_resolution.specs.Choices.{chosen_of}
use Rattle.vk_resolution.specs.Planning.{is_need, visit_of, planned_from, planned_rules_of}
use Rattle.vk_resolution.specs.Sentences.{Asks}
use Rattle.vk_resolution.proofs.Members.{contains_filter, filter_contains, contains_single}
use Rattle.vk_resolution.proofs.FactLemmas.{fact_key-IsKey}
use Rattle.vk_resolution.proofs.AgreementLemmas.{least_follows}
use Rattle.vk_resolution.proofs.SentenceLemmas.{asked_means}
use Rattle.vk_resolve.specs.PlanSentences.{IsPlannedBy, at_the_chosen, by_visit, by_root, PlannedMeans, PlanHasNoMore, PlanHasNoLess}

module _ (inputs : Inputs) (required facts : List Fact) where
  -- what a manifest asks for, if it is a need
  needs_by_root : (t f : List _) (x : Fact) → Contains facts (need (root t) f) → Asks inputs.setting (root t) f inputs.setting.root x → is_need x ≡ true → IsPlannedBy inputs required facts x
  needs_by_root t f (need who g) h asks is = by_root t f g who h asks
  needs_by_root t f (floor p a) h asks is = (cc)
  needs_by_root t f (visit i g a) h asks is = (cc)

  needs_by_visit : (i : Instance) (f : List _) (a : Ask) (m : Manifest Condition) (x : Fact) → Contains facts (visit i f a) → manifest_at inputs.pages i.port a ≡ Some (Ok m) → Asks inputs.setting (inst i) f m x → is_need x ≡ true → IsPlannedBy inputs required facts x
  needs_by_visit i f a m (need who g) h e asks is = by_visit i f g a m who h e asks
  needs_by_visit i f a m (floor p b) h e asks is = (cc)
  needs_by_visit i f a m (visit j g b) h e asks is = (cc)

  visited_planned : (i : Instance) (f : List _) (a : Ask) (x : Fact) → Contains facts (visit i f a) → (manifest : Option (Result (Manifest Condition) Wrong)) → manifest_at inputs.pages i.port a ≡ manifest
      → Contains (asked_in inputs.setting i f manifest) x → is_need x ≡ true → IsPlannedBy inputs required facts x
  visited_planned i f a x h None e at is = absurd (contains_nothing x at)
  visited_planned i f a x h (Some (Err wrong)) e at is = absurd (contains_nothing x at)
  visited_planned i f a x h (Some (Ok m)) e at is = needs_by_visit i f a m x h e ((asked_means inputs.setting (inst i) f m x).0 at) is

  chosen_planned : (i : Instance) (f : List _) (x : Fact) → Contains facts (need (inst i) f) → (chosen : Option Version) → chosen_of inputs required i.port ≡ chosen → Contains (visit_of i f chosen) x → IsPlannedBy inputs required facts x
  chosen_planned i f x h None e at = absurd (contains_nothing x at)
  chosen_planned i f x h (Some v) e at = subst (IsPlannedBy inputs required facts) (contains_single (visit i f (ask_of v)) x at) (at_the_chosen i f v h e)

  from_planned : (y x : Fact) → Contains facts y → Contains (planned_from inputs required y) x → IsPlannedBy inputs required facts x
  from_planned (need (root t) f) x h at =
      let asked = contains_filter is_need (asked_of inputs.setting (root t) f inputs.setting.root) x at in
      needs_by_root t f x h ((asked_means inputs.setting (root t) f inputs.setting.root x).0 asked.0) asked.1
  from_planned (need (inst i) f) x h at = chosen_planned i f x h (chosen_of inputs required i.port) refl at
  from_planned (floor p a) x h at = absurd (contains_nothing x at)
  from_planned (visit i f a) x h at =
      let asked = contains_filter is_need (asked_at inputs i f a) x at in
      visited_planned i f a x h (manifest_at inputs.pages i.port a) refl asked.0 asked.1

  follows_planned : (x : Fact) → FollowsFrom (planned_rules_of inputs required) (Contains facts) x → IsPlannedBy inputs required facts x
  follows_planned x (from_one y h at) = from_planned y x h at
  follows_planned x (from_two y z one two at) = absurd (contains_nothing x at)

  planned_follows : (x : Fact) → IsPlannedBy inputs required facts x → FollowsFrom (planned_rules_of inputs required) (Contains facts) x
  planned_follows _ (at_the_chosen i f v h e) = from_one (need (inst i) f) h (subst (λ o. Contains (visit_of i f o) (visit i f (ask_of v))) (sym e) (contains_first (visit i f (ask_of v)) []))
  planned_follows _ (by_visit i f g a m who h e asks) =
      from_one (visit i f a) h (filter_contains is_need (asked_at inputs i f a) (need who g)
      (subst (λ o. Contains (asked_in inputs.setting i f o) (need who g)) (sym e) ((asked_means inputs.setting (inst i) f m (need who g)).1 asks)) refl)
  planned_follows _ (by_root t f g who h asks) =
      from_one (need (root t) f) h (filter_contains is_need (asked_of inputs.setting (root t) f inputs.setting.root) (need who g) ((asked_means inputs.setting (root t) f inputs.setting.root (need who g)).1 asks) refl)

pub planned_means : PlannedMeans
planned_means inputs required facts x = (follows_planned inputs required facts x, planned_follows inputs required facts x)

pub plan_has_no_more : PlanHasNoMore
plan_has_no_more inputs required planned x is_planned h =
    elim (least_follows (planned_rules_of inputs required) fact_key fact_key-IsKey planned is_planned x h) [
      | inl is_root ↦ inl is_root
      | inr follows ↦ inr (follows_planned inputs required planned x follows)
    ]

pub plan_has_no_less : PlanHasNoLess
plan_has_no_less inputs required planned x is_planned (inl is_root) = is_planned.closed.roots x is_root
plan_has_no_less inputs required planned x is_planned (inr by) = is_planned.closed.steps x (planned_follows inputs required planned x by)
