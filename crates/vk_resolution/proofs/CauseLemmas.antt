-- What it means that a fact follows by a cause.
use Rattle.std.proofs.Common.{◌≡◌, ℕ, Bool, true, false, cond, List, [], ◌∷◌, refl, sym, subst}
use Rattle.std.specs.Prelude.{Option, Some, None, flat_map, Result, Ok, Err, bytes_eq}
use Rattle.std.specs.List.{Contains}
use Rattle.std.proofs.lemmas.Slice.Eq.{bytes_eq-Decides}
use Rattle.vk_spec.specs.Versions.{Ask, ask_of}
use Rattle.vk_spec.specs.Conditions.{Condition}
use Rattle.vk_spec.specs.Manifests.{Manifest}
use Rattle.vk_spec.specs.Pages.{Wrong, Given, overlay, override, baseline}
use Rattle.vk_spec.specs.Settings.{Instance}
use Rattle.vk_spec.proofs.ListLemmas.{contains_nothing, contains_first, contains-flat_map, flat_map-contains}
use Rattle.vk_resolution.specs.Settings.{root, inst}
use Rattle.vk_resolution.specs.Givens.{manifest_at, is_pinned}
use Rattle.vk_resolution.specs.Asking.{Fact, need, floor, visit, asked_of}
use Rattle.vk_resolution.specs.Consequences.{Inputs, Step, Cause, by_root, by_baseline, by_override, by_overlay, by_minimum, by_one, by_two, given_step, asked_step, asked_in, steps_from, is_visited, FollowsBy}
use Rattle.vk_resolution.specs.Causes.{AsksFrom, the_root, a_manifest, IsCausedBy, a_root_fact, its_baseline, its_override, its_overlay, a_minimum, a_need, a_visit, CausesMean}
use Rattle.vk_resolution.proofs.Members.{and_true, contains_single}
use Rattle.vk_resolution.proofs.Derivations.{visits_are}
use Rattle.vk_resolution.proofs.SentenceLemmas.{asked_means, may_visit, visits_may}

module _ (inputs : Inputs) where
  floor_caused : (y : Fact) (p : List ℕ) (a : Ask) → AsksFrom inputs y (floor p a) → (b : Bool) → is_pinned inputs.setting inputs.pages p ≡ b → (step : Step) → Contains (cond b [] (record { fact = floor p a; cause = by_minimum y } ∷ [])) step → IsCausedBy inputs step.cause step.fact
  floor_caused y p a asks true e step h = absurd (contains_nothing step h)
  floor_caused y p a asks false e step h = subst (λ (k : Step). IsCausedBy inputs k.cause k.fact) (contains_single (record { fact = floor p a; cause = by_minimum y }) step h) (a_minimum y p a asks e)

  asked_caused : (y z : Fact) → AsksFrom inputs y z → (step : Step) → Contains (asked_step inputs y z) step → IsCausedBy inputs step.cause step.fact
  asked_caused y (need who f) asks step h = subst (λ (k : Step). IsCausedBy inputs k.cause k.fact) (contains_single (record { fact = need who f; cause = by_one y }) step h) (a_need y who f asks)
  asked_caused y (floor p a) asks step h = floor_caused y p a asks (is_pinned inputs.setting inputs.pages p) refl step h
  asked_caused y (visit i f a) asks step h = absurd (contains_nothing step h)

  given_caused : (i : Instance) (f : List ℕ) (given : Result Given Wrong) → (inputs.pages i.port).given ≡ given → (step : Step) → Contains (given_step (need (inst i) f) i.port given) step → IsCausedBy inputs step.cause step.fact
  given_caused i f (Ok (overlay v)) e step h = subst (λ (k : Step). IsCausedBy inputs k.cause k.fact) (contains_single (record { fact = floor i.port (ask_of v); cause = by_overlay (need (inst i) f) }) step h) (its_overlay i f v e)
  given_caused i f (Ok (override a)) e step h = subst (λ (k : Step). IsCausedBy inputs k.cause k.fact) (contains_single (record { fact = floor i.port a; cause = by_override (need (inst i) f) }) step h) (its_override i f a e)
  given_caused i f (Ok (baseline a)) e step h = subst (λ (k : Step). IsCausedBy inputs k.cause k.fact) (contains_single (record { fact = floor i.port a; cause = by_baseline (need (inst i) f) }) step h) (its_baseline i f a e)
  given_caused i f (Err wrong) e step h = absurd (contains_nothing step h)

  visit_caused : (i : Instance) (f : List ℕ) (a : Ask) (manifest : Option (Result (Manifest Condition) Wrong)) → manifest_at inputs.pages i.port a ≡ manifest → (step : Step)
      → Contains (flat_map (asked_step inputs (visit i f a)) (asked_in inputs.setting i f manifest)) step → IsCausedBy inputs step.cause step.fact
  visit_caused i f a None e step h = absurd (contains_nothing step h)
  visit_caused i f a (Some (Err wrong)) e step h = absurd (contains_nothing step h)
  visit_caused i f a (Some (Ok m)) e step h =
      let r = contains-flat_map (asked_step inputs (visit i f a)) (asked_of inputs.setting (inst i) f m) step h in
      asked_caused (visit i f a) r.0 (a_manifest i f a m r.0 e ((asked_means inputs.setting (inst i) f m r.0).0 r.1)) step r.2

  step_caused : (y : Fact) (step : Step) → Contains (steps_from inputs y) step → IsCausedBy inputs step.cause step.fact
  step_caused (need (root t) f) step h =
      let r = contains-flat_map (asked_step inputs (need (root t) f)) (asked_of inputs.setting (root t) f inputs.setting.root) step h in
      asked_caused (need (root t) f) r.0 (the_root t f r.0 ((asked_means inputs.setting (root t) f inputs.setting.root r.0).0 r.1)) step r.2
  step_caused (need (inst i) f) step h = given_caused i f (inputs.pages i.port).given refl step h
  step_caused (floor p a) step h = absurd (contains_nothing step h)
  step_caused (visit i f a) step h = visit_caused i f a (manifest_at inputs.pages i.port a) refl step h

  follows_caused : (cause : Cause Fact) (x : Fact) → FollowsBy inputs cause x → IsCausedBy inputs cause x
  follows_caused by_root x h = a_root_fact x h
  follows_caused (by_baseline y) x h = step_caused y (record { fact = x; cause = by_baseline y }) h
  follows_caused (by_override y) x h = step_caused y (record { fact = x; cause = by_override y }) h
  follows_caused (by_overlay y) x h = step_caused y (record { fact = x; cause = by_overlay y }) h
  follows_caused (by_minimum y) x h = step_caused y (record { fact = x; cause = by_minimum y }) h
  follows_caused (by_one y) x h = step_caused y (record { fact = x; cause = by_one y }) h
  follows_caused (by_two y z) x h =
      let v = visits_are inputs y z x h in
      let caused : IsCausedBy inputs (by_two (need (inst v.i) v.f) (floor v.i.port v.v)) (visit v.i v.f v.v) = a_visit v.i v.f v.v (may_visit inputs v.i.port v.v (inputs.pages v.i.port).given refl v.visited) in
      subst (IsCausedBy inputs (by_two y z)) (sym v.is_visit) (subst (λ k. IsCausedBy inputs (by_two k z) (visit v.i v.f v.v)) (sym v.is_need) (subst (λ k. IsCausedBy inputs (by_two (need (inst v.i) v.f) k) (visit v.i v.f v.v)) (sym v.is_floor) caused))

  -- what a manifest asks is a step from the fact behind it
  asks_step : (y z : Fact) → AsksFrom inputs y z → (step : Step) → Contains (asked_step inputs y z) step → Contains (steps_from inputs y) step
  asks_step _ _ (the_root t f x asks) step h =
      flat_map-contains (asked_step inputs (need (root t) f)) (asked_of inputs.setting (root t) f inputs.setting.root) x step ((asked_means inputs.setting (root t) f inputs.setting.root x).1 asks) h
  asks_step _ _ (a_manifest i f a m x e asks) step h =
      subst (λ o. Contains (flat_map (asked_step inputs (visit i f a)) (asked_in inputs.setting i f o)) step) (sym e)
      (flat_map-contains (asked_step inputs (visit i f a)) (asked_of inputs.setting (inst i) f m) x step ((asked_means inputs.setting (inst i) f m x).1 asks) h)

  given_first : (i : Instance) (f : List ℕ) (given : Result Given Wrong) (step : Step) → (inputs.pages i.port).given ≡ given → Contains (given_step (need (inst i) f) i.port given) step → Contains (steps_from inputs (need (inst i) f)) step
  given_first i f given step e h = subst (λ g. Contains (given_step (need (inst i) f) i.port g) step) (sym e) h

  caused_follows : (cause : Cause Fact) (x : Fact) → IsCausedBy inputs cause x → FollowsBy inputs cause x
  caused_follows _ _ (a_root_fact x h) = h
  caused_follows _ _ (its_baseline i f a e) = given_first i f (Ok (baseline a)) (record { fact = floor i.port a; cause = by_baseline (need (inst i) f) }) e (contains_first _ [])
  caused_follows _ _ (its_override i f a e) = given_first i f (Ok (override a)) (record { fact = floor i.port a; cause = by_override (need (inst i) f) }) e (contains_first _ [])
  caused_follows _ _ (its_overlay i f v e) = given_first i f (Ok (overlay v)) (record { fact = floor i.port (ask_of v); cause = by_overlay (need (inst i) f) }) e (contains_first _ [])
  caused_follows _ _ (a_minimum y p a asks free) =
      let step : Step = record { fact = floor p a; cause = by_minimum y } in
      asks_step y (floor p a) asks step (subst (λ b. Contains (cond b [] (step ∷ [])) step) (sym free) (contains_first step []))
  caused_follows _ _ (a_need y who f asks) = asks_step y (need who f) asks (record { fact = need who f; cause = by_one y }) (contains_first (record { fact = need who f; cause = by_one y }) [])
  caused_follows _ _ (a_visit i f a may) =
      subst (λ b. Contains (cond b (visit i f a ∷ []) []) (visit i f a)) (sym (and_true (bytes_eq i.port i.port) (is_visited inputs i.port a) ((bytes_eq-Decides i.port i.port).1 refl) (visits_may inputs i.port a may))) (contains_first (visit i f a) [])

pub causes_mean : CausesMean
causes_mean inputs cause x = (follows_caused inputs cause x, caused_follows inputs cause x)
