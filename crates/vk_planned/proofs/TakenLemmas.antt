-- A plan in the making: the first needs, one more, and the end.
use Rattle.std.proofs.Common.{◌≡◌, ◌<◌, ◌≤◌, ◌+◌, ℕ, List, [], ◌∷◌, ◌++◌, length, ap, sym, ◌∙◌, subst, arith}
use Rattle.std.specs.Prelude.{Option, Some, None, IfSome, option_map, slice_get}
use Rattle.std.specs.List.{Contains}
use Rattle.std.proofs.lemmas.List.{length-map, length-append}
use Rattle.std.proofs.lemmas.Option.{slice_get-map}
use Rattle.vk_spec.specs.Settings.{Instance}
use Rattle.vk_spec.specs.Versions.{Version}
use Rattle.vk_version.proofs.TestLemmas.{at_most-IsOrder}
use Rattle.vk_resolution.specs.Asking as plain
use Rattle.vk_resolution.specs.Asking.{need, root_facts_of}
use Rattle.vk_resolution.specs.Choices.{chosen_of}
use Rattle.vk_resolution.specs.Givens.{Pages}
use Rattle.vk_resolution.specs.Planning.{IsPlanned}
use Rattle.vk_resolution.specs.Reasons.{Reason}
use Rattle.vk_resolution.specs.Settings.{inst}
use Rattle.vk_resolution.specs.Worklist.{Notes}
use Rattle.vk_resolution.proofs.LeastLemmas.{no_longer}
use Rattle.vk_resolution.proofs.PlanLemmas.{plan_exists, plan_stays_within, planned_closed}
use Rattle.vk_resolution.proofs.Uniqueness.{get_contains}
use Rattle.vk_model.specs.declared.facts.Fact.{Fact}
use Rattle.vk_model.specs.FactViews.{fact_view, reason_view, reasons_view}
use Rattle.vk_model.specs.SettingViews.{setting_view}
use Rattle.vk_worklist.specs.Ticks.{ticks}
use Rattle.vk_planned.specs.Bases.{inputs_at, facts_at, IsSound}
use Rattle.vk_planned.specs.Followed.{IsFollowed, IsTakenUp}
use Rattle.vk_rules.specs.declared.flaws.Flaw.{Flaw}
use Rattle.vk_planned.specs.Flaws.{AreFlaws, HasFlaw}
use Rattle.vk_planned.specs.Graphs.{asked_by_need, IsGraph}
use Rattle.vk_planned.specs.Links.{Links}
use Rattle.vk_planned.specs.Needs.{facts_view, needs_in}
use Rattle.vk_planned.specs.declared.bases.Basis.{Basis}
use Rattle.vk_planned.specs.declared.planning.Planned.{Planned}
use Rattle.vk_planned.proofs.ChosenLemmas.{needed_choice}
use Rattle.vk_planned.proofs.FollowLemmas.{followed_first, followed_next}
use Rattle.vk_planned.proofs.PlannedLemmas.{graph_is, flaws_are, needs_tick}

at_place : (xs : List Fact) (n : ℕ) (x : Fact) → slice_get xs n ≡ Some x → slice_get (facts_view xs) n ≡ Some (fact_view x)
at_place xs n x e = slice_get-map fact_view xs n ∙ ap (option_map fact_view) e

module _ (b : Basis) where
  -- ---- on pages that are told

  module _ (pages : Pages) (sound : IsSound b pages) where
    in_facts : (n : ℕ) (p : Planned) → IsTakenUp b n p pages → (x : plain.Fact) → Contains (facts_view p.needs.keys) x → Contains (facts_at b) x
    in_facts n p was = was.within (facts_at b) (planned_closed (inputs_at b pages) at_most-IsOrder (facts_at b) sound.clear.are_reasons.facts.least.closed sound.clear.clear)

    chosen_in : (i : Instance) (f : List ℕ) → Contains (facts_at b) (need (inst i) f) → (v : Version) × (chosen_of (inputs_at b pages) (facts_at b) i.port ≡ Some v)
    chosen_in i f h = let c = needed_choice b pages sound i f h in (c.version, c.chosen)

    few_needs : (n : ℕ) (p : Planned) → IsTakenUp b n p pages → length p.needs.keys ≤ length b.reasons.now
    few_needs n p was =
        let few = no_longer (facts_view p.needs.keys) (facts_at b) was.distinct (in_facts n p was) in
        let one = length-map p.needs.keys fact_view in
        let two = length-map (reasons_view b.reasons.now) (λ (r : Reason). r.fact) in
        let three = length-map b.reasons.now reason_view in
        omega (arith, few, one, two, three)

    few_steps : (n : ℕ) (p : Planned) → IsTakenUp b n p pages → (facts : List plain.Fact) → IsPlanned (inputs_at b pages) (facts_at b) facts → length p.needs.keys ≤ ticks facts
    few_steps n p was facts is =
        let stays = plan_stays_within (inputs_at b pages) at_most-IsOrder (facts_at b) facts sound.clear.are_reasons.facts.least sound.clear.clear is in
        let few = needs_tick (inputs_at b pages) (facts_at b) facts stays chosen_in (facts_view p.needs.keys) was.distinct was.are_needs (was.within facts is.closed) in
        let long = length-map p.needs.keys fact_view in
        omega (arith, few, long)

  -- ---- where they may not be told

  pub taken_first : (p : Planned) (o : Option Pages) → Notes [] (root_facts_of (setting_view b.setting.now)) [] (facts_view p.needs.keys) → p.edges.items ≡ [] → p.flaws.items ≡ [] → IfSome o (IsTakenUp b 0 p)
  taken_first p None notes none clear = tt
  taken_first p (Some pages) notes none clear =
      subst (λ fs. IsFollowed (inputs_at b pages) (facts_at b) 0 (facts_view p.needs.keys) p.edges.items fs) (sym clear)
      (subst (λ es. IsFollowed (inputs_at b pages) (facts_at b) 0 (facts_view p.needs.keys) es []) (sym none) (followed_first (inputs_at b pages) (facts_at b) (facts_view p.needs.keys) notes))

  -- the need at a place is among the facts
  pub taken_needed : (n m : ℕ) (p : Planned) (x : Fact) (o : Option Pages) → slice_get p.needs.keys m ≡ Some x → IfSome o (IsSound b) → IfSome o (IsTakenUp b n p) → IfSome o (λ pages. Contains (facts_at b) (fact_view x))
  taken_needed n m p x None at sound was = tt
  taken_needed n m p x (Some pages) at sound was = in_facts pages sound n p was (fact_view x) (get_contains (facts_view p.needs.keys) m (fact_view x) (at_place p.needs.keys m x at))

  pub taken_next : (n : ℕ) (p q : Planned) (x : Fact) (asked : List Fact) (flaw : Option Flaw) (o : Option Pages) → slice_get p.needs.keys n ≡ Some x → q.flaws.items ≡ p.flaws.items ++ flaw ∷ []
      → Links n (needs_in asked) (facts_view p.needs.keys) (facts_view q.needs.keys) p.edges.items q.edges.items
      → IfSome o (λ pages. needs_in asked ≡ asked_by_need (inputs_at b pages) (facts_at b) (fact_view x)) → IfSome o (λ pages. HasFlaw (inputs_at b pages) (facts_at b) (fact_view x) flaw)
      → IfSome o (IsTakenUp b n p) → IfSome o (IsTakenUp b (n + 1) q)
  taken_next n p q x asked flaw None at put links asks has was = tt
  taken_next n p q x asked flaw (Some pages) at put links asks has was =
      subst (λ fs. IsFollowed (inputs_at b pages) (facts_at b) (n + 1) (facts_view q.needs.keys) q.edges.items fs) (sym put)
      (followed_next (inputs_at b pages) (facts_at b) n (facts_view p.needs.keys) (facts_view q.needs.keys) p.edges.items q.edges.items p.flaws.items was (fact_view x) (at_place p.needs.keys n x at)
      (subst (λ l. Links n l (facts_view p.needs.keys) (facts_view q.needs.keys) p.edges.items q.edges.items) asks links) flaw has)

  -- what is put stands behind what was there
  pub links_grow : (n : ℕ) (p q : Planned) (asked : List plain.Fact) → n < length p.needs.keys → Links n asked (facts_view p.needs.keys) (facts_view q.needs.keys) p.edges.items q.edges.items → n + 1 ≤ length q.needs.keys
  links_grow n p q asked within links =
      let one = length-map p.needs.keys fact_view in
      let two = length-map q.needs.keys fact_view in
      let three : length (facts_view q.needs.keys) ≡ length (facts_view p.needs.keys) + length links.more = ap length links.kept ∙ length-append (facts_view p.needs.keys) links.more in
      omega (arith, one, two, three, within)

  -- as many are taken up as there are reasons, so all are
  pub taken_all : (n : ℕ) (p : Planned) (o : Option Pages) → length b.reasons.now ≤ n → n ≤ length p.needs.keys → IfSome o (IsSound b) → IfSome o (IsTakenUp b n p) → IfSome o (IsTakenUp b (length p.needs.keys) p)
  taken_all n p None enough within sound was = tt
  taken_all n p (Some pages) enough within sound was =
      let few : length p.needs.keys ≤ length b.reasons.now = few_needs pages sound n p was in
      let same : n ≡ length p.needs.keys = omega arith in
      subst (λ k. IsTakenUp b k p pages) same was

  pub taken_steps : (n old new : ℕ) (p : Planned) (o : Option Pages) → new ≤ old + length p.needs.keys → IfSome o (IsSound b) → IfSome o (IsTakenUp b n p) → IfSome o (λ pages. (facts : List plain.Fact) → IsPlanned (inputs_at b pages) (facts_at b) facts → new ≤ old + ticks facts)
  taken_steps n old new p None most sound was = tt
  taken_steps n old new p (Some pages) most sound was = λ facts is. (let few : length p.needs.keys ≤ ticks facts = few_steps pages sound n p was facts is in omega arith)

  pub taken_graph : (p : Planned) (o : Option Pages) → IfSome o (IsSound b) → IfSome o (IsTakenUp b (length p.needs.keys) p) → IfSome o (λ pages. (planned : List plain.Fact) × IsGraph (inputs_at b pages) (facts_at b) planned (facts_view p.needs.keys) p.edges.items)
  taken_graph p None sound was = tt
  taken_graph p (Some pages) sound was =
      let r = plan_exists (inputs_at b pages) at_most-IsOrder (facts_at b) sound.clear.are_reasons.facts.least sound.clear.clear in
      let all = subst (λ k. IsFollowed (inputs_at b pages) (facts_at b) k (facts_view p.needs.keys) p.edges.items p.flaws.items) (sym (length-map p.needs.keys fact_view)) was in
      (r.planned, graph_is (inputs_at b pages) (facts_at b) (facts_view p.needs.keys) p.edges.items p.flaws.items all r.planned r.is_planned)

  pub taken_flaws : (p : Planned) (o : Option Pages) → IfSome o (IsTakenUp b (length p.needs.keys) p) → IfSome o (λ pages. AreFlaws (inputs_at b pages) (facts_at b) (facts_view p.needs.keys) p.flaws.items)
  taken_flaws p None was = tt
  taken_flaws p (Some pages) was =
      let all = subst (λ k. IsFollowed (inputs_at b pages) (facts_at b) k (facts_view p.needs.keys) p.edges.items p.flaws.items) (sym (length-map p.needs.keys fact_view)) was in
      flaws_are (inputs_at b pages) (facts_at b) (facts_view p.needs.keys) p.edges.items p.flaws.items all
