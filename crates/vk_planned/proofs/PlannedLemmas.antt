-- Needs that are all taken up: they are those that are planned, and what is told of them.
use Rattle.std.proofs.Common.{◌≡◌, ◌≤◌, ℕ, Bool, true, false, List, [], ◌∷◌, ◌++◌, length, map, inl, inr, refl, ap, sym, ◌∙◌, subst, arith}
use Rattle.std.specs.Prelude.{Option, Some, None, flat_map, filter}
use Rattle.std.specs.List.{Contains}
use Rattle.std.proofs.lemmas.List.{length-map}
use Rattle.std.proofs.lemmas.List.Elements.{Contains-append_left, Contains-append_right, Contains-append_cases}
use Rattle.std.proofs.lemmas.Option.{slice_get_within}
use Rattle.vk_spec.specs.Lists.{NoRepeats, IsWithin}
use Rattle.vk_spec.specs.Settings.{Instance}
use Rattle.vk_spec.specs.Versions.{Version, ask_of}
use Rattle.vk_spec.proofs.ListLemmas.{contains_nothing, contains_first, contains_later, contains-flat_map, flat_map-contains}
use Rattle.vk_resolution.specs.Settings.{root, inst}
use Rattle.vk_resolution.specs.Asking.{Fact, need, floor, visit}
use Rattle.vk_resolution.specs.Choices.{chosen_of}
use Rattle.vk_resolution.specs.Consequences.{Inputs}
use Rattle.vk_resolution.specs.Least.{FollowsFrom, from_one, from_two, IsClosed}
use Rattle.vk_resolution.specs.Planning.{is_need, visit_of, planned_from, planned_rules_of, IsPlanned}
use Rattle.vk_resolution.specs.Laws.{StaysWithin}
use Rattle.vk_resolution.proofs.LeastLemmas.{no_longer}
use Rattle.vk_resolution.proofs.Members.{filter_contains, contains_map}
use Rattle.vk_resolution.proofs.Uniqueness.{get_contains}
use Rattle.vk_worklist.specs.Ticks.{ticks}
use Rattle.vk_planned.specs.Followed.{IsFollowed}
use Rattle.vk_rules.specs.declared.flaws.Flaw.{Flaw}
use Rattle.vk_planned.specs.Flaws.{AreFlaws}
use Rattle.vk_planned.specs.Graphs.{asked_by_need, IsGraph}
use Rattle.vk_planned.proofs.FollowLemmas.{place_of, visit_no_need}

module _ (inputs : Inputs) (facts needs : List Fact) (edges : List (ℕ × ℕ)) (flaws : List (Option Flaw)) (all : IsFollowed inputs facts (length needs) needs edges flaws) where
  -- what a need asks for is among them
  asks_within : (a x : Fact) → Contains needs a → Contains (asked_by_need inputs facts a) x → Contains needs x
  asks_within a x h asks =
      let p = place_of needs a h in
      let r = all.complete p.0 a x (slice_get_within needs p.0 a p.1) p.1 asks in
      get_contains needs r.0 x r.1

  -- the needs and their visits
  abbrev closing : List Fact
  closing = needs ++ flat_map (planned_from inputs facts) needs

  step_on : (z a x : Fact) → Contains needs z → Contains (planned_from inputs facts z) a → Contains (planned_from inputs facts a) x → Contains closing x
  step_on (need (root t) f) a x h one two =
      Contains-append_right needs (flat_map (planned_from inputs facts) needs) x (flat_map-contains (planned_from inputs facts) needs a x (asks_within (need (root t) f) a h one) two)
  step_on (need (inst i) f) a x h one two =
      Contains-append_left needs (flat_map (planned_from inputs facts) needs) x (asks_within (need (inst i) f) x h (flat_map-contains (planned_from inputs facts) (visit_of i f (chosen_of inputs facts i.port)) a x one two))
  step_on (floor p b) a x h one two = absurd (contains_nothing a one)
  step_on (visit i f b) a x h one two = (let clash : false ≡ true = all.are_needs (visit i f b) h in (cc))

  closing_step : (x : Fact) → FollowsFrom (planned_rules_of inputs facts) (Contains closing) x → Contains closing x
  closing_step x (from_one a h at) =
      elim (Contains-append_cases needs (flat_map (planned_from inputs facts) needs) a h) [
        | inl is ↦ Contains-append_right needs (flat_map (planned_from inputs facts) needs) x (flat_map-contains (planned_from inputs facts) needs a x is at)
        | inr asked ↦ (let r = contains-flat_map (planned_from inputs facts) needs a asked in step_on r.0 a x r.1 r.2 at)
      ]
  closing_step x (from_two a b one two at) = absurd (contains_nothing x at)

  closing_closed : IsClosed (planned_rules_of inputs facts) closing
  closing_closed = record { roots = λ x h. Contains-append_left needs (flat_map (planned_from inputs facts) needs) x (all.roots x h); steps = closing_step }

  asked_needs : (z x : Fact) → Contains needs z → Contains (planned_from inputs facts z) x → is_need x ≡ true → Contains needs x
  asked_needs (need (root t) f) x h at e = asks_within (need (root t) f) x h at
  asked_needs (need (inst i) f) x h at e = (let clash : true ≡ false = sym e ∙ visit_no_need inputs facts i f (chosen_of inputs facts i.port) x at in (cc))
  asked_needs (floor p b) x h at e = absurd (contains_nothing x at)
  asked_needs (visit i f b) x h at e = (let clash : false ≡ true = all.are_needs (visit i f b) h in (cc))

  -- the needs that are planned are among them
  pub planned_needs : (planned : List Fact) → IsPlanned inputs facts planned → (x : Fact) → Contains planned x → is_need x ≡ true → Contains needs x
  planned_needs planned is x h e =
      elim (Contains-append_cases needs (flat_map (planned_from inputs facts) needs) x (is.forced.within closing closing_closed x h)) [
        | inl among ↦ among
        | inr asked ↦ (let r = contains-flat_map (planned_from inputs facts) needs x asked in asked_needs r.0 x r.1 r.2 e)
      ]

  pub graph_is : (planned : List Fact) → IsPlanned inputs facts planned → IsGraph inputs facts planned needs edges
  graph_is planned is = record {
    is_planned = is;
    distinct = all.distinct;
    all = λ x. ((λ h. (all.within planned is.closed x h, all.are_needs x h)), (λ h. planned_needs planned is x h.0 h.1));
    lead = λ m n h. (let r = all.lead (m, n) h in (r.from, r.to, r.at, r.other, r.asks));
    complete = λ m x y at asks. all.complete m x y (slice_get_within needs m x at) at asks;
  }

  pub flaws_are : AreFlaws inputs facts needs flaws
  flaws_are = record { long = all.long; each = λ m x at. all.judged m x (slice_get_within needs m x at) at }

-- ---- how many steps they take

-- whether a fact takes a step
abbrev ticking : Fact → Bool
ticking (need (root t) f) = true
ticking (need (inst i) f) = false
ticking (floor p a) = false
ticking (visit i f a) = true

ticks_are : (ys : List Fact) → ticks ys ≡ length (filter ticking ys)
ticks_are [] = refl
ticks_are (need (root t) f ∷ ys) = let rest : ticks ys ≡ length (filter ticking ys) = ticks_are ys in omega arith
ticks_are (need (inst i) f ∷ ys) = let rest : ticks ys ≡ length (filter ticking ys) = ticks_are ys in omega arith
ticks_are (floor p a ∷ ys) = let rest : ticks ys ≡ length (filter ticking ys) = ticks_are ys in omega arith
ticks_are (visit i f a ∷ ys) = let rest : ticks ys ≡ length (filter ticking ys) = ticks_are ys in omega arith

-- the fact by which a need takes a step: its visit, or the need of the root itself
abbrev shown_by : Instance → List ℕ → Option Version → Fact
shown_by i f None = need (inst i) f
shown_by i f (Some v) = visit i f (ask_of v)

abbrev shown : Inputs → List Fact → Fact → Fact
shown inputs facts (need (root t) f) = need (root t) f
shown inputs facts (need (inst i) f) = shown_by i f (chosen_of inputs facts i.port)
shown inputs facts (floor p a) = floor p a
shown inputs facts (visit i f a) = visit i f a

abbrev need_of : Fact → Fact
need_of (need who f) = need who f
need_of (floor p a) = floor p a
need_of (visit i f a) = need (inst i) f

shown_back : (i : Instance) (f : List ℕ) (o : Option Version) → need_of (shown_by i f o) ≡ need (inst i) f
shown_back i f None = refl
shown_back i f (Some v) = refl

need_shown : (inputs : Inputs) (facts : List Fact) (x : Fact) → is_need x ≡ true → need_of (shown inputs facts x) ≡ x
need_shown inputs facts (need (root t) f) e = refl
need_shown inputs facts (need (inst i) f) e = shown_back i f (chosen_of inputs facts i.port)
need_shown inputs facts (floor p a) e = refl
need_shown inputs facts (visit i f a) e = (cc)

shown_distinct : (inputs : Inputs) (facts xs : List Fact) → ((x : Fact) → Contains xs x → is_need x ≡ true) → NoRepeats xs → NoRepeats (map (shown inputs facts) xs)
shown_distinct inputs facts [] each distinct = tt
shown_distinct inputs facts (x ∷ xs) each distinct = (
  (λ h. (
      let r = contains_map (shown inputs facts) xs (shown inputs facts x) h in
      distinct.0 (subst (Contains xs) (sym (need_shown inputs facts r.0 (each r.0 (contains_later x r.0 xs r.1))) ∙ ap need_of r.2 ∙ need_shown inputs facts x (each x (contains_first x xs))) r.1)
      )),
  shown_distinct inputs facts xs (λ y h. each y (contains_later x y xs h)) distinct.1,
)

module _ (inputs : Inputs) (facts planned : List Fact) (stays : StaysWithin inputs facts planned) (chosen : (i : Instance) (f : List ℕ) → Contains facts (need (inst i) f) → (v : Version) × (chosen_of inputs facts i.port ≡ Some v)) where
  shown_in : (x : Fact) → is_need x ≡ true → Contains planned x → Contains (filter ticking planned) (shown inputs facts x)
  shown_in (need (root t) f) e h = filter_contains ticking planned (need (root t) f) h refl
  shown_in (need (inst i) f) e h =
      let c = chosen i f (stays.within (need (inst i) f) h) in
      subst (Contains (filter ticking planned)) (sym (ap (shown_by i f) c.1)) (filter_contains ticking planned (visit i f (ask_of c.0)) (stays.visits i f c.0 h c.1) refl)
  shown_in (floor p a) e h = (cc)
  shown_in (visit i f a) e h = (cc)

  pub needs_tick : (needs : List Fact) → NoRepeats needs → ((x : Fact) → Contains needs x → is_need x ≡ true) → IsWithin needs planned → length needs ≤ ticks planned
  needs_tick needs distinct each within =
      let few : length (map (shown inputs facts) needs) ≤ length (filter ticking planned) = no_longer (map (shown inputs facts) needs) (filter ticking planned) (shown_distinct inputs facts needs each distinct) (λ y h. (
      let r = contains_map (shown inputs facts) needs y h in subst (Contains (filter ticking planned)) r.2 (shown_in r.0 (each r.0 r.1) (within r.0 r.1))
      )) in
      let long = length-map needs (shown inputs facts) in
      let all = ticks_are planned in
      omega (arith, few, long, all)
