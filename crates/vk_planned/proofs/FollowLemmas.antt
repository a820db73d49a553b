-- Needs that are taken up: the first, one more, and what they are when all are.
use Rattle.std.proofs.Common.{◌≡◌, ◌<◌, ◌+◌, ◌⊎◌, ℕ, zero, suc, true, false, List, [], ◌∷◌, ◌++◌, length, inl, inr, refl, ap, sym, ◌∙◌, subst, arith}
use Rattle.std.specs.Prelude.{Option, Some, None, slice_get}
use Rattle.std.specs.List.{Contains}
use Rattle.std.proofs.lemmas.List.{length_push}
use Rattle.std.proofs.lemmas.Option.{slice_get_within, slice_get-get_or}
use Rattle.vk_spec.specs.Settings.{Instance}
use Rattle.vk_spec.specs.Versions.{Version, ask_of}
use Rattle.vk_spec.proofs.ListLemmas.{contains_nothing, contains-flat_map}
use Rattle.vk_resolution.specs.Settings.{root, inst, first_features_of}
use Rattle.vk_resolution.specs.Asking.{Fact, need, floor, visit, asked_of, root_facts_of}
use Rattle.vk_resolution.specs.Choices.{chosen_of}
use Rattle.vk_resolution.specs.Consequences.{Inputs, asked_at}
use Rattle.vk_resolution.specs.Least.{from_one, IsClosed}
use Rattle.vk_resolution.specs.Planning.{is_need, visit_of, planned_from, planned_rules_of}
use Rattle.vk_resolution.specs.Worklist.{Notes}
use Rattle.vk_resolution.proofs.Members.{contains_filter, contains_map, contains_single}
use Rattle.vk_resolution.proofs.Uniqueness.{get_contains}
use Rattle.vk_planned.specs.Followed.{Leads, IsFollowed}
use Rattle.vk_rules.specs.declared.flaws.Flaw.{Flaw}
use Rattle.vk_planned.specs.Flaws.{HasFlaw, flaw_in}
use Rattle.vk_planned.specs.Graphs.{asked_by_need}
use Rattle.vk_planned.specs.Links.{Links}
use Rattle.vk_planned.proofs.LinkLemmas.{stays_at, stood_at}

pub place_of : {X : Type 0} (xs : List X) (x : X) → Contains xs x → (n : ℕ) × (slice_get xs n ≡ Some x)
place_of xs x h = (h.0, slice_get-get_or xs h.0 x h.1 ∙ ap Some h.2)

lower : (m n : ℕ) → m < n + 1 → (m < n) ⊎ (m ≡ n)
lower zero zero below = inr refl
lower zero (suc n) below = inl (omega arith)
lower (suc m) zero below = absurd (omega arith)
lower (suc m) (suc n) below = elim (lower m n (omega arith)) [ inl less ↦ inl (omega arith) | inr same ↦ inr (ap suc same) ]

got_before : {X : Type 0} (xs : List X) (y : X) (m : ℕ) → m < length xs → slice_get (xs ++ y ∷ []) m ≡ slice_get xs m
got_before [] y m below = absurd (omega arith)
got_before (x ∷ xs) y zero below = refl
got_before (x ∷ xs) y (suc m) below = got_before xs y m (omega arith)

got_last : {X : Type 0} (xs : List X) (y : X) → slice_get (xs ++ y ∷ []) (length xs) ≡ Some y
got_last [] y = refl
got_last (x ∷ xs) y = got_last xs y

module _ (inputs : Inputs) (facts : List Fact) where
  -- a visit is no need
  pub visit_no_need : (i : Instance) (f : List ℕ) (o : Option Version) (x : Fact) → Contains (visit_of i f o) x → is_need x ≡ false
  visit_no_need i f None x h = absurd (contains_nothing x h)
  visit_no_need i f (Some v) x h = ap is_need (sym (contains_single (visit i f (ask_of v)) x h))

  -- what is asked for is a need
  visit_asks : (a x : Fact) → is_need a ≡ false → Contains (planned_from inputs facts a) x → is_need x ≡ true
  visit_asks (need who f) x e h = (cc)
  visit_asks (floor p a) x e h = absurd (contains_nothing x h)
  visit_asks (visit i f a) x e h = (contains_filter is_need (asked_at inputs i f a) x h).1

  asks_needs : (a x : Fact) → Contains (asked_by_need inputs facts a) x → is_need x ≡ true
  asks_needs (need (root t) f) x h = (contains_filter is_need (asked_of inputs.setting (root t) f inputs.setting.root) x h).1
  asks_needs (need (inst i) f) x h =
      let r = contains-flat_map (planned_from inputs facts) (visit_of i f (chosen_of inputs facts i.port)) x h in
      visit_asks r.0 x (visit_no_need i f (chosen_of inputs facts i.port) r.0 r.1) r.2
  asks_needs (floor p a) x h = absurd (contains_nothing x h)
  asks_needs (visit i f a) x h = absurd (contains_nothing x h)

  -- what is asked for is in each closed list
  asks_closed : (other : List Fact) → IsClosed (planned_rules_of inputs facts) other → (a x : Fact) → Contains other a → Contains (asked_by_need inputs facts a) x → Contains other x
  asks_closed other closed (need (root t) f) x at h = closed.steps x (from_one (need (root t) f) at h)
  asks_closed other closed (need (inst i) f) x at h =
      let r = contains-flat_map (planned_from inputs facts) (visit_of i f (chosen_of inputs facts i.port)) x h in
      closed.steps x (from_one r.0 (closed.steps r.0 (from_one (need (inst i) f) at r.1)) r.2)
  asks_closed other closed (floor p a) x at h = absurd (contains_nothing x h)
  asks_closed other closed (visit i f a) x at h = absurd (contains_nothing x h)

  -- none is taken up
  pub followed_first : (needs : List Fact) → Notes [] (root_facts_of inputs.setting) [] needs → IsFollowed inputs facts 0 needs [] []
  followed_first needs notes = record {
    roots = λ x h. elim (notes.complete x h) [ inl none ↦ absurd (contains_nothing x none) | inr put ↦ put ];
    distinct = notes.distinct tt;
    within = λ other closed x h. elim (notes.sound x h) [ inl none ↦ absurd (contains_nothing x none) | inr first ↦ closed.roots x first ];
    are_needs = λ x h. elim (notes.sound x h) [
      | inl none ↦ absurd (contains_nothing x none)
      | inr first ↦ ap is_need (sym (contains_map (need (root inputs.setting.target.name)) (first_features_of inputs.setting) x first).2)
    ];
    lead = λ e h. absurd (contains_nothing e h);
    complete = λ m x y below. absurd (omega arith);
    long = refl;
    judged = λ m x below. absurd (omega arith);
  }

  -- one need more
  module _ (n : ℕ) (needs new : List Fact) (edges after : List (ℕ × ℕ)) (flaws : List (Option Flaw)) (was : IsFollowed inputs facts n needs edges flaws) (a : Fact) (here : slice_get needs n ≡ Some a) (links : Links n (asked_by_need inputs facts a) needs new edges after) where
    on : (m : ℕ) (x : Fact) → slice_get needs m ≡ Some x → slice_get new m ≡ Some x
    on m x e = subst (λ l. slice_get l m ≡ Some x) (sym links.kept) (stays_at needs links.more m x e)

    back : (m : ℕ) (x : Fact) → m < n + 1 → slice_get new m ≡ Some x → slice_get needs m ≡ Some x
    back m x below e =
        let within : n < length needs = slice_get_within needs n a here in
        stood_at needs links.more m x (omega arith) (subst (λ l. slice_get l m ≡ Some x) links.kept e)

    is_here : (m : ℕ) (x : Fact) → m ≡ n → slice_get needs m ≡ Some x → x ≡ a
    is_here m x same e = let both : Some x ≡ Some a = sym e ∙ ap (slice_get needs) same ∙ here in (cc)

    led : (e : ℕ × ℕ) → Leads inputs facts n needs e → Leads inputs facts (n + 1) new e
    led e lead = record { taken = (let low : e.0 < n = lead.taken in omega arith); from = lead.from; to = lead.to; at = on e.0 lead.from lead.at; other = on e.1 lead.to lead.other; asks = lead.asks }

    pub followed_next : (flaw : Option Flaw) → HasFlaw inputs facts a flaw → IsFollowed inputs facts (n + 1) new after (flaws ++ flaw ∷ [])
    followed_next flaw has = record {
      roots = λ x h. links.notes.kept x (was.roots x h);
      distinct = links.notes.distinct was.distinct;
      within = λ other closed x h. elim (links.notes.sound x h) [
        | inl old ↦ was.within other closed x old
        | inr asked ↦ asks_closed other closed a x (was.within other closed a (get_contains needs n a here)) asked
      ];
      are_needs = λ x h. elim (links.notes.sound x h) [ inl old ↦ was.are_needs x old | inr asked ↦ asks_needs a x asked ];
      lead = λ e h. elim (links.sound e h) [
        | inl old ↦ led e (was.lead e old)
        | inr link ↦ record {
          taken = (let same : e.0 ≡ n = link.from in omega arith);
          from = a;
          to = link.to;
          at = ap (slice_get new) link.from ∙ on n a here;
          other = link.at;
          asks = link.asks;
        }
      ];
      complete = λ m x y below at asks. elim (lower m n below) [
        | inl less ↦ (let r = was.complete m x y less (back m x below at) asks in (r.0, on r.0 y r.1, links.stay (m, r.0) r.2))
        | inr same ↦ (
            let r = links.complete y (subst (λ z. Contains (asked_by_need inputs facts z) y) (is_here m x same (back m x below at)) asks) in
            (r.0, r.1, subst (λ k. Contains after (k, r.0)) (sym same) r.2)
            )
      ];
      long = length_push flaws flaw ∙ ap (λ k. k + 1) was.long;
      judged = λ m x below at. elim (lower m n below) [
        | inl less ↦ (
            let old : m < length flaws = subst (λ k. m < k) (sym was.long) less in
            subst (λ o. HasFlaw inputs facts x (flaw_in o)) (sym (got_before flaws flaw m old)) (was.judged m x less (back m x below at))
            )
        | inr same ↦ (
            let end : slice_get (flaws ++ flaw ∷ []) m ≡ Some flaw = ap (slice_get (flaws ++ flaw ∷ [])) (same ∙ sym was.long) ∙ got_last flaws flaw in
            subst (λ o. HasFlaw inputs facts x (flaw_in o)) (sym end) (subst (λ z. HasFlaw inputs facts z flaw) (sym (is_here m x same (back m x below at))) has)
            )
      ];
    }
