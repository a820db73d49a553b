-- The version that is chosen for a port that is needed, and what its manifest asks for.
use Rattle.std.proofs.Common.{◌≡◌, ℕ, Bool, true, false, List, [], ◌∷◌, cond, inl, inr, refl, ap, sym, ◌∙◌, subst}
use Rattle.std.specs.Prelude.{Option, Some, None, IfOk, IfSome, IsOk, IsSome, Ok, Err, Result, option_and_then, slice_get, bytes_eq, filter, flat_map}
use Rattle.std.specs.List.{Contains}
use Rattle.std.specs.Map.{lookup}
use Rattle.std.proofs.lemmas.List.{append-nil}
use Rattle.std.proofs.lemmas.Map.Views.{Contains-from_lookup}
use Rattle.std.proofs.lemmas.Slice.Eq.{bytes_eq-Decides}
use Rattle.vk_spec.specs.Conditions.{Condition}
use Rattle.vk_spec.specs.Catalogues.{CanAskVersion, ArePages, CatalogueState, OnPages, OnlyAsked}
use Rattle.vk_spec.proofs.AskLemmas.{pages_before}
use Rattle.vk_spec.specs.Manifests.{Manifest}
use Rattle.vk_spec.specs.Pages.{Wrong, Given, overlay, override, baseline, is_pinned_by, manifest_in, version_in}
use Rattle.vk_spec.specs.Settings.{Instance, Setting}
use Rattle.vk_model.specs.FactViews.{reasons_view}
use Rattle.vk_model.specs.SettingViews.{setting_view}
use Rattle.vk_spec.specs.Versions.{Version, ask_of}
use Rattle.vk_version.proofs.TestLemmas.{at_most-IsOrder}
use Rattle.vk_resolution.specs.Asking.{Fact, need}
use Rattle.vk_resolution.specs.Choices.{chosen_of}
use Rattle.vk_resolution.specs.Consequences.{asked_in, asked_at}
use Rattle.vk_resolution.specs.Faults.{judged_need, judged_chosen, judged_at}
use Rattle.vk_resolution.specs.Givens.{Pages}
use Rattle.vk_resolution.specs.Planning.{is_need, planned_from, visit_of}
use Rattle.vk_resolution.specs.Selections as plain
use Rattle.vk_resolution.specs.Selections.{IsChoices, HasFloor}
use Rattle.vk_resolution.specs.Settings.{Who, inst}
use Rattle.vk_resolution.proofs.ChoiceLemmas.{needed_given, given_floor, floor_in_table, version_ask, free_choice, floors_are}
use Rattle.vk_resolution.proofs.ServiceLemmas.{pages_have_rows}
use Rattle.vk_resolution.proofs.Members.{map_contains, contains_map, true_false}
use Rattle.vk_spec.proofs.ListLemmas.{contains_nothing, contains_cases}
use Rattle.vk_resolution.proofs.SelectionLemmas.{HasChoice, needed_has_choice, chosen_pinned, choices_have_no_conflict, choices_list_ports}
use Rattle.vk_choices.specs.ChoiceViews.{choice_view, choices_view}
use Rattle.vk_choices.specs.Clear.{IsClear}
use Rattle.vk_choices.specs.declared.chosen.Choice.{Choice}
use Rattle.vk_planned.specs.Bases.{inputs_at, facts_at, IsSound}
use Rattle.vk_planned.specs.Manifests.{CanAskChosen, asked_by_found, chosen_manifest, judged_by_found, readable}
use Rattle.vk_rules.specs.Flaws.{flaw_faults}
use Rattle.vk_rules.specs.declared.flaws.Flaw.{Flaw}
use Rattle.vk_planned.specs.Flaws.{HasFlaw, flaw_lines}
use Rattle.vk_planned.specs.Graphs.{asked_by_need}
use Rattle.vk_planned.specs.declared.bases.Basis.{Basis}

-- a look-up that finds nothing has no entry with the key
none_by : {X : Type 0} (p : List ℕ) (d e : List ℕ × X) (es : List (List ℕ × X)) (b : Bool) → bytes_eq p d.0 ≡ b → cond b (Some d.1) (lookup (bytes_eq p) es) ≡ None → (lookup (bytes_eq p) es ≡ None → Contains es e → ⊥) → Contains (d ∷ es) e → p ≡ e.0 → ⊥
none_by p d e es true at clash later h same = (cc)
none_by {X} p d e es false at none later h same = elim (contains_cases d e es h) [
  | inl here ↦ true_false (bytes_eq p d.0) ((bytes_eq-Decides p d.0).1 (same ∙ ap (λ (k : List ℕ × X). k.0) (sym here))) at
  | inr there ↦ later none there
]

none_absent : {X : Type 0} (p : List ℕ) (es : List (List ℕ × X)) (e : List ℕ × X) → lookup (bytes_eq p) es ≡ None → Contains es e → p ≡ e.0 → ⊥
none_absent p [] e none h same = contains_nothing e h
none_absent p (d ∷ es) e none h same = none_by p d e es (bytes_eq p d.0) refl none (λ rest there. none_absent p es e rest there same) h same

-- something is found in a list that has a first entry
some_first : {X : Type 0} (p : List ℕ) (es : List (List ℕ × X)) (x : X) → lookup (bytes_eq p) es ≡ Some x → IsSome (slice_get es 0)
some_first p [] x e = (cc)
some_first p (d ∷ es) x e = refl

module _ (b : Basis) (pages : Pages) (sound : IsSound b pages) (i : Instance) (f : List ℕ) (needed : Contains (facts_at b) (need (inst i) f)) where
  given : (g : Given) × ((pages i.port).given ≡ Ok g)
  given = needed_given (inputs_at b pages) (facts_at b) sound.clear.clear i f needed

  can_ask : CanAskVersion (pages i.port)
  can_ask = subst (IsOk {T = Given} {E = Wrong}) (sym given.1) refl

  pub needed_choice : HasChoice (inputs_at b pages) (facts_at b) i.port
  needed_choice = needed_has_choice (inputs_at b pages) at_most-IsOrder (facts_at b) sound.clear.are_reasons.facts.least sound.clear.clear
      (choices_have_no_conflict (inputs_at b pages) (facts_at b) (choices_view b.choices.now) sound.chosen) i f needed given.0 given.1

  pub not_chosen : lookup (bytes_eq i.port) b.choices.now.ports.entries ≡ None → ⊥
  not_chosen none =
      let floored : HasFloor (facts_at b) i.port = (ask_of needed_choice.version, needed_choice.has) in
      let listed = ((choices_list_ports (inputs_at b pages) (facts_at b) (choices_view b.choices.now) sound.chosen).each i.port).1 floored in
      let c = contains_map (λ (k : plain.Choice). k.port) (choices_view b.choices.now) i.port listed in
      let e = contains_map choice_view b.choices.now.ports.entries c.0 c.1 in
      none_absent i.port b.choices.now.ports.entries e.0 none e.1 (sym c.2 ∙ ap (λ (k : plain.Choice). k.port) (sym e.2))

  pub is_chosen : (choice : Choice) → lookup (bytes_eq i.port) b.choices.now.ports.entries ≡ Some choice → chosen_of (inputs_at b pages) (facts_at b) i.port ≡ Some choice.version
  is_chosen choice found =
      let at = Contains-from_lookup (λ x y e. (bytes_eq-Decides x y).0 e) i.port choice b.choices.now.ports.entries found in
      (sound.chosen.each (choice_view (i.port, choice)) (map_contains choice_view b.choices.now.ports.entries (i.port, choice) at)).chosen

  -- the version that is chosen stands in the table
  listed : (g : Given) (v : Version) → ArePages pages → (pages i.port).given ≡ Ok g → chosen_of (inputs_at b pages) (facts_at b) i.port ≡ Some v → version_in (pages i.port) (ask_of v) ≡ Some v
  listed (overlay w) v are e chosen =
      let same : Some w ≡ Some v = sym (chosen_pinned (inputs_at b pages) (facts_at b) i.port (Ok (overlay w)) w e refl refl) ∙ chosen in
      let is : w ≡ v = (cc) in
      subst (λ k. version_in (pages i.port) (ask_of k) ≡ Some k) is (pages_have_rows pages are i.port w e)
  listed (override a) v are e chosen =
      let w = floor_in_table (inputs_at b pages) (facts_at b) sound.clear.clear i.port a (override a) e (λ u clash. (cc)) (given_floor (inputs_at b pages) (facts_at b) sound.clear.are_reasons.facts.least.closed i f needed (override a) e) in
      let same : Some w.0 ≡ Some v = sym (chosen_pinned (inputs_at b pages) (facts_at b) i.port (Ok (override a)) w.0 e refl w.1) ∙ chosen in
      let is : w.0 ≡ v = (cc) in
      let at : version_in (pages i.port) a ≡ Some v = w.1 ∙ ap Some is in
      subst (λ k. version_in (pages i.port) k ≡ Some v) (sym (version_ask pages i.port a v at)) at
  listed (baseline a) v are e chosen =
      let choice = free_choice (inputs_at b pages) (facts_at b) i.port v (ap (is_pinned_by (inputs_at b pages).setting.root.overrides i.port) e) chosen in
      let is = floors_are (inputs_at b pages) (facts_at b) i.port v choice.0 in
      subst (λ k. version_in (pages i.port) k ≡ Some v) (sym (version_ask pages i.port is.ask v is.version)) is.version

  -- so its manifest can be asked for
  pub can_ask_chosen : CanAskChosen pages b.choices.now.ports.entries i.port
  can_ask_chosen choice found =
      let are = sound.are (some_first i.port b.choices.now.ports.entries choice found) in
      record { given = can_ask; listed = subst (λ o. IsSome o) (sym (listed given.0 choice.version are given.1 (is_chosen choice found))) refl }

  -- what a need asks for is what the manifest of the chosen version does
  pub chosen_asks : (v : Version) (asked : List Fact) → chosen_of (inputs_at b pages) (facts_at b) i.port ≡ Some v → asked ≡ asked_in (inputs_at b pages).setting i f (manifest_in (pages i.port) (ask_of v))
      → filter is_need asked ≡ asked_by_need (inputs_at b pages) (facts_at b) (need (inst i) f)
  chosen_asks v asked chosen is =
      ap (filter is_need) is ∙ sym (append-nil (filter is_need (asked_at (inputs_at b pages) i f (ask_of v))))
      ∙ ap (λ o. flat_map (planned_from (inputs_at b pages) (facts_at b)) (visit_of i f o)) (sym chosen)

  -- where a manifest is not readable, nothing is asked for
  asked_readable : (m : Option (Result (Manifest Condition) Wrong)) → asked_by_found (inputs_at b pages).setting (inst i) f (readable m) ≡ asked_in (inputs_at b pages).setting i f m
  asked_readable None = refl
  asked_readable (Some (Err wrong)) = refl
  asked_readable (Some (Ok m)) = refl

  -- and nothing judged
  judged_readable : (v : Version) (m : Option (Result (Manifest Condition) Wrong)) (n : ℕ) → judged_at (inputs_at b pages) i f v m n ≡ judged_by_found (inputs_at b pages).setting (inst i) f (Some v) (readable m) n
  judged_readable v None n = refl
  judged_readable v (Some (Err wrong)) n = refl
  judged_readable v (Some (Ok m)) n = refl

  found_asks : (choice : Option Choice) (found : Option (Manifest Condition)) → lookup (bytes_eq i.port) b.choices.now.ports.entries ≡ choice → found ≡ option_and_then (λ c. readable (manifest_in (pages i.port) (ask_of c.version))) choice
      → filter is_need (asked_by_found (inputs_at b pages).setting (inst i) f found) ≡ asked_by_need (inputs_at b pages) (facts_at b) (need (inst i) f)
  found_asks None found none is = absurd (not_chosen none)
  found_asks (Some choice) found some is =
      chosen_asks choice.version (asked_by_found (inputs_at b pages).setting (inst i) f found) (is_chosen choice some)
      (ap (asked_by_found (inputs_at b pages).setting (inst i) f) is ∙ asked_readable (manifest_in (pages i.port) (ask_of choice.version)))

  found_judged : (choice : Option Choice) (found : Option (Manifest Condition)) (flaw : Option Flaw) (n : ℕ) → lookup (bytes_eq i.port) b.choices.now.ports.entries ≡ choice → found ≡ option_and_then (λ c. readable (manifest_in (pages i.port) (ask_of c.version))) choice
      → ((v : Option Version) → judged_by_found (inputs_at b pages).setting (inst i) f v found n ≡ flaw_faults (inst i) f v n flaw) → judged_need (inputs_at b pages) (facts_at b) (need (inst i) f) n ≡ flaw_lines (inputs_at b pages) (facts_at b) (need (inst i) f) flaw n
  found_judged None found flaw n none is right = absurd (not_chosen none)
  found_judged (Some choice) found flaw n some is right =
      ap (λ o. judged_chosen (inputs_at b pages) i f o n) (is_chosen choice some) ∙ judged_readable choice.version (manifest_in (pages i.port) (ask_of choice.version)) n
      ∙ ap (λ m. judged_by_found (inputs_at b pages).setting (inst i) f (Some choice.version) m n) (sym is) ∙ right (Some choice.version)
      ∙ ap (λ o. flaw_faults (inst i) f o n flaw) (sym (is_chosen choice some))

  pub asks_by : (found : Option (Manifest Condition)) → found ≡ chosen_manifest pages b.choices.now.ports.entries i.port → filter is_need (asked_by_found (inputs_at b pages).setting (inst i) f found) ≡ asked_by_need (inputs_at b pages) (facts_at b) (need (inst i) f)
  asks_by found is = found_asks (lookup (bytes_eq i.port) b.choices.now.ports.entries) found refl is

  pub judged_by : (found : Option (Manifest Condition)) (flaw : Option Flaw) → found ≡ chosen_manifest pages b.choices.now.ports.entries i.port → ((v : Option Version) (n : ℕ) → judged_by_found (inputs_at b pages).setting (inst i) f v found n ≡ flaw_faults (inst i) f v n flaw) → HasFlaw (inputs_at b pages) (facts_at b) (need (inst i) f) flaw
  judged_by found flaw is right n = found_judged (lookup (bytes_eq i.port) b.choices.now.ports.entries) found flaw n refl is (λ v. right v n)

-- the same where the pages may not be told
module _ (b : Basis) (w : Who) (i : Instance) (f : List ℕ) (who : w ≡ inst i) where
  pub may_ask : (o : Option Pages) → IfSome o (IsSound b) → IfSome o (λ pages. Contains (facts_at b) (need w f)) → IfSome o (λ pages. CanAskChosen pages b.choices.now.ports.entries i.port)
  may_ask None sound needed = tt
  may_ask (Some pages) sound needed = can_ask_chosen b pages sound i f (subst (λ z. Contains (facts_at b) (need z f)) who needed)

  module _ (s : Setting) (ruled : s ≡ setting_view b.setting.now) (found : Option (Manifest Condition)) where
    pub may_asks : (asked : List Fact) (o : Option Pages) → asked ≡ asked_by_found s w f found → IfSome o (IsSound b) → IfSome o (λ pages. Contains (facts_at b) (need w f)) → IfSome o (λ pages. found ≡ chosen_manifest pages b.choices.now.ports.entries i.port)
        → IfSome o (λ pages. filter is_need asked ≡ asked_by_need (inputs_at b pages) (facts_at b) (need w f))
    may_asks asked None is sound needed at = tt
    may_asks asked (Some pages) is sound needed at =
        ap (filter is_need) (is ∙ ap (λ t. asked_by_found t w f found) ruled ∙ ap (λ z. asked_by_found (setting_view b.setting.now) z f found) who)
        ∙ asks_by b pages sound i f (subst (λ z. Contains (facts_at b) (need z f)) who needed) found at ∙ ap (λ z. asked_by_need (inputs_at b pages) (facts_at b) (need z f)) (sym who)

    pub may_judge : (flaw : Option Flaw) (o : Option Pages) → ((v : Option Version) (n : ℕ) → judged_by_found s w f v found n ≡ flaw_faults w f v n flaw) → IfSome o (IsSound b) → IfSome o (λ pages. Contains (facts_at b) (need w f)) → IfSome o (λ pages. found ≡ chosen_manifest pages b.choices.now.ports.entries i.port)
        → IfSome o (λ pages. HasFlaw (inputs_at b pages) (facts_at b) (need w f) flaw)
    may_judge flaw None right sound needed at = tt
    may_judge flaw (Some pages) right sound needed at =
        subst (λ z. HasFlaw (inputs_at b pages) (facts_at b) (need z f) flaw) (sym who)
        (judged_by b pages sound i f (subst (λ z. Contains (facts_at b) (need z f)) who needed) found flaw at
        (λ v n. ap (λ t. judged_by_found t (inst i) f v found n) (sym ruled) ∙ ap (λ z. judged_by_found s z f v found n) (sym who) ∙ right v n ∙ ap (λ z. flaw_faults z f v n flaw) who))

-- a basis whose reasons are clear is sound where an answer showed what pages are
pub sound_of : (b : Basis) (o : Option Pages) → IfSome o (λ pages. IsClear (inputs_at b pages) (reasons_view b.reasons.now)) → IfSome o (λ pages. IsChoices (inputs_at b pages) (facts_at b) (choices_view b.choices.now)) → IfSome o (λ pages. IsSome (slice_get b.choices.now.ports.entries 0) → ArePages pages) → IfSome o (IsSound b)
sound_of b None clear chosen are = tt
sound_of b (Some pages) clear chosen are = record { clear = clear; chosen = chosen; are = are }

-- what an answer says of the pages is of those before it too
pub kept_pages : {X E : Type 0} (P : X → Pages → Type 0) (r : Result X E) {failed : Bool} {before after : CatalogueState Condition} → OnlyAsked failed before after → IfOk r (λ x. OnPages (P x) after) → IfOk r (λ x. OnPages (P x) before)
kept_pages P (Ok x) asked h = pages_before (P x) asked h
kept_pages P (Err e) asked h = tt
