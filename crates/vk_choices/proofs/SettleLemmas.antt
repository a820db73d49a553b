-- Ports are settled one after the other.
use Rattle.std.proofs.Common.{◌≡◌, ◌⊎◌, get_or, ℕ, Bool, List, [], ◌∷◌, ◌++◌, map, inl, inr, refl, ap, ap₂, sym, ◌∙◌, subst}
use Rattle.std.specs.Prelude.{Option, Some, None, IfSome, Result, Ok, Err, OnOk, flat_map, bytes_eq}
use Rattle.std.specs.declared.cmp.Ordering.TheVariants.{Less}
use Rattle.std.specs.Ordering.{nat_cmp}
use Rattle.std.specs.Cmp.Lexicographic.{slice_cmp}
use Rattle.std.specs.List.{Contains}
use Rattle.std.specs.Map.{keys_of, lookup}
use Rattle.std.proofs.lemmas.List.{append-nil, map-append}
use Rattle.std.proofs.lemmas.List.Concat.{flat_map-append}
use Rattle.std.proofs.lemmas.List.Elements.{Contains-push, Contains-push_cases, Contains-append_left, Contains-append_right, Contains-append_cases}
use Rattle.vk_spec.specs.Versions.{Version}
use Rattle.vk_spec.specs.Settings.{Setting}
use Rattle.vk_spec.specs.Catalogues.{CanAskVersion}
use Rattle.vk_spec.proofs.OptionLemmas.{of_both}
use Rattle.vk_spec.proofs.ListLemmas.{contains_nothing, contains_first, contains_later}
use Rattle.vk_resolution.specs.Givens.{Pages}
use Rattle.vk_resolution.specs.Asking.{Fact}
use Rattle.vk_resolution.specs.Choices.{chosen_of}
use Rattle.vk_resolution.specs.Faults as plain
use Rattle.vk_resolution.specs.Faults.{conflicts_of}
use Rattle.vk_resolution.specs.Planner.{inputs_of}
use Rattle.vk_resolution.specs.Selections as choice
use Rattle.vk_resolution.specs.Selections.{IsChoice}
use Rattle.vk_resolution.proofs.Members.{contains_single, map_contains}
use Rattle.vk_choices.specs.declared.chosen.Choice.{Choice}
use Rattle.vk_choices.specs.declared.floors.Floor.{Floor}
use Rattle.vk_choices.specs.declared.settling.Settled.{Settled}
use Rattle.vk_choices.specs.ChoiceViews.{choice_view}
use Rattle.vk_choices.specs.declared.asks.Asked.{Asked}
use Rattle.vk_choices.specs.Rows.{Rows, AreInOrder}
use Rattle.vk_choices.specs.Asks.{asked_view}
use Rattle.vk_choices.specs.Floors.{AreFloors, row_with, floors_for, CanAskPorts}
use Rattle.vk_choices.specs.Tops.{IsAboveAll, IsGreatest, IsFirst, AreFirstTwo, both, is_later_top}
use Rattle.vk_choices.specs.Settling.{choice_on, conflict_on, chosen_in, told_in, TellsTwo, IsAdded, by_choice, by_conflict, IsRow, AreSettled, AreSettledFor, Settles, ports_in}
use Rattle.vk_choices.proofs.RowLemmas.{absent, are_apart, is_first}
use Rattle.vk_choices.proofs.TopLemmas.{got, got_whole}
use Rattle.vk_choices.proofs.ConflictLemmas.{greatest_some, greatest_none, conflict_told}

-- ---- one port

pub on_ok : {A E P Q : Type 0} (r : Result A E) → (P → Q) → OnOk r P → OnOk r Q
on_ok (Ok x) f h = f h
on_ok (Err e) f h = tt

-- the floor at the place of the greatest is put as the choice
pub chosen_added : (p : List ℕ) (floors items : List Floor) (n : ℕ) (f : Floor) (old new : Settled) → IsGreatest floors (Some n) → items ≡ floors → f ≡ get_or items n f → chosen_in new ≡ chosen_in old ++ choice_on p f ∷ [] → told_in new ≡ told_in old → IsAdded p floors old new
chosen_added p floors items n f old new is same at chosen told =
    let found : f ≡ is.0 = at ∙ ap (λ (l : List Floor). get_or l n f) same ∙ got_whole floors n is.0 f is.1 in
    by_choice f (subst (Contains floors) (sym found) (got floors n is.0 is.1)) (subst (λ (g : Floor). IsAboveAll floors g.version) (sym found) is.2) chosen told

module _ (setting : Setting) (pages : Pages) (facts : List Fact) where
  abbrev told_of : List (List ℕ) → List plain.Fault
  told_of ports = flat_map (λ p. conflicts_of (inputs_of setting pages) facts p (chosen_of (inputs_of setting pages) facts p)) ports

  choice_settles : (p : List ℕ) (floors : List Floor) (f : Floor) → IsRow setting pages facts p floors → Contains floors f → IsAboveAll floors f.version → AreSettled setting pages facts (p ∷ []) (choice_on p f ∷ []) []
  choice_settles p floors f row h above =
      let chosen : chosen_of (inputs_of setting pages) facts p ≡ Some f.version = row.chosen ∙ greatest_some setting pages floors f h above in
      record {
        each = λ c k. subst (IsChoice (inputs_of setting pages) facts) (contains_single (choice_on p f) c k) (record { chosen = chosen; floor = row.lines f h });
        all = λ have. refl;
        told = sym (append-nil _ ∙ ap (conflicts_of (inputs_of setting pages) facts p) chosen);
      }

  conflict_settles : (p : List ℕ) (floors : List Floor) (two : Option (Floor × Floor)) → IsRow setting pages facts p floors → IsGreatest floors None → AreFirstTwo floors two → AreSettled setting pages facts (p ∷ []) [] (conflict_on p two)
  conflict_settles p floors two row none are = record {
    each = λ c k. absurd (contains_nothing c k);
    all = λ have. (let h = have p (contains_first p []) in let clash : None ≡ Some h.0 = sym (row.chosen ∙ greatest_none setting pages floors none) ∙ h.1 in (cc));
    told = conflict_told setting pages facts p floors row two none are ∙ sym (append-nil _);
  }

  one_more : (ports : List (List ℕ)) (p : List ℕ) (cs ds : List choice.Choice) (fs gs : List plain.Fault) → AreSettled setting pages facts ports cs fs → AreSettled setting pages facts (p ∷ []) ds gs → AreSettled setting pages facts (ports ++ p ∷ []) (cs ++ ds) (fs ++ gs)
  one_more ports p cs ds fs gs was is = record {
    each = λ c k. elim (Contains-append_cases cs ds c k) [ inl old ↦ was.each c old | inr new ↦ is.each c new ];
    all = λ have. (
        map-append (λ (c : choice.Choice). c.port) cs ds
        ∙ ap₂ (λ (l m : List (List ℕ)). l ++ m) (was.all (λ q h. have q (Contains-append_left ports (p ∷ []) q h))) (is.all (λ q h. subst (λ r. (v : Version) × (chosen_of (inputs_of setting pages) facts r ≡ Some v)) (contains_single p q h) (have p (Contains-push ports p))))
        );
    told = ap₂ (λ (l m : List plain.Fault). l ++ m) was.told is.told ∙ sym (flat_map-append (λ q. conflicts_of (inputs_of setting pages) facts q (chosen_of (inputs_of setting pages) facts q)) ports (p ∷ []));
  }

added_settles : (done : Rows Floor) (p : List ℕ) (floors : List Floor) (old new : Settled) → Settles done old → IsAdded p floors old new → Settles (done ++ (p, floors) ∷ []) new
added_settles done p floors old new was (by_choice f h above chosen told) setting pages facts rows =
    let row : IsRow setting pages facts p floors = rows (p, floors) (Contains-push done (p, floors)) in
    let before = was setting pages facts (λ e k. rows e (Contains-append_left done ((p, floors) ∷ []) e k)) in
    let after = one_more setting pages facts (keys_of done) p (chosen_in old) (choice_on p f ∷ []) (told_in old) [] before (choice_settles setting pages facts p floors f row h above) in
    subst (λ (l : List (List ℕ)). AreSettled setting pages facts l (chosen_in new) (told_in new)) (sym (map-append (λ e. e.0) done ((p, floors) ∷ [])))
    (subst (λ (cs : List choice.Choice). AreSettled setting pages facts (keys_of done ++ p ∷ []) cs (told_in new)) (sym chosen)
    (subst (λ (fs : List plain.Fault). AreSettled setting pages facts (keys_of done ++ p ∷ []) (chosen_in old ++ choice_on p f ∷ []) fs) (append-nil (told_in old) ∙ sym told) after))
added_settles done p floors old new was (by_conflict none two chosen) setting pages facts rows =
    let row : IsRow setting pages facts p floors = rows (p, floors) (Contains-push done (p, floors)) in
    let before = was setting pages facts (λ e k. rows e (Contains-append_left done ((p, floors) ∷ []) e k)) in
    let after = one_more setting pages facts (keys_of done) p (chosen_in old) [] (told_in old) (conflict_on p two.two) before (conflict_settles setting pages facts p floors two.two row none two.are) in
    subst (λ (l : List (List ℕ)). AreSettled setting pages facts l (chosen_in new) (told_in new)) (sym (map-append (λ e. e.0) done ((p, floors) ∷ [])))
    (subst (λ (cs : List choice.Choice). AreSettled setting pages facts (keys_of done ++ p ∷ []) cs (told_in new)) (append-nil (chosen_in old) ∙ sym chosen)
    (subst (λ (fs : List plain.Fault). AreSettled setting pages facts (keys_of done ++ p ∷ []) (chosen_in old ++ []) fs) (sym two.told) after))

-- a port without floors is settled by nothing
none_first : (test : Floor → Bool) (o : Option Floor) → IsFirst test [] o → o ≡ None
none_first test None first = refl
none_first test (Some f) first = absurd (contains_nothing f first.0)

none_told : (p : List ℕ) (old new : List plain.Fault) → TellsTwo p [] old new → new ≡ old
none_told p old new tells =
    let none : tells.two ≡ None = tells.are.told ∙ ap (λ o. both o tells.are.second) (none_first (is_later_top [] None) tells.are.first tells.are.is_first) in
    tells.told ∙ ap (λ two. old ++ conflict_on p two) none ∙ append-nil old

none_settles : (done : Rows Floor) (p : List ℕ) (old new : Settled) → Settles done old → IsAdded p [] old new → Settles done new
none_settles done p old new was (by_choice f h above chosen told) setting pages facts rows = absurd (contains_nothing f h)
none_settles done p old new was (by_conflict none two chosen) setting pages facts rows =
    subst (λ (cs : List choice.Choice). AreSettled setting pages facts (keys_of done) cs (told_in new)) (sym chosen)
    (subst (λ (fs : List plain.Fault). AreSettled setting pages facts (keys_of done) (chosen_in old) fs) (sym (none_told p (told_in old) (told_in new) two)) (was setting pages facts rows))

row_settles : (done : Rows Floor) (p : List ℕ) (floors : List Floor) (old new : Settled) → Settles done old → IsAdded p floors old new → Settles (done ++ row_with p floors) new
row_settles done p [] old new was added = subst (λ (l : Rows Floor). Settles l new) (sym (append-nil done)) (none_settles done p old new was added)
row_settles done p (f ∷ floors) old new was added = added_settles done p (f ∷ floors) old new was added

-- ---- the ports of which something is asked

pub nothing_settled : (pages : Pages) (s : Settled) → chosen_in s ≡ [] → told_in s ≡ [] → AreSettledFor pages [] s
nothing_settled pages s chosen told = record {
  settles = λ setting pages facts rows. record {
    each = λ c h. absurd (contains_nothing c (subst (λ (l : List choice.Choice). Contains l c) chosen h));
    all = λ have. ap (map (λ (c : choice.Choice). c.port)) chosen;
    told = told;
  };
  sound = λ e a h. absurd (contains_nothing e h);
}

more_settled : (pages : Pages) (done : Rows Asked) (p : List ℕ) (asks : List Asked) (floors : List Floor) (old new : Settled) → AreSettledFor pages done old → AreFloors pages p (map asked_view asks) floors → IsAdded p floors old new → AreSettledFor pages (done ++ (p, asks) ∷ []) new
more_settled pages done p asks floors old new was are added = record {
  settles =
      subst (λ (l : Rows Floor). Settles l new)
      (ap (λ (l : List Floor). floors_for pages done ++ row_with p l) are.are ∙ ap (λ (l : Rows Floor). floors_for pages done ++ l) (sym (append-nil _)) ∙ sym (flat_map-append _ done ((p, asks) ∷ [])))
      (row_settles (floors_for pages done) p floors old new was.settles added);
  sound = λ e a h k. (
      elim (Contains-push_cases done (p, asks) e h) [
        | inl old ↦ was.sound e a old k
        | inr same ↦ are.sound a (subst (λ (d : List ℕ × List Asked). Contains (map asked_view d.1) a) (sym same) k)
      ]
      );
}

pub more_settled_on : (o : Option Pages) (done : Rows Asked) (p : List ℕ) (asks : List Asked) (floors : List Floor) (old new : Settled) → IfSome o (λ pages. AreSettledFor pages done old) → IfSome o (λ pages. AreFloors pages p (map asked_view asks) floors) → IsAdded p floors old new
    → IfSome o (λ pages. AreSettledFor pages (done ++ (p, asks) ∷ []) new)
more_settled_on o done p asks floors old new was are added = of_both o was are (λ pages before now. more_settled pages done p asks floors old new before now added)

-- the port that comes next can be asked for
pub can_ask_next : (o : Option Pages) (all done left : Rows Asked) (e : List ℕ × List Asked) → done ++ e ∷ left ≡ all → IfSome o (CanAskPorts (keys_of all)) → IfSome o (λ pages. CanAskVersion (pages e.0))
can_ask_next o all done left e split can =
    of_both o can can (λ pages each again. each e.0 (map_contains (λ (d : List ℕ × List Asked). d.0) all e (subst (λ (l : Rows Asked). Contains l e) split (Contains-append_right done (e ∷ left) e (contains_first e left)))))

-- ---- the ports that are settled

ports_are : (es : List (List ℕ × Choice)) → map (λ (c : choice.Choice). c.port) (map choice_view es) ≡ keys_of es
ports_are [] = refl
ports_are (e ∷ es) = ap (λ l. e.0 ∷ l) (ports_are es)

ports_by : (p : List ℕ) (floors : List Floor) (old new : Settled) → IsAdded p floors old new → (map (λ (c : choice.Choice). c.port) (chosen_in new) ≡ map (λ (c : choice.Choice). c.port) (chosen_in old) ++ p ∷ []) ⊎ (chosen_in new ≡ chosen_in old)
ports_by p floors old new (by_choice f h above chosen told) = inl (ap (map (λ (c : choice.Choice). c.port)) chosen ∙ map-append (λ (c : choice.Choice). c.port) (chosen_in old) (choice_on p f ∷ []))
ports_by p floors old new (by_conflict none two chosen) = inr chosen

-- a port that is settled was so before, or is the new one
settled_cases : (p q : List ℕ) (floors : List Floor) (old new : Settled) → IsAdded p floors old new → Contains (ports_in new) q → Contains (ports_in old) q ⊎ (p ≡ q)
settled_cases p q floors old new added h = elim (ports_by p floors old new added) [
  | inl more ↦ Contains-push_cases (ports_in old) p q (subst (λ (l : List (List ℕ)). Contains l q) (sym (ports_are new.choices.ports.entries) ∙ more ∙ ap (λ l. l ++ p ∷ []) (ports_are old.choices.ports.entries)) h)
  | inr same ↦ inl (subst (λ (l : List (List ℕ)). Contains l q) (sym (ports_are new.choices.ports.entries) ∙ ap (map (λ (c : choice.Choice). c.port)) same ∙ ports_are old.choices.ports.entries) h)
]

-- settled ports stand before those that are left
abbrev pub AreBehind : Rows Asked → Settled → Type 0
AreBehind left s = (p q : List ℕ) → Contains (ports_in s) p → Contains (keys_of left) q → slice_cmp nat_cmp p q ≡ Less

pub behind_more : (e : List ℕ × List Asked) (left : Rows Asked) (floors : List Floor) (old new : Settled) → AreInOrder (e ∷ left) → AreBehind (e ∷ left) old → IsAdded e.0 floors old new → AreBehind left new
behind_more e left floors old new ordered behind added q r h k =
    elim (settled_cases e.0 q floors old new added h) [
      | inl was ↦ behind q r was (contains_later e.0 r (keys_of left) k)
      | inr same ↦ subst (λ s. slice_cmp nat_cmp s r ≡ Less) same (is_first e left ordered r k)
    ]

pub is_new : (e : List ℕ × List Asked) (left : Rows Asked) (s : Settled) → AreBehind (e ∷ left) s → lookup (bytes_eq e.0) s.choices.ports.entries ≡ None
is_new e left s behind = absent e.0 s.choices.ports.entries (λ h. are_apart e.0 e.0 (behind e.0 e.0 h (contains_first e.0 (keys_of left))) refl)
