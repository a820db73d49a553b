-- What asking meets is what is wrong with the files that the facts of reasons need.
use Rattle.std.proofs.Common.{◌≡◌, ◌⊎◌, ℕ, suc, Bool, true, false, cond, List, [], ◌∷◌, map, inl, inr, refl, ap, ap₂, sym, ◌∙◌, subst}
use Rattle.std.specs.Prelude.{Option, Some, None, IfSome, option_map, option_to_list, flat_map, Result, Ok, Err}
use Rattle.std.specs.List.{Contains, list_any}
use Rattle.vk_spec.specs.Versions.{Ask}
use Rattle.vk_spec.specs.Settings.{Setting, Instance}
use Rattle.vk_spec.specs.Conditions.{Condition}
use Rattle.vk_spec.specs.Pages.{Wrong, Given, overlay, override, baseline, Row, Page, row_in, manifest_in}
use Rattle.vk_spec.proofs.ListLemmas.{contains_first, contains_later}
use Rattle.vk_resolution.specs.Keys.{in_order, Ascends}
use Rattle.vk_resolution.specs.Least.{IsLeast, FollowsFrom, from_one, from_two}
use Rattle.vk_resolution.specs.Settings.{root, inst, first_features_of}
use Rattle.vk_resolution.specs.Givens.{Pages}
use Rattle.vk_resolution.specs.Asking.{Fact, need, floor, visit, fact_key, root_facts_of}
use Rattle.vk_resolution.specs.Consequences.{Inputs, Step, rules_of, steps_from, is_visited_by, is_visited}
use Rattle.vk_resolution.specs.Reasons.{Reason, first_line, facts_of, IsReasons}
use Rattle.vk_resolution.specs.Faults.{Fault, Trouble, trouble_key, same_trouble, troubled, manifest_troubles, floor_troubles, troubles_of, first_faults_of}
use Rattle.vk_resolution.specs.Planner.{inputs_of}
use Rattle.vk_resolution.proofs.Members.{contains_map}
use Rattle.vk_resolution.proofs.FactLemmas.{fact_key-IsKey}
use Rattle.vk_resolution.proofs.Derivations.{visits_are, is_visit_fact, step_no_visit}
use Rattle.vk_resolution.proofs.AgreementLemmas.{least_follows, flat_map_on}
use Rattle.vk_resolution.specs.Lines.{fault_line}
use Rattle.vk_resolution.specs.Outcomes.{lines_of}
use Rattle.vk_faults.specs.Notes.{Note, fault_of, HaveFirstLines}
use Rattle.vk_faults.proofs.NoteLemmas.{faults_are}
use Rattle.vk_faults.specs.Met.{lacking, floor_met, visit_met, met_on, told_by, faults_by}

-- a visit of the least list is one of a version that is looked at
module _ (inputs : Inputs) (facts : List Fact) (least : IsLeast (rules_of inputs) facts) where
  visited : (i : Instance) (f : List ℕ) (a : Ask) → Contains facts (visit i f a) → is_visited inputs i.port a ≡ true
  visited i f a h = by (least_follows (rules_of inputs) fact_key fact_key-IsKey facts least (visit i f a) h)
    where
      by : Contains (root_facts_of inputs.setting) (visit i f a) ⊎ FollowsFrom (rules_of inputs) (Contains facts) (visit i f a) → is_visited inputs i.port a ≡ true
      by (inl is_root) = let r = contains_map (need (root inputs.setting.target.name)) (first_features_of inputs.setting) (visit i f a) is_root in let clash : need (root inputs.setting.target.name) r.0 ≡ visit i f a = r.2 in (cc)
      by (inr (from_one y holds asked)) =
          let r = contains_map (λ (st : Step). st.fact) (steps_from inputs y) (visit i f a) asked in
          let clash : true ≡ false = sym (ap is_visit_fact r.2) ∙ step_no_visit inputs y r.0 r.1 in
          (cc)
      by (inr (from_two y z one two asked)) =
          let v = visits_are inputs y z (visit i f a) asked in
          let same : visit i f a ≡ visit v.i v.f v.v = v.is_visit in
          let same_i : v.i ≡ i = (cc) in
          let same_a : v.v ≡ a = (cc) in
          subst (λ b. is_visited inputs i.port b ≡ true) same_a (subst (λ (j : Instance). is_visited inputs j.port v.v ≡ true) same_i v.visited)

-- ---- one fact

lacks : (p : List ℕ) (a : Ask) (b : Ask) (o : Option (Row Condition)) → lacking p a (option_map (λ r. r.version) o) ≡ floor_troubles p a o (Ok (override b))
lacks p a b None = refl
lacks p a b (Some r) = refl

lacks_base : (p : List ℕ) (a : Ask) (b : Ask) (o : Option (Row Condition)) → lacking p a (option_map (λ r. r.version) o) ≡ floor_troubles p a o (Ok (baseline b))
lacks_base p a b None = refl
lacks_base p a b (Some r) = refl

none_told : (p : List ℕ) (a : Ask) (wrong : Wrong) (o : Option (Row Condition)) → [] ≡ floor_troubles p a o (Err wrong)
none_told p a wrong None = refl
none_told p a wrong (Some r) = refl

none_lacks : (p : List ℕ) (a : Ask) (v : _) (o : Option (Row Condition)) → [] ≡ floor_troubles p a o (Ok (overlay v))
none_lacks p a v None = refl
none_lacks p a v (Some r) = refl

floor_same : (p : List ℕ) (a : Ask) (page : Page Condition) (given : Result Given Wrong) → floor_met p a page given ≡ floor_troubles p a (row_in page.rows a) given
floor_same p a page (Ok (overlay v)) = none_lacks p a v (row_in page.rows a)
floor_same p a page (Ok (override b)) = lacks p a b (row_in page.rows a)
floor_same p a page (Ok (baseline b)) = lacks_base p a b (row_in page.rows a)
floor_same p a page (Err wrong) = none_told p a wrong (row_in page.rows a)

visit_same : (inputs : Inputs) (p : List ℕ) (a : Ask) (page : Page Condition) (given : Result Given Wrong) → is_visited_by inputs page.rows a given ≡ true → visit_met p a page given ≡ manifest_troubles p (manifest_in page a)
visit_same inputs p a page (Ok g) h = refl
visit_same inputs p a page (Err wrong) h = (cc)

module _ (setting : Setting) (pages : Pages) (facts : List Fact) (least : IsLeast (rules_of (inputs_of setting pages)) facts) where
  met_same : (x : Fact) → Contains facts x → met_on pages x ≡ troubles_of (inputs_of setting pages) x
  met_same (need (root triplet) f) h = refl
  met_same (need (inst i) f) h = refl
  met_same (floor p a) h = floor_same p a (pages p) (pages p).given
  met_same (visit i f a) h = visit_same (inputs_of setting pages) i.port a (pages i.port) (pages i.port).given (visited (inputs_of setting pages) facts least i f a h)

-- ---- all facts

first_on : (f g : Fact → Bool) (xs : List Fact) → ((x : Fact) → Contains xs x → f x ≡ g x) → first_line f xs ≡ first_line g xs
first_on f g [] same = refl
first_on f g (x ∷ xs) same = ap₂ (λ b o. cond b (Some 1) (option_map suc o)) (same x (contains_first x xs)) (first_on f g xs (λ y h. same y (contains_later x y xs h)))

faults_on : (met other : Fact → List Trouble) (facts : List Fact) → ((x : Fact) → Contains facts x → met x ≡ other x) → faults_by met facts ≡ faults_by other facts
faults_on met other facts same =
    ap (λ l. flat_map (told_by met facts) (in_order trouble_key l)) (flat_map_on met other facts same)
    ∙ flat_map_on (told_by met facts) (told_by other facts) (in_order trouble_key (flat_map other facts)) (λ t h.
    ap (λ o. map (troubled t) (option_to_list o)) (first_on (λ x. list_any (same_trouble t) (met x)) (λ x. list_any (same_trouble t) (other x)) facts (λ x at. ap (list_any (same_trouble t)) (same x at))))

-- what asking meets of the facts of reasons are the faults of the first phase
pub first_faults_are : (setting : Setting) (pages : Pages) (reasons : List Reason) → IsReasons (inputs_of setting pages) reasons → faults_by (met_on pages) (facts_of reasons) ≡ first_faults_of (inputs_of setting pages) (facts_of reasons)
first_faults_are setting pages reasons is = faults_on (met_on pages) (troubles_of (inputs_of setting pages)) (facts_of reasons) (met_same setting pages (facts_of reasons) is.facts.least)

-- so the sorted faults of the notes are the lines of the first phase
pub lines_are : (o : Option Pages) (reasons : List Reason) (notes : List Note) (faults : List Fault) → Ascends trouble_key (map (λ note. note.0) notes)
    → IfSome o (λ pages. HaveFirstLines (met_on pages) (facts_of reasons) notes) → faults ≡ lines_of fault_line (map fault_of notes)
    → IfSome o (λ pages. (setting : Setting) → IsReasons (inputs_of setting pages) reasons → faults ≡ lines_of fault_line (first_faults_of (inputs_of setting pages) (facts_of reasons)))
lines_are None reasons notes faults ascends have e = tt
lines_are (Some pages) reasons notes faults ascends have e =
    λ setting is. e ∙ ap (lines_of fault_line) (faults_are (met_on pages) (facts_of reasons) notes ascends have ∙ first_faults_are setting pages reasons is)
