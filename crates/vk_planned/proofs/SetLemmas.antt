-- Index sets of facts, as lists of facts.
use Rattle.std.proofs.Common.{◌≡◌, Bool, true, false, cond, List, [], ◌∷◌, ◌++◌, inr, refl, ap, sym, ◌∙◌, subst}
use Rattle.std.specs.Prelude.{◌==◌}
use Rattle.std.specs.Ordering.{on}
use Rattle.std.specs.Cmp.Lexicographic.{pointwise}
use Rattle.std.specs.List.{Contains, list_any}
use Rattle.std.proofs.lemmas.List.{append-nil, map-append}
use Rattle.indexmap.specs.IndexSet.{insert_key}
use Rattle.vk_resolution.specs.Asking as plain
use Rattle.vk_resolution.specs.Worklist.{Notes}
use Rattle.vk_resolution.proofs.FactLemmas.{fact_key-IsKey}
use Rattle.vk_resolution.proofs.Members.{any_contains, contains_any, contains_map, map_contains, true_false}
use Rattle.vk_resolution.proofs.Orders.{same_key-Decides}
use Rattle.vk_resolution.proofs.WorkLemmas.{notes_known, notes_new}
use Rattle.vk_spec.proofs.ListLemmas.{contains_nothing}
use Rattle.vk_model.specs.declared.facts.Fact.{Fact}
use Rattle.vk_model.specs.FactKeys.{key_of}
use Rattle.vk_model.specs.FactViews.{fact_view}
use Rattle.vk_planned.specs.Needs.{facts_view}

-- the test of the set's keys
abbrev pub is : Fact → Fact → Bool
is = on key_of (pointwise (pointwise ◌==◌))

pub same_view : (x y : Fact) → is x y ≡ true → fact_view x ≡ fact_view y
same_view x y e = fact_key-IsKey (fact_view x) (fact_view y) ((same_key-Decides (key_of x) (key_of y)).0 e)

view_same : (x y : Fact) → fact_view x ≡ fact_view y → is x y ≡ true
view_same x y e = (same_key-Decides (key_of x) (key_of y)).1 (ap plain.fact_key e)

is_there : (keys : List Fact) (x : Fact) → list_any (is x) keys ≡ true → Contains (facts_view keys) (fact_view x)
is_there keys x e =
    let r = any_contains (is x) keys e in
    subst (Contains (facts_view keys)) (sym (same_view x r.0 r.2)) (map_contains fact_view keys r.0 r.1)

not_there : (keys : List Fact) (x : Fact) → list_any (is x) keys ≡ false → Contains (facts_view keys) (fact_view x) → ⊥
not_there keys x e h =
    let r = contains_map fact_view keys (fact_view x) h in
    true_false (list_any (is x) keys) (contains_any (is x) keys r.0 r.1 (view_same x r.0 (sym r.2))) e

-- a fact that is put stands behind the others, unless it is there
pub record IsPut (x : plain.Fact) (old new : List plain.Fact) : Type 0 where
  pub notes : Notes [] (x ∷ []) old new
  pub more : List plain.Fact
  pub kept : new ≡ old ++ more

put_step : (keys new : List Fact) (x : Fact) (b : Bool) → list_any (is x) keys ≡ b → new ≡ cond b keys (keys ++ x ∷ []) → IsPut (fact_view x) (facts_view keys) (facts_view new)
put_step keys new x true e h = record {
  notes = subst (λ l. Notes [] (fact_view x ∷ []) (facts_view keys) (facts_view l)) (sym h) (notes_known [] (facts_view keys) (fact_view x) (inr (is_there keys x e)));
  more = [];
  kept = ap facts_view h ∙ sym (append-nil (facts_view keys));
}
put_step keys new x false e h =
    let seen : facts_view new ≡ facts_view keys ++ fact_view x ∷ [] = ap facts_view h ∙ map-append fact_view keys (x ∷ []) in
    record {
      notes = subst (Notes [] (fact_view x ∷ []) (facts_view keys)) (sym seen) (notes_new [] (facts_view keys) (fact_view x) (λ none. contains_nothing (fact_view x) none) (not_there keys x e));
      more = fact_view x ∷ [];
      kept = seen;
    }

pub is_put : (keys new : List Fact) (x : Fact) → new ≡ insert_key is keys x → IsPut (fact_view x) (facts_view keys) (facts_view new)
is_put keys new x h = put_step keys new x (list_any (is x) keys) refl h
