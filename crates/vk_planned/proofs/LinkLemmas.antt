-- One link more, and links one after the other.
use Rattle.std.proofs.Common.{◌≡◌, ◌<◌, ℕ, zero, suc, true, List, [], ◌∷◌, ◌++◌, length, inl, inr, ap, sym, ◌∙◌, subst, arith}
use Rattle.std.specs.Prelude.{Some, option_map, slice_get, filter}
use Rattle.std.specs.List.{Contains}
use Rattle.std.proofs.lemmas.List.{append-nil, append_assoc, map-append}
use Rattle.std.proofs.lemmas.List.Elements.{Contains-append_left, Contains-append_right, Contains-append_cases, Contains-push_cases, Contains-push, filter-append}
use Rattle.std.proofs.lemmas.Option.{slice_get-map}
use Rattle.indexmap.specs.IndexSet.{insert_key}
use Rattle.vk_spec.proofs.ListLemmas.{contains_nothing, contains_first}
use Rattle.vk_resolution.specs.Asking as plain
use Rattle.vk_resolution.specs.Planning.{is_need}
use Rattle.vk_resolution.proofs.Members.{contains_single}
use Rattle.vk_resolution.proofs.WorkLemmas.{notes_nothing, notes_then}
use Rattle.vk_model.specs.declared.facts.Fact.{Fact}
use Rattle.vk_model.specs.FactViews.{fact_view}
use Rattle.vk_planned.specs.Links.{Links}
use Rattle.vk_planned.specs.Needs.{facts_view, needs_in}
use Rattle.vk_planned.proofs.SetLemmas.{is, same_view, is_put}

-- what stands at a place stays there
pub stays_at : {X : Type 0} (xs ys : List X) (n : ℕ) (x : X) → slice_get xs n ≡ Some x → slice_get (xs ++ ys) n ≡ Some x
stays_at [] ys n x e = (cc)
stays_at (z ∷ xs) ys zero x e = e
stays_at (z ∷ xs) ys (suc n) x e = stays_at xs ys n x e

-- and stood there
pub stood_at : {X : Type 0} (xs ys : List X) (n : ℕ) (x : X) → n < length xs → slice_get (xs ++ ys) n ≡ Some x → slice_get xs n ≡ Some x
stood_at [] ys n x within e = absurd (omega arith)
stood_at (z ∷ xs) ys zero x within e = e
stood_at (z ∷ xs) ys (suc n) x within e = stood_at xs ys n x (omega arith) e

pub link_one : (place other : ℕ) (keys new : List Fact) (x k : Fact) (before after : List (ℕ × ℕ)) → new ≡ insert_key is keys x → slice_get new other ≡ Some k → is x k ≡ true → after ≡ before ++ (place, other) ∷ []
    → Links place (fact_view x ∷ []) (facts_view keys) (facts_view new) before after
link_one place other keys new x k before after put stored same pushed =
    let p = is_put keys new x put in
    let at : slice_get (facts_view new) other ≡ Some (fact_view x) = slice_get-map fact_view new other ∙ ap (option_map fact_view) stored ∙ ap Some (sym (same_view x k same)) in
    record {
      notes = p.notes;
      more = p.more;
      kept = p.kept;
      stay = λ e h. subst (λ l. Contains l e) (sym pushed) (Contains-append_left before ((place, other) ∷ []) e h);
      sound = λ e h. elim (Contains-push_cases before (place, other) e (subst (λ l. Contains l e) pushed h)) [
        | inl was ↦ inl was
        | inr same_edge ↦ inr (record {
          from = ap (λ (d : ℕ × ℕ). d.0) (sym same_edge);
          to = fact_view x;
          at = ap (λ (d : ℕ × ℕ). slice_get (facts_view new) d.1) (sym same_edge) ∙ at;
          asks = contains_first (fact_view x) [];
        })
      ];
      complete = λ y h. (
        other,
        at ∙ ap Some (contains_single (fact_view x) y h),
        subst (λ l. Contains l (place, other)) (sym pushed) (Contains-push before (place, other)),
      );
    }

pub links_nothing : (place : ℕ) (needs : List plain.Fact) (edges : List (ℕ × ℕ)) → Links place [] needs needs edges edges
links_nothing place needs edges = record {
  notes = notes_nothing [] needs;
  more = [];
  kept = sym (append-nil needs);
  stay = λ e h. h;
  sound = λ e h. inl h;
  complete = λ x h. absurd (contains_nothing x h);
}

pub links_then : {place : ℕ} {one two old mid new : List plain.Fact} {a b c : List (ℕ × ℕ)} → Links place one old mid a b → Links place two mid new b c → Links place (one ++ two) old new a c
links_then {place} {one} {two} {old} {mid} {new} {a} {b} {c} r s =
    let on : (n : ℕ) (x : plain.Fact) → slice_get mid n ≡ Some x → slice_get new n ≡ Some x = λ n x e. subst (λ l. slice_get l n ≡ Some x) (sym s.kept) (stays_at mid s.more n x e) in
    record {
      notes = notes_then r.notes s.notes;
      more = r.more ++ s.more;
      kept = s.kept ∙ ap (λ l. l ++ s.more) r.kept ∙ append_assoc old r.more s.more;
      stay = λ e h. s.stay e (r.stay e h);
      sound = λ e h. elim (s.sound e h) [
        | inl was ↦ elim (r.sound e was) [
          | inl old_one ↦ inl old_one
          | inr first ↦ inr (record { from = first.from; to = first.to; at = on e.1 first.to first.at; asks = Contains-append_left one two first.to first.asks })
        ]
        | inr second ↦ inr (record { from = second.from; to = second.to; at = second.at; asks = Contains-append_right one two second.to second.asks })
      ];
      complete = λ x h. elim (Contains-append_cases one two x h) [
        | inl first ↦ (let q = r.complete x first in (q.0, on q.0 x q.1, s.stay (place, q.0) q.2))
        | inr second ↦ s.complete x second
      ];
    }

-- one fact more of a list
needs_push : (done : List Fact) (x : Fact) → needs_in done ++ needs_in (x ∷ []) ≡ needs_in (done ++ x ∷ [])
needs_push done x = sym (ap (filter is_need) (map-append fact_view done (x ∷ [])) ∙ filter-append is_need (facts_view done) (facts_view (x ∷ [])))

pub links_more : {place : ℕ} {old mid new : List plain.Fact} {a b c : List (ℕ × ℕ)} (done : List Fact) (x : Fact) → Links place (needs_in done) old mid a b → Links place (needs_in (x ∷ [])) mid new b c → Links place (needs_in (done ++ x ∷ [])) old new a c
links_more {place} {old} {mid} {new} {a} {b} {c} done x one two = subst (λ l. Links place l old new a c) (needs_push done x) (links_then one two)
