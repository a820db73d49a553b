-- The lines that a cause cites have the facts that it is found with.
use Rattle.std.proofs.Common.{◌≡◌, ℕ, List, [], ◌∷◌, map, refl, ap, ◌∙◌, subst}
use Rattle.std.specs.Prelude.{Some, option_map}
use Rattle.vk_resolution.specs.Asking.{Fact}
use Rattle.vk_resolution.specs.Consequences.{by_root, by_baseline, by_override, by_overlay, by_minimum, by_one, by_two}
use Rattle.vk_resolution.specs.Reasons.{fact_at}
use Rattle.vk_resolution.specs.Laws.{none, one_of_baseline, one_of_override, one_of_overlay, one_of_minimum, one, two, CitesFactsOf, CitedLinesAreThose}
use Rattle.vk_resolution.proofs.Soundness.{then_some, map_some}

-- one line, cited with any word
one_cited : (facts : List Fact) (n : ℕ) (x : Fact) → fact_at facts n ≡ Some x → map (fact_at facts) (n ∷ []) ≡ map Some (x ∷ [])
one_cited facts n x e = ap (λ o. o ∷ []) e

two_cited : (facts : List Fact) (n m : ℕ) (x y : Fact) → fact_at facts n ≡ Some x → fact_at facts m ≡ Some y → map (fact_at facts) (n ∷ m ∷ []) ≡ map Some (x ∷ y ∷ [])
two_cited facts n m x y e h = ap (λ o. o ∷ fact_at facts m ∷ []) e ∙ ap (λ o. Some x ∷ o ∷ []) h

pub cited_lines_are_those : CitedLinesAreThose
cited_lines_are_those facts by_root cited e = let same : by_root ≡ cited = (cc) in subst (CitesFactsOf facts by_root) same (record { lines = none; those = []; cites = none; stand = refl })
cited_lines_are_those facts (by_baseline n) cited e =
    let r = map_some by_baseline (fact_at facts n) cited e in
    subst (CitesFactsOf facts (by_baseline n)) r.2 (record { lines = one_of_baseline n; those = r.0 ∷ []; cites = one_of_baseline r.0; stand = one_cited facts n r.0 r.1 })
cited_lines_are_those facts (by_override n) cited e =
    let r = map_some by_override (fact_at facts n) cited e in
    subst (CitesFactsOf facts (by_override n)) r.2 (record { lines = one_of_override n; those = r.0 ∷ []; cites = one_of_override r.0; stand = one_cited facts n r.0 r.1 })
cited_lines_are_those facts (by_overlay n) cited e =
    let r = map_some by_overlay (fact_at facts n) cited e in
    subst (CitesFactsOf facts (by_overlay n)) r.2 (record { lines = one_of_overlay n; those = r.0 ∷ []; cites = one_of_overlay r.0; stand = one_cited facts n r.0 r.1 })
cited_lines_are_those facts (by_minimum n) cited e =
    let r = map_some by_minimum (fact_at facts n) cited e in
    subst (CitesFactsOf facts (by_minimum n)) r.2 (record { lines = one_of_minimum n; those = r.0 ∷ []; cites = one_of_minimum r.0; stand = one_cited facts n r.0 r.1 })
cited_lines_are_those facts (by_one n) cited e =
    let r = map_some by_one (fact_at facts n) cited e in
    subst (CitesFactsOf facts (by_one n)) r.2 (record { lines = one n; those = r.0 ∷ []; cites = one r.0; stand = one_cited facts n r.0 r.1 })
cited_lines_are_those facts (by_two n m) cited e =
    let r = then_some (λ x. option_map (by_two x) (fact_at facts m)) (fact_at facts n) cited e in
    let q = map_some (by_two r.0) (fact_at facts m) cited r.2 in
    subst (CitesFactsOf facts (by_two n m)) q.2 (record { lines = two n m; those = r.0 ∷ q.0 ∷ []; cites = two r.0 q.0; stand = two_cited facts n m r.0 q.0 r.1 q.1 })
