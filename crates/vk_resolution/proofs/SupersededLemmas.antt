-- The two projects with superseded versions.
use Rattle.std.proofs.Common.{◌≡◌, Bool, true, ◌||◌, not, List, inl, inr, refl, sym, subst}
use Rattle.std.specs.Prelude.{flat_map}
use Rattle.std.specs.List.{Contains, list_all, list_any}
use Rattle.vk_spec.specs.Manifests.{core}
use Rattle.vk_spec.proofs.ListLemmas.{contains-flat_map}
use Rattle.vk_resolution.specs.Settings.{inst, same_instance}
use Rattle.vk_resolution.specs.Asking.{Fact, need, floor, visit, fact_key, same_fact}
use Rattle.vk_resolution.specs.Consequences.{rules_of}
use Rattle.vk_resolution.specs.Planning.{planned_rules_of, IsPlanned, instance_key, needed_in, instances_of}
use Rattle.vk_resolution.specs.Computed.{round, has_key}
use Rattle.vk_resolution.specs.Examples.{ask, x64}
use Rattle.vk_resolution.specs.Projects.{a, b, three, one_dot, superseded_minimum, superseded_reach}
use Rattle.vk_resolution.specs.Superseded.{SupersededCounts, MinimumCounts, SupersededGoes, ReachGoes}
use Rattle.vk_resolution.proofs.Members.{or_true, not_true, all_contains, true_false, contains_any}
use Rattle.vk_resolution.proofs.Orders.{contains-in_order}
use Rattle.vk_resolution.proofs.FactLemmas.{fact_key-IsKey, same_fact-Decides, same_instance-Decides}
use Rattle.vk_resolution.proofs.Rounds.{round_least, least_in_order_one, contains-has_key, has_key-contains}

abbrev counted : List Fact
counted = round (rules_of superseded_minimum) fact_key 12

-- whether only the one fact asks for b at 3
abbrev asks_only : Fact → Bool
asks_only x = not (has_key fact_key ((rules_of superseded_minimum).alone x) (floor b (ask three))) || same_fact x (visit (x64 a) core (ask one_dot))

only_one : (x : Fact) → Contains counted x → Contains ((rules_of superseded_minimum).alone x) (floor b (ask three)) → x ≡ visit (x64 a) core (ask one_dot)
only_one x h asked =
    let all : list_all asks_only counted ≡ true = refl in
    let passes : asks_only x ≡ true = all_contains asks_only counted all x h in
    elim (or_true (not (has_key fact_key ((rules_of superseded_minimum).alone x) (floor b (ask three)))) (same_fact x (visit (x64 a) core (ask one_dot))) passes) [
      | inl none ↦ absurd (true_false (has_key fact_key ((rules_of superseded_minimum).alone x) (floor b (ask three)))
          (contains-has_key (rules_of superseded_minimum) fact_key fact_key-IsKey ((rules_of superseded_minimum).alone x) (floor b (ask three)) asked) (not_true _ none))
      | inr same ↦ (same_fact-Decides x (visit (x64 a) core (ask one_dot))).0 same
    ]

counted_is : SupersededCounts counted
counted_is = record { superseded = refl; only = only_one; counts = refl }

pub minimum_counts : MinimumCounts
minimum_counts facts ordered =
    subst SupersededCounts (least_in_order_one (rules_of superseded_minimum) fact_key fact_key-IsKey counted facts (round_least (rules_of superseded_minimum) fact_key fact_key-IsKey 12 refl) ordered) counted_is

abbrev reached : List Fact
reached = round (rules_of superseded_reach) fact_key 12

abbrev kept : List Fact
kept = round (planned_rules_of superseded_reach reached) fact_key 12

-- whether a fact needs b
abbrev needs_b : Fact → Bool
needs_b x = list_any (same_instance (x64 b)) (needed_in x)

goes : (planned : List Fact) → IsPlanned superseded_reach reached planned → Contains (instances_of planned) (x64 b) → ⊥
goes planned is_planned h =
    let r = contains-flat_map needed_in planned (x64 b) (contains-in_order instance_key (flat_map needed_in planned) (x64 b) h) in
    let in_kept : Contains kept r.0 = is_planned.forced.within kept (round_least (planned_rules_of superseded_reach reached) fact_key fact_key-IsKey 12 refl).least.closed r.0 r.1 in
    let none : list_all (λ x. not (needs_b x)) kept ≡ true = refl in
    let passes : not (needs_b r.0) ≡ true = all_contains (λ x. not (needs_b x)) kept none r.0 in_kept in
    true_false (needs_b r.0) (contains_any (same_instance (x64 b)) (needed_in r.0) (x64 b) r.2 ((same_instance-Decides (x64 b) (x64 b)).1 refl)) (not_true _ passes)

reached_is : (planned : List Fact) → IsPlanned superseded_reach reached planned → SupersededGoes reached planned
reached_is planned is_planned = record {
  needed = has_key-contains (rules_of superseded_reach) fact_key fact_key-IsKey reached (need (inst (x64 b)) core) refl;
  gone = goes planned is_planned;
}

pub reach_goes : ReachGoes
reach_goes facts planned ordered is_planned =
    let same : reached ≡ facts = least_in_order_one (rules_of superseded_reach) fact_key fact_key-IsKey reached facts (round_least (rules_of superseded_reach) fact_key fact_key-IsKey 12 refl) ordered in
    subst (λ l. SupersededGoes l planned) same (reached_is planned (subst (λ l. IsPlanned superseded_reach l planned) (sym same) is_planned))
