-- The off list, computed.
use Rattle.std.proofs.Common.{◌≡◌, ℕ, true, ◌&&◌, not, List, map, flat_map, refl, ap, sym, ◌∙◌, subst}
use Rattle.std.specs.Prelude.{Some}
use Rattle.std.specs.List.{Contains, list_all}
use Rattle.vk_spec.specs.Manifests.{Dependency}
use Rattle.vk_spec.proofs.ListLemmas.{contains-flat_map, flat_map-contains}
use Rattle.vk_spec.specs.Conditions.{Condition}
use Rattle.vk_spec.specs.Settings.{Setting, Instance}
use Rattle.vk_resolution.specs.Keys.{IsKey}
use Rattle.vk_resolution.specs.Least.{IsLeast}
use Rattle.vk_resolution.specs.Settings.{root, same_instance, root_rules_of, applicable_of, instance_of, is_own, IsNamedByRoot, IsOff, ListsOff}
use Rattle.vk_resolution.specs.Computed.{named_by, off_by, name_key, off_list_by, if_closed, round}
use Rattle.vk_resolution.proofs.Members.{both_true, and_true, not_true, not_false, no_is_false, true_false, contains_filter, filter_contains, contains_map, map_contains, all_contains, contains_all}
use Rattle.vk_resolution.proofs.LeastLemmas.{reached_within}
use Rattle.vk_resolution.proofs.Rounds.{member_ranked}
use Rattle.vk_resolution.proofs.FactLemmas.{same_instance-Decides}
use Rattle.vk_resolution.proofs.Soundness.{closed_round, map_some}

pub name_key-IsKey : IsKey name_key
name_key-IsKey f g e = (cc)

module _ (s : Setting) (features : List (List ℕ)) (least : IsLeast (root_rules_of s) features) where
  at_root : Dependency Condition → Instance
  at_root d = instance_of s (root s.target.name) d

  is_named : (d : Dependency Condition) → Contains (named_by s features) d → IsNamedByRoot s d (instance_of s (root s.target.name) d)
  is_named d h =
      let r = contains_filter (λ e. not (is_own s (root s.target.name) (instance_of s (root s.target.name) e))) (flat_map (λ f. applicable_of s (root s.target.name) f s.root) features) d h in
      let q = contains-flat_map (λ f. applicable_of s (root s.target.name) f s.root) features d r.0 in
      let rank = member_ranked (root_rules_of s) name_key name_key-IsKey features least q.0 q.1 in
      record { feature = q.0; asked = (rank.0, rank.1.reached); applies = q.2; names = refl; other = not_true _ r.1 }

  named_is : (d : Dependency Condition) (j : Instance) → IsNamedByRoot s d j → Contains (named_by s features) d
  named_is d j named =
      filter_contains (λ e. not (is_own s (root s.target.name) (instance_of s (root s.target.name) e))) (flat_map (λ f. applicable_of s (root s.target.name) f s.root) features) d
      (flat_map-contains (λ f. applicable_of s (root s.target.name) f s.root) features named.feature d (reached_within (root_rules_of s) features least.closed named.asked.0 named.feature named.asked.1) named.applies)
      (not_false _ (ap (is_own s (root s.target.name)) named.names ∙ named.other))

  pub off_is : (j : Instance) → Contains (off_by s features) j → IsOff s j
  off_is j h =
      let r = contains_filter (λ k. list_all (λ d. not (same_instance (instance_of s (root s.target.name) d) k && d.defaults)) (named_by s features)) (map (instance_of s (root s.target.name)) (named_by s features)) j h in
      let q = contains_map (instance_of s (root s.target.name)) (named_by s features) j r.0 in
      record {
        by = q.0;
        named = subst (IsNamedByRoot s q.0) q.2 (is_named q.0 q.1);
        never = λ d named. (
            let passes : not (same_instance (instance_of s (root s.target.name) d) j && d.defaults) ≡ true = all_contains (λ e. not (same_instance (instance_of s (root s.target.name) e) j && e.defaults)) (named_by s features) r.1 d (named_is d j named) in
            no_is_false d.defaults (λ wanted. true_false (same_instance (instance_of s (root s.target.name) d) j && d.defaults)
            (and_true _ _ ((same_instance-Decides (instance_of s (root s.target.name) d) j).1 named.names) wanted) (not_true _ passes))
            );
      }

  pub is_in_off : (j : Instance) → IsOff s j → Contains (off_by s features) j
  is_in_off j off =
      filter_contains (λ k. list_all (λ d. not (same_instance (instance_of s (root s.target.name) d) k && d.defaults)) (named_by s features)) (map (instance_of s (root s.target.name)) (named_by s features)) j
      (subst (Contains (map (instance_of s (root s.target.name)) (named_by s features))) off.named.names (map_contains (instance_of s (root s.target.name)) (named_by s features) off.by (named_is off.by j off.named)))
      (contains_all (λ d. not (same_instance (instance_of s (root s.target.name) d) j && d.defaults)) (named_by s features) (λ d h. not_false _ (no_is_false _ (λ both. (
      let parts = both_true (same_instance (instance_of s (root s.target.name) d) j) d.defaults both in
      let names : instance_of s (root s.target.name) d ≡ j = (same_instance-Decides (instance_of s (root s.target.name) d) j).0 parts.0 in
      true_false d.defaults parts.1 (off.never d (subst (IsNamedByRoot s d) names (is_named d h)))
      )))))

-- a setting whose off list is the one computed lists exactly what is off
pub off_listed : (s : Setting) (n : ℕ) → off_list_by s n ≡ Some s.off → ListsOff s
off_listed s n e j =
    let r = map_some (off_by s) (if_closed (root_rules_of s) name_key (round (root_rules_of s) name_key n)) s.off e in
    let least = closed_round (root_rules_of s) name_key name_key-IsKey n r.0 r.1 in
    ((λ h. off_is s r.0 least.least j (subst (λ l. Contains l j) (sym r.2) h)), λ off. subst (λ l. Contains l j) r.2 (is_in_off s r.0 least.least j off))
