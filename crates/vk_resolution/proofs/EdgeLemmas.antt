-- The edges of the plan mean dependencies.
use Rattle.std.proofs.Common.{◌≡◌, ◌≢◌, ℕ, Bool, true, false, cond, not, List, [], map, filter, refl, sym, subst}
use Rattle.std.specs.Prelude.{Option, Some, None, Result, Ok, Err}
use Rattle.std.specs.List.{Contains}
use Rattle.vk_spec.specs.Versions.{Ask}
use Rattle.vk_spec.specs.Manifests.{Manifest}
use Rattle.vk_spec.specs.Pages.{Wrong}
use Rattle.vk_spec.proofs.ListLemmas.{contains_nothing, contains-flat_map, flat_map-contains}
use Rattle.vk_spec.specs.Conditions.{Condition}
use Rattle.vk_spec.specs.Settings.{Instance}
use Rattle.vk_resolution.specs.Settings.{inst, same_instance, instance_of, applicable_of}
use Rattle.vk_resolution.specs.Givens.{manifest_at}
use Rattle.vk_resolution.specs.Asking.{Fact, need, floor, visit}
use Rattle.vk_resolution.specs.Consequences.{Inputs}
use Rattle.vk_resolution.specs.Planning.{targets_in, targets_at, targets_of}
use Rattle.vk_resolution.specs.Edges.{IsEdge, EdgesMean}
use Rattle.vk_resolution.proofs.Members.{true_false, no_is_false, not_true, not_false, contains_filter, filter_contains, contains_map, map_contains}
use Rattle.vk_resolution.proofs.SentenceLemmas.{depends_is, is_depends}
use Rattle.vk_resolution.proofs.FactLemmas.{same_instance-Decides}

differs : (i j : Instance) → same_instance i j ≡ false → i ≢ j
differs i j e same = true_false (same_instance i j) ((same_instance-Decides i j).1 same) e

is_different : (i j : Instance) → i ≢ j → same_instance i j ≡ false
is_different i j other = no_is_false (same_instance i j) (λ e. other ((same_instance-Decides i j).0 e))

module _ (inputs : Inputs) (planned : List Fact) (i j : Instance) where
  edge_in : (k : Instance) (f : List ℕ) (a : Ask) → Contains planned (visit k f a) → k ≡ i → (manifest : Option (Result (Manifest Condition) Wrong)) → manifest_at inputs.pages k.port a ≡ manifest
      → Contains (filter (λ l. not (same_instance l k)) (targets_in inputs.setting k f manifest)) j → IsEdge inputs planned i j
  edge_in k f a h same None e at = absurd (contains_nothing j at)
  edge_in k f a h same (Some (Err wrong)) e at = absurd (contains_nothing j at)
  edge_in k f a h same (Some (Ok m)) e at =
      let r = contains_filter (λ l. not (same_instance l k)) (map (instance_of inputs.setting (inst k)) (applicable_of inputs.setting (inst k) f m)) j at in
      let q = contains_map (instance_of inputs.setting (inst k)) (applicable_of inputs.setting (inst k) f m) j r.0 in
      subst (λ l. IsEdge inputs planned l j) same (record {
        f = f;
        a = a;
        visited = h;
        m = m;
        manifest = e;
        d = q.0;
        depends = depends_is inputs.setting (inst k) f m q.0 q.1;
        leads = q.2;
        other = differs j k (not_true (same_instance j k) r.1);
      })

  edge_case : (k : Instance) (f : List ℕ) (a : Ask) (b : Bool) → same_instance k i ≡ b → Contains planned (visit k f a) → Contains (cond b (filter (λ l. not (same_instance l k)) (targets_in inputs.setting k f (manifest_at inputs.pages k.port a))) []) j → IsEdge inputs planned i j
  edge_case k f a true e h at = edge_in k f a h ((same_instance-Decides k i).0 e) (manifest_at inputs.pages k.port a) refl at
  edge_case k f a false e h at = absurd (contains_nothing j at)

  edge_at : (x : Fact) → Contains planned x → Contains (targets_at inputs i x) j → IsEdge inputs planned i j
  edge_at (need who f) h at = absurd (contains_nothing j at)
  edge_at (floor p a) h at = absurd (contains_nothing j at)
  edge_at (visit k f a) h at = edge_case k f a (same_instance k i) refl h at

  pub edge_is : Contains (targets_of inputs planned i) j → IsEdge inputs planned i j
  edge_is h = let r = contains-flat_map (targets_at inputs i) planned j h in edge_at r.0 r.1 r.2

  is_edge : IsEdge inputs planned i j → Contains (targets_of inputs planned i) j
  is_edge e =
      let led : Contains (map (instance_of inputs.setting (inst i)) (applicable_of inputs.setting (inst i) e.f e.m)) j =
      subst (Contains (map (instance_of inputs.setting (inst i)) (applicable_of inputs.setting (inst i) e.f e.m))) e.leads
      (map_contains (instance_of inputs.setting (inst i)) (applicable_of inputs.setting (inst i) e.f e.m) e.d (is_depends inputs.setting (inst i) e.f e.m e.d e.depends)) in
      let there : Contains (targets_in inputs.setting i e.f (manifest_at inputs.pages i.port e.a)) j = subst (λ o. Contains (targets_in inputs.setting i e.f o) j) (sym e.manifest) led in
      let kept : Contains (filter (λ l. not (same_instance l i)) (targets_in inputs.setting i e.f (manifest_at inputs.pages i.port e.a))) j =
      filter_contains (λ l. not (same_instance l i)) (targets_in inputs.setting i e.f (manifest_at inputs.pages i.port e.a)) j there (not_false (same_instance j i) (is_different j i e.other)) in
      let here : Contains (targets_at inputs i (visit i e.f e.a)) j =
      subst (λ b. Contains (cond b (filter (λ l. not (same_instance l i)) (targets_in inputs.setting i e.f (manifest_at inputs.pages i.port e.a))) []) j) (sym ((same_instance-Decides i i).1 refl)) kept in
      flat_map-contains (targets_at inputs i) planned (visit i e.f e.a) j e.visited here

pub edges_mean : EdgesMean
edges_mean inputs planned i j = (edge_is inputs planned i j, is_edge inputs planned i j)
