-- What is asked, member by member.
use Rattle.std.proofs.Common.{◌≡◌, ◌≤◌, length, take, ℕ, Bool, true, false, cond, List, [], ◌∷◌, ◌++◌, map, filter, flat_map, refl, ap, sym, ◌∙◌}
use Rattle.std.specs.Prelude.{option_map}
use Rattle.std.proofs.lemmas.List.{append-nil, take_all}
use Rattle.vk_spec.specs.Conditions.{holds}
use Rattle.vk_spec.specs.Settings.{Setting, Instance}
use Rattle.vk_spec.specs.Manifests as plain
use Rattle.vk_spec.specs.Conditions.{Condition}
use Rattle.vk_resolution.specs.Settings.{Marks, Who, root, inst, marks_of, triplet_of, is_own, is_root, is_off, instance_of}
use Rattle.vk_resolution.specs.Asking.{need, asked_by, asked_of_own, asked_of_other}
use Rattle.vk_expr.specs.Views.{condition_of}
use Rattle.vk_version.specs.AskViews.{ask_view}
use Rattle.vk_model.specs.Views.{use_view, dependency_view}
use Rattle.vk_model.specs.declared.manifests.Dependency.{Dependency}
use Rattle.vk_model.specs.declared.manifests.FeatureUse.{FeatureUse}
use Rattle.vk_rules.specs.Asked.{use_need, needs_of, own_floor, other_asked, asked_where, asked_each}
use Rattle.vk_root.specs.Roots.{instance_at, triplet_for}

module _ (who : Who) (marks : Marks) where
  use_step : (u : FeatureUse) (us : List FeatureUse) (b : Bool) → flat_map (use_need who marks) us ≡ needs_of who marks (map use_view us)
      → cond b (need who (use_view u).name ∷ []) [] ++ flat_map (use_need who marks) us ≡ map (need who) (map (λ v. v.name) (cond b (use_view u ∷ filter (λ v. holds v.platform marks) (map use_view us)) (filter (λ v. holds v.platform marks) (map use_view us))))
  use_step u us true rest = ap (λ l. need who (use_view u).name ∷ l) rest
  use_step u us false rest = rest

  -- the needs of a list are those of its members
  pub needs_each : (us : List FeatureUse) → flat_map (use_need who marks) us ≡ needs_of who marks (map use_view us)
  needs_each [] = refl
  needs_each (u ∷ us) = use_step u us (holds (condition_of u.platform) marks) (needs_each us)

module _ (s : Setting) (who : Who) where
  asked_step : (d : Dependency) (ds : List Dependency) (b : Bool) → flat_map (asked_where s who) ds ≡ asked_each s who (map dependency_view ds)
      → cond b (asked_by s who (dependency_view d)) [] ++ flat_map (asked_where s who) ds ≡ flat_map (asked_by s who) (cond b (dependency_view d ∷ filter (λ e. holds e.platform (marks_of s (triplet_of who))) (map dependency_view ds)) (filter (λ e. holds e.platform (marks_of s (triplet_of who))) (map dependency_view ds)))
  asked_step d ds true rest = ap (λ l. asked_by s who (dependency_view d) ++ l) rest
  asked_step d ds false rest = rest

  -- what dependencies ask for is what each asks for where it applies
  pub asked_one_by_one : (ds : List Dependency) → flat_map (asked_where s who) ds ≡ asked_each s who (map dependency_view ds)
  asked_one_by_one [] = refl
  asked_one_by_one (d ∷ ds) = asked_step d ds (holds (condition_of d.platform) (marks_of s (triplet_of who))) (asked_one_by_one ds)

-- the floor of one's own minimum stands behind the features, and the root has none
pub own_asked : (who : Who) (marks : Marks) (d : Dependency) → needs_of who marks (map use_view d.features) ++ own_floor who (option_map ask_view d.minimum) ≡ asked_of_own who marks (dependency_view d)
own_asked (root triplet) marks d = append-nil _
own_asked (inst i) marks d = refl

-- and those of a loop that is through
pub needs_all : (who : Who) (marks : Marks) (us : List FeatureUse) (n : ℕ) → length us ≤ n → flat_map (use_need who marks) (take n us) ≡ needs_of who marks (map use_view us)
needs_all who marks us n through = ap (flat_map (use_need who marks)) (take_all n us through) ∙ needs_each who marks us

pub asked_all : (s : Setting) (who : Who) (ds : List Dependency) (n : ℕ) → length ds ≤ n → flat_map (asked_where s who) (take n ds) ≡ asked_each s who (map dependency_view ds)
asked_all s who ds n through = ap (flat_map (asked_where s who)) (take_all n ds through) ∙ asked_one_by_one s who ds

-- what is one's own depends on the root's name alone
pub own_same : (s t : Setting) (who : Who) (j : Instance) → s.root ≡ t.root → is_own s who j ≡ is_own t who j
own_same s t (root triplet) j e = ap (λ m. is_root m.name triplet j) e
own_same s t (inst i) j e = refl

-- what a dependency on another instance asks for, where that instance is known, and whether it is off
pub at_is : (s : Setting) (d : plain.Dependency Condition) (marks : Marks) (triplet : List ℕ) (j : Instance) (off : Bool) → j ≡ instance_at d.name triplet → off ≡ is_off s j
    → other_asked (inst j) off marks d ≡ asked_of_other s marks (instance_at d.name triplet) d
at_is s d marks triplet j off is told =
    ap (λ k. other_asked (inst k) off marks d) is ∙ ap (λ b. other_asked (inst (instance_at d.name triplet)) b marks d) (told ∙ ap (is_off s) is)

pub other_is : (s : Setting) (who : Who) (d : plain.Dependency Condition) (marks : Marks) (triplet : List ℕ)
    → is_own s who (instance_at d.name triplet) ≡ false → triplet ≡ triplet_for s who d.host → marks ≡ marks_of s (triplet_of who)
    → asked_of_other s marks (instance_at d.name triplet) d ≡ asked_by s who d
other_is s who d marks triplet other for at =
    let found : instance_at d.name triplet ≡ instance_of s who d = ap (instance_at d.name) for in
    let own : is_own s who (instance_of s who d) ≡ false = ap (is_own s who) (sym found) ∙ other in
    ap (λ k. asked_of_other s marks k d) found
    ∙ ap (λ m. asked_of_other s m (instance_of s who d) d) at
    ∙ sym (ap (λ b. cond b (asked_of_own who (marks_of s (triplet_of who)) d) (asked_of_other s (marks_of s (triplet_of who)) (instance_of s who d) d)) own)
