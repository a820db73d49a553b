-- Names that are put behind others.
use Rattle.std.proofs.Common.{◌≡◌, ◌<◌, ◌+◌, ℕ, Bool, true, false, cond, List, [], ◌∷◌, ◌++◌, take, get_or, length, inl, inr, refl, ap, sym, ◌∙◌, subst}
use Rattle.std.specs.List.{Contains, list_any}
use Rattle.std.proofs.lemmas.List.{append-nil, append_assoc, map-append, take_more}
use Rattle.std.proofs.lemmas.List.Elements.{Contains-append_left, Contains-append_right, Contains-append_cases}
use Rattle.std.proofs.lemmas.Slice.Eq.{bytes_eq-Decides}
use Rattle.indexmap.specs.IndexSet.{insert_key}
use Rattle.vk_spec.specs.Lists.{NoRepeats, IsWithin}
use Rattle.vk_spec.proofs.ListLemmas.{no_repeats_push}
use Rattle.vk_resolution.proofs.Members.{any_contains, contains_any, contains_map, map_contains, contains_single, true_false}
use Rattle.vk_base.specs.FeatureViews.{feature_view}
use Rattle.vk_base.specs.declared.features.FeatureName.{FeatureName}
use Rattle.vk_root.specs.AskedNames.{names_view, is_same_name, Grows}

-- one name more
names_push : (keys : List FeatureName) (name : FeatureName) → names_view (keys ++ name ∷ []) ≡ names_view keys ++ feature_view name ∷ []
names_push keys name = map-append feature_view keys (name ∷ [])

is_there : (keys : List FeatureName) (name : FeatureName) → list_any (is_same_name name) keys ≡ true → Contains (names_view keys) (feature_view name)
is_there keys name e =
    let r = any_contains (is_same_name name) keys e in
    subst (Contains (names_view keys)) (sym ((bytes_eq-Decides (feature_view name) (feature_view r.0)).0 r.2)) (map_contains feature_view keys r.0 r.1)

not_there : (keys : List FeatureName) (name : FeatureName) → list_any (is_same_name name) keys ≡ false → Contains (names_view keys) (feature_view name) → ⊥
not_there keys name e h =
    let r = contains_map feature_view keys (feature_view name) h in
    true_false (list_any (is_same_name name) keys) (contains_any (is_same_name name) keys r.0 r.1 ((bytes_eq-Decides (feature_view name) (feature_view r.0)).1 (sym r.2))) e

put_step : (keys new : List FeatureName) (name : FeatureName) (b : Bool) → list_any (is_same_name name) keys ≡ b → new ≡ cond b keys (keys ++ name ∷ []) → Grows keys new (feature_view name ∷ [])
put_step keys new name true e is = record {
  more = [];
  kept = is ∙ sym (append-nil keys);
  sound = λ x h. inl (subst (λ l. Contains (names_view l) x) is h);
  complete = λ x h. subst (λ l. Contains (names_view l) x) (sym is) (subst (Contains (names_view keys)) (contains_single (feature_view name) x h) (is_there keys name e));
  distinct = λ each. subst (λ l. NoRepeats (names_view l)) (sym is) each;
}
put_step keys new name false e is =
    let seen : names_view new ≡ names_view keys ++ feature_view name ∷ [] = ap names_view is ∙ names_push keys name in
    record {
      more = name ∷ [];
      kept = is;
      sound = λ x h. Contains-append_cases (names_view keys) (feature_view name ∷ []) x (subst (λ l. Contains l x) seen h);
      complete = λ x h. subst (λ l. Contains l x) (sym seen) (Contains-append_right (names_view keys) (feature_view name ∷ []) x h);
      distinct = λ each. subst NoRepeats (sym seen) (no_repeats_push (names_view keys) (feature_view name) each (not_there keys name e));
    }

pub grows_put : (keys new : List FeatureName) (name : FeatureName) → new ≡ insert_key is_same_name keys name → Grows keys new (feature_view name ∷ [])
grows_put keys new name is = put_step keys new name (list_any (is_same_name name) keys) refl is

-- what was there stays
pub grows_within : {old new : List FeatureName} {names : List (List ℕ)} → Grows old new names → IsWithin (names_view old) (names_view new)
grows_within {old} {new} grows x h = subst (λ l. Contains l x) (sym (ap names_view grows.kept ∙ map-append feature_view old grows.more)) (Contains-append_left (names_view old) (names_view grows.more) x h)

-- and more behind more
pub grows_then : {old mid new : List FeatureName} {names more : List (List ℕ)} → Grows old mid names → Grows mid new more → Grows old new (names ++ more)
grows_then {old} {mid} {new} {names} {more} one two = record {
  more = one.more ++ two.more;
  kept = two.kept ∙ ap (λ l. l ++ two.more) one.kept ∙ append_assoc old one.more two.more;
  sound = λ x h. elim (two.sound x h) [
    | inl was ↦ elim (one.sound x was) [ inl old_one ↦ inl old_one | inr first ↦ inr (Contains-append_left names more x first) ]
    | inr second ↦ inr (Contains-append_right names more x second)
  ];
  complete = λ x h. elim (Contains-append_cases names more x h) [ inl first ↦ grows_within two x (one.complete x first) | inr second ↦ two.complete x second ];
  distinct = λ each. two.distinct (one.distinct each);
}

-- the next of a list
pub grows_next : {old mid new : List FeatureName} (names : List FeatureName) (n : ℕ) (name : FeatureName) → n < length names → name ≡ get_or names n name
    → Grows old mid (names_view (take n names)) → Grows mid new (feature_view name ∷ []) → Grows old new (names_view (take (n + 1) names))
grows_next {old} {mid} {new} names n name within at one two =
    let seen : names_view (take n names) ++ feature_view name ∷ [] ≡ names_view (take (n + 1) names) =
    sym (names_push (take n names) name) ∙ ap (λ k. names_view (take n names ++ k ∷ [])) at ∙ ap names_view (sym (take_more names n name within)) in
    subst (Grows old new) seen (grows_then one two)
