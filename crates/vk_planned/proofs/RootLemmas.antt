-- The needs of the root, put one after the other.
use Rattle.std.proofs.Common.{◌≡◌, ◌<◌, ◌+◌, ℕ, List, [], ◌∷◌, ◌++◌, length, map, take, get_or, cond, ap, sym, ◌∙◌, subst}
use Rattle.std.proofs.lemmas.List.{map-append, take_more}
use Rattle.vk_base.specs.FeatureViews.{feature_view}
use Rattle.vk_base.specs.declared.features.FeatureName.{FeatureName}
use Rattle.vk_spec.specs.Manifests.{core, default}
use Rattle.vk_spec.specs.Settings.{Setting}
use Rattle.vk_resolution.specs.Settings.{first_features_of}
use Rattle.vk_resolution.specs.Asking.{Fact, root_facts_of}
use Rattle.vk_resolution.specs.Worklist.{Notes}
use Rattle.vk_resolution.proofs.WorkLemmas.{notes_then}
use Rattle.vk_planned.specs.Needs.{root_need, root_needs}

-- the next of the features
pub roots_next : {old mid new : List Fact} (t : List ℕ) (fs : List FeatureName) (n : ℕ) (f : FeatureName) → n < length fs → f ≡ get_or fs n f → Notes [] (root_needs t (map feature_view (take n fs))) old mid → Notes [] (root_need t (feature_view f) ∷ []) mid new
    → Notes [] (root_needs t (map feature_view (take (n + 1) fs))) old new
roots_next {old} {mid} {new} t fs n f within at one two =
    let seen : root_needs t (map feature_view (take n fs)) ++ root_need t (feature_view f) ∷ [] ≡ root_needs t (map feature_view (take (n + 1) fs)) =
    sym (ap (λ l. root_needs t (map feature_view l)) (take_more fs n f within ∙ ap (λ k. take n fs ++ k ∷ []) (sym at)) ∙ ap (root_needs t) (map-append feature_view (take n fs) (f ∷ [])) ∙ map-append (root_need t) (map feature_view (take n fs)) (feature_view f ∷ [])) in
    subst (λ l. Notes [] l old new) seen (notes_then one two)

-- `core`, the features of the words, and then `default` unless it is switched off
pub roots_all : {a b c d : List Fact} (s : Setting) (t : List ℕ) (words : List (List ℕ)) → t ≡ s.target.name → words ≡ s.features
    → Notes [] (root_need t core ∷ []) a b → Notes [] (root_needs t words) b c → Notes [] (root_needs t (cond s.defaults (default ∷ []) [])) c d → Notes [] (root_facts_of s) a d
roots_all {a} {b} {c} {d} s t words target features one two three =
    let seen : root_need t core ∷ (root_needs t words ++ root_needs t (cond s.defaults (default ∷ []) [])) ≡ root_facts_of s =
    ap (λ l. root_need t core ∷ l) (sym (map-append (root_need t) words (cond s.defaults (default ∷ []) []))) ∙ ap (λ l. root_needs t (core ∷ l ++ cond s.defaults (default ∷ []) [])) features ∙ ap (λ u. root_needs u (first_features_of s)) target in
    subst (λ l. Notes [] l a d) seen (notes_then one (notes_then two three))
