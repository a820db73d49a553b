-- The root facts of a setting.
use Rattle.std.proofs.Common.{◌≡◌, ℕ, Bool, true, false, cond, List, [], ◌∷◌, ◌++◌, map, refl, ap, sym, subst, ◌∙◌}
use Rattle.std.specs.Prelude.{flat_map}
use Rattle.std.proofs.lemmas.List.{map-append}
use Rattle.vk_spec.specs.Manifests.{core, default}
use Rattle.vk_spec.specs.Settings.{Setting}
use Rattle.vk_resolution.specs.Settings.{root, first_features_of}
use Rattle.vk_resolution.specs.Asking.{need}
use Rattle.vk_resolution.specs.Reasons.{Reason, facts_of}
use Rattle.vk_resolution.proofs.Members.{contains_map}
use Rattle.vk_worklist.specs.Entries.{AreRoots}
use Rattle.vk_close.specs.Roots.{root_reason}

facts_are : (t : List ℕ) (fs : List (List ℕ)) → facts_of (map (root_reason t) fs) ≡ map (need (root t)) fs
facts_are t [] = refl
facts_are t (f ∷ fs) = ap (λ l. need (root t) f ∷ l) (facts_are t fs)

are_roots : (s : Setting) → AreRoots s (map (root_reason s.target.name) (first_features_of s))
are_roots s = record {
  facts = facts_are s.target.name (first_features_of s);
  causes = λ r h. let w = contains_map (root_reason s.target.name) (first_features_of s) r h in ap (λ x. x.cause) (sym w.2);
}

each_one : {X : Type 0} (t : List ℕ) (view : X → List ℕ) (fs : List X) → flat_map (λ f. root_reason t (view f) ∷ []) fs ≡ map (root_reason t) (map view fs)
each_one t view [] = refl
each_one t view (f ∷ fs) = ap (λ l. root_reason t (view f) ∷ l) (each_one t view fs)

default_one : (t : List ℕ) (b : Bool) → cond b (root_reason t default ∷ []) [] ≡ map (root_reason t) (cond b (default ∷ []) [])
default_one t true = refl
default_one t false = refl

-- `core`, then those of the words, then `default` unless it is switched off
pub roots_are : {X : Type 0} (s : Setting) (t : List ℕ) (view : X → List ℕ) (fs : List X) (nothing one more all : List Reason) → t ≡ s.target.name → map view fs ≡ s.features → nothing ≡ []
    → one ≡ nothing ++ root_reason t core ∷ [] → more ≡ one ++ flat_map (λ f. root_reason t (view f) ∷ []) fs → all ≡ more ++ cond s.defaults (root_reason t default ∷ []) [] → AreRoots s all
roots_are s t view fs nothing one more all target features none first next last =
    subst (AreRoots s) (sym (
    last ∙ ap (λ l. l ++ cond s.defaults (root_reason t default ∷ []) []) (next ∙ ap (λ l. l ++ flat_map (λ f. root_reason t (view f) ∷ []) fs) (first ∙ ap (λ l. l ++ root_reason t core ∷ []) none))
    ∙ ap (λ l. root_reason t core ∷ (l ++ cond s.defaults (root_reason t default ∷ []) [])) (each_one t view fs ∙ ap (map (root_reason t)) features)
    ∙ ap (λ l. root_reason t core ∷ (map (root_reason t) s.features ++ l)) (default_one t s.defaults)
    ∙ ap (λ l. root_reason t core ∷ l) (sym (map-append (root_reason t) s.features (cond s.defaults (default ∷ []) [])))
    ∙ ap (λ u. map (root_reason u) (first_features_of s)) target)) (are_roots s)
