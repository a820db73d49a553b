-- What the parts of a manifest give, and where what they tell stands.
use Rattle.std.proofs.Common.{◌≡◌, ℕ, Bool, true, false, List, [], ◌∷◌, ◌++◌, inl, inr, refl, sym, subst}
use Rattle.std.specs.Prelude.{Option, Some, None, IfSome, IsSome, Result, Ok, Err, codes, if◌then◌else◌}
use Rattle.std.specs.List.{All, Contains, list_any}
use Rattle.std.specs.Str.{bytes_eq}
use Rattle.std.proofs.lemmas.List.{map-append}
use Rattle.std.proofs.lemmas.List.Elements.{All-nil, All-push}
use Rattle.std.proofs.lemmas.Slice.Eq.{bytes_eq-Decides}
use Rattle.serde_json.specs.Data.{Data}
use Rattle.serde_json.specs.Find.{get}
use Rattle.vk_spec.specs.Lists.{NoRepeats}
use Rattle.vk_spec.specs.Manifests.{Feature, Override, Manifest}
use Rattle.vk_spec.proofs.ListLemmas.{contains_nothing, contains_cases, no_repeats_push}
use Rattle.vk_base.specs.Names.{IsName, IsFeatureName, port_rule, reads_feature}
use Rattle.vk_base.proofs.NameLemmas.{neither}
use Rattle.vk_spec.specs.Conditions.{Condition, always}
use Rattle.vk_json.specs.declared.faults.FileFault.{FileFault}
use Rattle.vk_json.specs.declared.faults.Why.TheVariants as why
use Rattle.vk_json.specs.Places.{at_member}
use Rattle.vk_json.specs.Readings.{bool_at, optional, each_item, each_member}
use Rattle.vk_json.proofs.TellingLemmas.{Says, Reads, Anything, says_then, says_weaker, told_at, bool_says, object_says, wanted_says, wanted_there, optional_says, optional_or_says, text_or_object_says, each_item_says, each_member_says, each_new_item_says}
use Rattle.vk_fields.specs.Wording.{name_word}
use Rattle.vk_fields.specs.Texts.{port_name_at, feature_name_at, expression_at, ask_at}
use Rattle.vk_fields.specs.Versions.{key_of, scheme_needed, written_ask_under}
use Rattle.vk_fields.proofs.TellingLemmas.{name_there, said_says, feature_keeps, port_name_says, feature_name_says, expression_says, ask_says, scheme_needed_says, version_says, version_needed_says, written_ask_says}
use Rattle.vk_manifest.specs.Manifests.{condition_under, use_of_text, use_of_object, use_at, uses_under, dependency_of_text, dependency_with, dependency_of_object, dependency_at, dependencies_in, feature_at, features_in, new_name, new_name_at, override_ask_at, override_from, names_of, overrides_at, overrides_in, name_in, version_in, overrides_if, manifest_at}
use Rattle.vk_json.specs.KeyOrders.{Ascend}
use Rattle.vk_manifest.proofs.FeatureOrders.{AllAscend, features_ascend}
use Rattle.vk_manifest.specs.Names.{feature_names, IsNamedUse, IsNamedDependency, IsNamedFeature, IsNamedOverride, IsNamed, IsPort}

condition_says : (key : List ℕ) → Reads Anything (condition_under key)
condition_says key d = optional_or_says Anything expression_at expression_says key d always tt

-- ---- features that lists name

use_of_text_says : Reads IsNamedUse use_of_text
unfolding use_of_text
use_of_text_says d = says_then IsFeatureName IsNamedUse d _ _ (feature_name_says d) (λ name is. is)

use_of_object_says : Reads IsNamedUse use_of_object
unfolding use_of_object
use_of_object_says d =
    says_then IsFeatureName IsNamedUse d _ _ (wanted_says IsFeatureName feature_name_at feature_name_says (codes "name") d) (λ name is.
    says_then Anything IsNamedUse d _ _ (condition_says (codes "platform") d) (λ platform any. is))

use_says : Reads IsNamedUse use_at
use_says = text_or_object_says IsNamedUse use_of_text use_of_object use_of_text_says use_of_object_says

uses_says : (key : List ℕ) → Reads (All IsNamedUse) (uses_under key)
uses_says key d = optional_or_says (All IsNamedUse) (each_item use_at) (each_item_says IsNamedUse use_at use_says) key d [] (All-nil IsNamedUse)

-- ---- dependencies

dependency_of_text_says : Reads IsNamedDependency dependency_of_text
unfolding dependency_of_text
dependency_of_text_says d = says_then (IsName port_rule) IsNamedDependency d _ _ (port_name_says d) (λ name is. record { port = is; uses = All-nil IsNamedUse })

dependency_with_says : (name : List ℕ) → IsName port_rule name → Reads IsNamedDependency (dependency_with name)
unfolding dependency_with
dependency_with_says name is d =
    says_then Anything IsNamedDependency d _ _ (optional_or_says Anything bool_at bool_says (codes "default-features") d true tt) (λ defaults any.
    says_then (All IsNamedUse) IsNamedDependency d _ _ (uses_says (codes "features") d) (λ features are.
    says_then Anything IsNamedDependency d _ _ (optional_or_says Anything bool_at bool_says (codes "host") d false tt) (λ host any.
    says_then Anything IsNamedDependency d _ _ (condition_says (codes "platform") d) (λ platform any.
    says_then (λ o. IfSome o Anything) IsNamedDependency d (optional ask_at (codes "version>=") d) (λ minimum. Ok (record { name = name; defaults = defaults; features = features; host = host; platform = platform; minimum = minimum })) (optional_says Anything ask_at ask_says (codes "version>=") d) (λ minimum any.
    record { port = is; uses = are })))))

dependency_of_object_says : Reads IsNamedDependency dependency_of_object
unfolding dependency_of_object
dependency_of_object_says d =
    says_then (IsName port_rule) IsNamedDependency d _ _ (wanted_says (IsName port_rule) port_name_at port_name_says (codes "name") d) (λ name is. dependency_with_says name is d)

dependency_says : Reads IsNamedDependency dependency_at
dependency_says = text_or_object_says IsNamedDependency dependency_of_text dependency_of_object dependency_of_text_says dependency_of_object_says

dependencies_says : Reads (All IsNamedDependency) dependencies_in
dependencies_says d = optional_or_says (All IsNamedDependency) (each_item dependency_at) (each_item_says IsNamedDependency dependency_at dependency_says) (codes "dependencies") d [] (All-nil IsNamedDependency)

-- ---- features

feature_says : (key : List ℕ) → Reads IsNamedFeature (feature_at key)
unfolding feature_at
feature_says key d =
    says_then IsFeatureName IsNamedFeature d _ _ (said_says name_word IsFeatureName d (reads_feature key) name_there (feature_keeps key)) (λ name is.
    says_then Anything IsNamedFeature d _ _ (object_says d) (λ object any.
    says_then (All IsNamedDependency) IsNamedFeature d _ _ (dependencies_says d) (λ dependencies are.
    says_then Anything IsNamedFeature d _ _ (condition_says (codes "supports") d) (λ supports any. record { word = is; wants = are }))))

features_says : Reads (All IsNamedFeature) features_in
features_says d = optional_or_says (All IsNamedFeature) (each_member feature_at) (each_member_says IsNamedFeature feature_at feature_says) (codes "features") d [] (All-nil IsNamedFeature)

-- ---- overrides

none_has : (name : List ℕ) (names : List (List ℕ)) → list_any (bytes_eq name) names ≡ false → Contains names name → ⊥
none_has name [] none has = contains_nothing name has
none_has name (n ∷ ns) none has =
    let both = neither (bytes_eq name n) (list_any (bytes_eq name) ns) none in
    elim (contains_cases n name ns has) [
      | inl first ↦ (let same : bytes_eq name n ≡ true = (bytes_eq-Decides name n).1 (sym first) in cc)
      | inr later ↦ none_has name ns both.1 later
    ]

new_by : (names : List (List ℕ)) (name : List ℕ) (d v : Data) (b : Bool) → list_any (bytes_eq name) names ≡ b → get (codes "name") d ≡ Some v
    → Says {A = Unit {0}} (λ new. Contains names name → ⊥) d (if b then Err (at_member (codes "name") why.Twice) else Ok tt)
new_by names name d v true old found = told_at (codes "name") d v why.Twice found (λ e. (cc))
new_by names name d v false new found = none_has name names new

new_says : (names : List (List ℕ)) (name : List ℕ) (d : Data) (o : Option Data) → get (codes "name") d ≡ o → IsSome o
    → Says {A = Unit {0}} (λ new. Contains names name → ⊥) d (new_name names name)
new_says names name d (Some v) found there = new_by names name d v (list_any (bytes_eq name) names) refl found
new_says names name d None found there = let no : false ≡ true = there in (cc)

-- a name that none of these is
abbrev IsNew : List (List ℕ) → Override → Type 0
IsNew names o = IsNamedOverride o × (Contains names o.name → ⊥)

-- a port's name that none of these is
abbrev IsNewName : List (List ℕ) → List ℕ → Type 0
IsNewName names name = IsName port_rule name × (Contains names name → ⊥)

new_name_says : (names : List (List ℕ)) → Reads (IsNewName names) (new_name_at names)
unfolding new_name_at
new_name_says names d =
    says_then (λ name. IsName port_rule name × IsSome (get (codes "name") d)) (IsNewName names) d _ _ (wanted_there (IsName port_rule) port_name_at port_name_says (codes "name") d) (λ name is.
    says_then (λ new. Contains names name → ⊥) (IsNewName names) d _ _ (new_says names name d (get (codes "name") d) refl is.1) (λ new other. (is.0, other)))

override_ask_says : Reads Anything override_ask_at
unfolding override_ask_at
override_ask_says d = says_then Anything Anything d (scheme_needed d) (λ scheme. written_ask_under (key_of scheme) d) (scheme_needed_says d) (λ scheme any. written_ask_says d (key_of scheme))

override_says : (names : List (List ℕ)) → Reads (IsNew names) (override_from names)
unfolding override_from
override_says names d =
    says_then Anything (IsNew names) d _ _ (object_says d) (λ object any.
    says_then (IsNewName names) (IsNew names) d _ _ (new_name_says names d) (λ name is.
    says_then Anything (IsNew names) d _ _ (override_ask_says d) (λ ask any. is)))

-- overrides with names, each with one of its own
abbrev AreNew : List Override → Type 0
AreNew overrides = All IsNamedOverride overrides × NoRepeats (names_of overrides)

one_more : (earlier : List Override) (o : Override) → AreNew earlier → IsNew (names_of earlier) o → AreNew (earlier ++ o ∷ [])
one_more earlier o are is = (
  All-push IsNamedOverride earlier o are.0 is.0,
  subst NoRepeats (sym (map-append (λ x. x.name) earlier (o ∷ []))) (no_repeats_push (names_of earlier) o.name are.1 is.1),
)

later_says : (earlier : List Override) → AreNew earlier → Reads (λ o. AreNew (earlier ++ o ∷ [])) (override_from (names_of earlier))
later_says earlier are d = says_weaker (IsNew (names_of earlier)) (λ o. AreNew (earlier ++ o ∷ [])) d (override_from (names_of earlier) d) (override_says (names_of earlier) d) (λ o is. one_more earlier o are is)

overrides_at_says : Reads AreNew overrides_at
overrides_at_says = each_new_item_says AreNew (λ (o : Override). o.name) override_from later_says (All-nil IsNamedOverride, tt)

overrides_says : Reads AreNew overrides_in
overrides_says d = optional_or_says AreNew overrides_at overrides_at_says (codes "overrides") d [] (All-nil IsNamedOverride, tt)

-- ---- the manifest

-- what a root may lack
abbrev IsNeeded : {A : Type 0} → Bool → Option A → Type 0
IsNeeded true o = Unit {0}
IsNeeded false o = IsSome o

-- what a port lacks
abbrev IsRootsOwn : Bool → List Override → Type 0
IsRootsOwn true overrides = Unit {0}
IsRootsOwn false overrides = overrides ≡ []

abbrev pub IsPortUnless : Bool → Manifest Condition → Type 0
IsPortUnless true m = Unit {0}
IsPortUnless false m = IsPort m

name_says : (root : Bool) → Reads (λ name. IfSome name (IsName port_rule) × IsNeeded root name) (name_in root)
unfolding name_in
name_says true d = says_weaker (λ name. IfSome name (IsName port_rule)) (λ name. IfSome name (IsName port_rule) × IsNeeded true name) d (name_in true d) (optional_says (IsName port_rule) port_name_at port_name_says (codes "name") d) (λ name is. (is, tt))
name_says false d = says_then (IsName port_rule) (λ name. IfSome name (IsName port_rule) × IsNeeded false name) d _ _ (wanted_says (IsName port_rule) port_name_at port_name_says (codes "name") d) (λ name is. (is, refl))

version_in_says : (root : Bool) → Reads (IsNeeded root) (version_in root)
unfolding version_in
version_in_says true d = version_says d
version_in_says false d = says_then Anything (IsNeeded false) d _ _ (version_needed_says d) (λ version any. refl)

overrides_if_says : (root : Bool) → Reads (λ overrides. AreNew overrides × IsRootsOwn root overrides) (overrides_if root)
overrides_if_says true d = says_weaker AreNew (λ overrides. AreNew overrides × IsRootsOwn true overrides) d (overrides_in d) (overrides_says d) (λ overrides are. (are, tt))
overrides_if_says false d = ((All-nil IsNamedOverride, tt), refl)

is_port : (root : Bool) (m : Manifest Condition) → IsNeeded root m.name → IsNeeded root m.version → IsRootsOwn root m.overrides → IsPortUnless root m
is_port true m name version overrides = tt
is_port false m name version overrides = record { named = name; versioned = version; sets_none = overrides }

-- what is said of a value, and what its reading gives besides
says_and : {A : Type 0} (P R : A → Type 0) (d : Data) (r : Result A FileFault) → Says P d r → ((x : A) → r ≡ Ok x → R x) → Says (λ x. P x × R x) d r
says_and P R d (Ok x) says gives = (says, gives x refl)
says_and P R d (Err e) says gives = says

-- the features that are read ascend where the keys of each object do
abbrev FeaturesAre : Data → List (Feature Condition) → Type 0
FeaturesAre d features = All IsNamedFeature features × (AllAscend d → Ascend (feature_names features))

features_are : (d : Data) → Says (FeaturesAre d) d (features_in d)
features_are d = says_and (All IsNamedFeature) (λ features. AllAscend d → Ascend (feature_names features)) d (features_in d) (features_says d) (λ features e. features_ascend d features e)

-- the names are names, and a port has what it needs
abbrev pub IsRead : Bool → Data → Manifest Condition → Type 0
IsRead root d m = (AllAscend d → IsNamed m) × IsPortUnless root m

pub manifest_says : (root : Bool) (d : Data) → Says (IsRead root d) d (manifest_at root d)
unfolding manifest_at
manifest_says root d =
    says_then Anything (IsRead root d) d _ _ (object_says d) (λ object any.
    says_then (λ name. IfSome name (IsName port_rule) × IsNeeded root name) (IsRead root d) d _ _ (name_says root d) (λ name own.
    says_then (IsNeeded root) (IsRead root d) d _ _ (version_in_says root d) (λ version needed.
    says_then Anything (IsRead root d) d _ _ (condition_says (codes "supports") d) (λ supports any.
    says_then (All IsNamedDependency) (IsRead root d) d _ _ (dependencies_says d) (λ dependencies wants.
    says_then (All IsNamedUse) (IsRead root d) d _ _ (uses_says (codes "default-features") d) (λ defaults uses.
    says_then (FeaturesAre d) (IsRead root d) d _ _ (features_are d) (λ features offers.
    says_then (λ overrides. AreNew overrides × IsRootsOwn root overrides) (IsRead root d) d _ _ (overrides_if_says root d) (λ overrides sets.
    (λ ascend. record { own = own.0; wants = wants; defaults = uses; offers = offers.0; order = offers.1 ascend; sets = sets.0.0; once = sets.0.1 }, is_port root _ own.1 needed sets.1)))))))))
