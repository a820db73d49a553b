-- Features ascend by name, as the keys of their object do.
use Rattle.std.proofs.Common.{◌≡◌, ◌+◌, ℕ, List, [], ◌∷◌, ◌++◌, map, refl, ap, subst, ◌∙◌}
use Rattle.std.specs.Prelude.{Option, Some, None, Result, Ok, Err, codes}
use Rattle.std.specs.List.Sorted.{IsStrictlySortedBy}
use Rattle.std.proofs.lemmas.Simd.{map-map}
use Rattle.serde_json.specs.Data.{Data, Members, no_members, member}
use Rattle.serde_json.specs.Data as json
use Rattle.serde_json.specs.Find.{get}
use Rattle.vk_spec.specs.Reading.{◌>>=◌, read_each}
use Rattle.vk_spec.specs.Manifests.{Feature}
use Rattle.vk_spec.specs.Conditions.{Condition}
use Rattle.vk_base.specs.Names.{reads_feature}
use Rattle.vk_base.specs.declared.names.NameFault.{NameFault}
use Rattle.vk_base.proofs.FeatureLemmas.{feature-same}
use Rattle.vk_json.specs.declared.faults.FileFault.{FileFault}
use Rattle.vk_json.specs.Looks.{names_of}
use Rattle.vk_json.specs.KeyOrders.{Ascend, KeysAscend}
use Rattle.vk_json.specs.Places.{inside, member_step}
use Rattle.vk_json.specs.Readings.{object_at, read_or, optional_or, member_at, each_member, pairs_of}
use Rattle.vk_json.specs.Standing.{Leads, itself, by_member}
use Rattle.vk_json.proofs.TellingLemmas.{get_has}
use Rattle.vk_fields.specs.Wording.{name_word}
use Rattle.vk_fields.specs.Saying.{said_here}
use Rattle.vk_manifest.specs.Manifests.{feature_at, features_in, dependencies_in, supports_in}
use Rattle.vk_manifest.specs.Names.{feature_names}
use Rattle.vk_model.specs.PortFeatures.{AreInOrder}
use Rattle.vk_model.specs.Views.{port_feature_view}
use Rattle.vk_model.specs.declared.manifests.Feature as the
use Rattle.vk_spec.proofs.ReadingLemmas.{bind_ok}

-- ---- what a reading that gave a value gave on the way

inside_ok : {A : Type 0} (step : List ℕ) (r : Result A FileFault) (y : A) → inside step r ≡ Ok y → r ≡ Ok y
inside_ok step (Ok x) y e = e
inside_ok step (Err g) y e = (cc)

said_ok : (r : Result (List ℕ) NameFault) (name : List ℕ) → said_here name_word r ≡ Ok name → r ≡ Ok name
said_ok (Ok x) name e = let is : x ≡ name = (cc) in ap Ok is
said_ok (Err g) name e = (cc)

-- ---- a feature's name is its key

feature_name_is : (key : List ℕ) (d : Data) (f : Feature Condition) → feature_at key d ≡ Ok f → f.name ≡ key
unfolding feature_at
feature_name_is key d f e =
    let name = bind_ok (said_here name_word (reads_feature key)) (λ name. object_at d >>= λ object. dependencies_in d >>= λ dependencies. supports_in d >>= λ supports. Ok (record { name = name; dependencies = dependencies; supports = supports })) f e in
    let object = bind_ok (object_at d) (λ object. dependencies_in d >>= λ dependencies. supports_in d >>= λ supports. Ok (record { name = name.0; dependencies = dependencies; supports = supports })) f name.2 in
    let dependencies = bind_ok (dependencies_in d) (λ dependencies. supports_in d >>= λ supports. Ok (record { name = name.0; dependencies = dependencies; supports = supports })) f object.2 in
    let supports = bind_ok (supports_in d) (λ supports. Ok (record { name = name.0; dependencies = dependencies.0; supports = supports })) f dependencies.2 in
    let is : f ≡ record { name = name.0; dependencies = dependencies.0; supports = supports.0 } = (cc) in
    ap (λ (g : Feature Condition). g.name) is ∙ feature-same key name.0 (said_ok (reads_feature key) name.0 name.1)

names_are : (ms : Members) (n : ℕ) (features : List (Feature Condition)) → read_each (λ _. member_at feature_at) n (pairs_of ms) ≡ Ok features → feature_names features ≡ names_of ms
unfolding read_each
names_are no_members n features e = let none : features ≡ [] = (cc) in rw none refl
names_are (member key d ms) n features e =
    let first = bind_ok (member_at feature_at (key, d)) (λ y. read_each (λ _. member_at feature_at) (n + 1) (pairs_of ms) >>= λ ys. Ok (y ∷ ys)) features e in
    let later = bind_ok (read_each (λ _. member_at feature_at) (n + 1) (pairs_of ms)) (λ ys. Ok (first.0 ∷ ys)) features first.2 in
    let is : features ≡ first.0 ∷ later.0 = (cc) in
    let name = feature_name_is key d first.0 (inside_ok (member_step key) (feature_at key d) first.0 first.1) in
    let names = names_are ms (n + 1) later.0 later.1 in
    rw is (λ i. name i ∷ names i)

-- ---- so features ascend

each_ascend : (d : Data) (features : List (Feature Condition)) → each_member feature_at d ≡ Ok features → KeysAscend d → Ascend (feature_names features)
unfolding each_member
each_ascend json.null features e ascend = (cc)
each_ascend (json.boolean b) features e ascend = (cc)
each_ascend (json.number n) features e ascend = (cc)
each_ascend (json.string s) features e ascend = (cc)
each_ascend (json.array ds) features e ascend = (cc)
each_ascend (json.object ms) features e ascend = rw (names_are ms 0 features e) ascend

pub read_in_order : (d : Data) (features : List the.Feature) → each_member feature_at d ≡ Ok (map port_feature_view features) → KeysAscend d → AreInOrder features
read_in_order d features e ascend = subst Ascend (map-map (λ f. f.name) port_feature_view features) (each_ascend d (map port_feature_view features) e ascend)

none_ascend : Ascend []
unfolding IsStrictlySortedBy
none_ascend = tt

-- the keys of each object in a value ascend
abbrev pub AllAscend : Data → Type 0
AllAscend d = (place : List ℕ) (found : Data) → Leads place d found → KeysAscend found

member_ascends : (key : List ℕ) (d v : Data) → get key d ≡ Some v → AllAscend d → KeysAscend v
member_ascends key d v found all =
    let has = get_has key d v found in
    all (member_step key ++ []) v (rw has.1 (by_member has.0 key [] v v has.2 (itself v)))

features_by : (d : Data) (o : Option Data) (features : List (Feature Condition)) → get (codes "features") d ≡ o → inside (member_step (codes "features")) (read_or [] (each_member feature_at) o) ≡ Ok features → AllAscend d → Ascend (feature_names features)
features_by d None features is e all = let none : features ≡ [] = (cc) in rw none none_ascend
features_by d (Some v) features is e all = each_ascend v features (inside_ok (member_step (codes "features")) (each_member feature_at v) features e) (member_ascends (codes "features") d v is all)

pub features_ascend : (d : Data) (features : List (Feature Condition)) → features_in d ≡ Ok features → AllAscend d → Ascend (feature_names features)
unfolding optional_or
features_ascend d features e all = features_by d (get (codes "features") d) features refl e all
