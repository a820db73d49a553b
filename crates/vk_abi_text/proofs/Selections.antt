-- What lines say of each kind, and the lines of an input.
use Rattle.std.proofs.Common.{◌≡◌, ◌⊎◌, ◌++◌, ◌∷◌, ℕ, List, [], map, inl, inr, refl, ap, sym, ◌∙◌, subst}
use Rattle.std.specs.Prelude.{flat_map}
use Rattle.std.specs.List.{Contains}
use Rattle.std.proofs.lemmas.List.{append-nil}
use Rattle.std.proofs.lemmas.Grind.{flat_map-append}
use Rattle.vk_spec.proofs.ListLemmas.{contains_first, contains_later, contains_cases, contains_nothing, flat_map-contains}
use Rattle.vk_resolution.proofs.Members.{contains_map, contains_single, map_contains}
use Rattle.vk_abi_text.specs.Inputs.{DepDigest, FileDigest, Input}
use Rattle.vk_abi_text.specs.Lines.{AbiLine, builder_line, dep_line, feature_line, file_line, lines_of, native_line, port_line, triplet_line, version_line}
use Rattle.vk_abi_text.specs.Gathered.{builders_in, deps_in, features_in, files_in, natives_in, ports_in, triplets_in, versions_in}

-- ---- members of lists one after the other

pub in_front : {X : Type 0} (xs ys : List X) (x : X) → Contains xs x → Contains (xs ++ ys) x
in_front [] ys x h = absurd (contains_nothing x h)
in_front (y ∷ xs) ys x h = elim (contains_cases y x xs h) [
  | inl same ↦ subst (Contains (y ∷ (xs ++ ys))) same (contains_first y (xs ++ ys))
  | inr later ↦ contains_later y x (xs ++ ys) (in_front xs ys x later)
]

pub in_back : {X : Type 0} (xs ys : List X) (x : X) → Contains ys x → Contains (xs ++ ys) x
in_back [] ys x h = h
in_back (y ∷ xs) ys x h = contains_later y x (xs ++ ys) (in_back xs ys x h)

pub in_either : {X : Type 0} (xs ys : List X) (x : X) → Contains (xs ++ ys) x → Contains xs x ⊎ Contains ys x
in_either [] ys x h = inr h
in_either (y ∷ xs) ys x h = elim (contains_cases y x (xs ++ ys) h) [
  | inl same ↦ inl (subst (Contains (y ∷ xs)) same (contains_first y xs))
  | inr later ↦ elim (in_either xs ys x later) [ inl one ↦ inl (contains_later y x xs one) | inr other ↦ inr other ]
]

-- ---- the lines of a kind

-- a line of a kind says its value
pub selected : {X : Type 0} (sel : AbiLine → List X) (make : X → AbiLine) (lines : List AbiLine) (x : X) → sel (make x) ≡ x ∷ [] → Contains lines (make x) → Contains (flat_map sel lines) x
selected sel make lines x is h = flat_map-contains sel lines (make x) x h (subst (λ l. Contains l x) (sym is) (contains_first x []))

-- all that is selected of lines of one kind
pub all_of : {X Y : Type 0} (sel : AbiLine → List Y) (make : X → AbiLine) (value : X → Y) (xs : List X) → ((x : X) → sel (make x) ≡ value x ∷ []) → flat_map sel (map make xs) ≡ map value xs
all_of sel make value [] is = refl
all_of sel make value (x ∷ xs) is = ap (λ l. l ++ flat_map sel (map make xs)) (is x) ∙ ap (λ l. value x ∷ l) (all_of sel make value xs is)

pub none_of : {X Y : Type 0} (sel : AbiLine → List Y) (make : X → AbiLine) (xs : List X) → ((x : X) → sel (make x) ≡ []) → flat_map sel (map make xs) ≡ []
none_of sel make [] is = refl
none_of sel make (x ∷ xs) is = ap (λ l. l ++ flat_map sel (map make xs)) (is x) ∙ none_of sel make xs is

map_id : {X : Type 0} (xs : List X) → map (λ x. x) xs ≡ xs
map_id [] = refl
map_id (x ∷ xs) = ap (λ l. x ∷ l) (map_id xs)

-- ---- the lines of an input: five, and those of its lists

abbrev pub list_lines : Input → List AbiLine
list_lines i = map dep_line i.deps ++ map feature_line i.features ++ map file_line i.files

of_lists : {Y : Type 0} (sel : AbiLine → List Y) (i : Input) (xs ys zs : List Y) → flat_map sel (map dep_line i.deps) ≡ xs → flat_map sel (map feature_line i.features) ≡ ys → flat_map sel (map file_line i.files) ≡ zs
    → flat_map sel (list_lines i) ≡ xs ++ ys ++ zs
of_lists sel i xs ys zs one two three =
    flat_map-append sel (map dep_line i.deps ++ map feature_line i.features) (map file_line i.files)
    ∙ ap (λ l. l ++ flat_map sel (map file_line i.files)) (flat_map-append sel (map dep_line i.deps) (map feature_line i.features))
    ∙ ap (λ l. (l ++ flat_map sel (map feature_line i.features)) ++ flat_map sel (map file_line i.files)) one
    ∙ ap (λ l. (xs ++ l) ++ flat_map sel (map file_line i.files)) two
    ∙ ap (λ l. (xs ++ ys) ++ l) three

no_lists : {Y : Type 0} (sel : AbiLine → List Y) (i : Input) → ((d : DepDigest) → sel (dep_line d) ≡ []) → ((f : List ℕ) → sel (feature_line f) ≡ []) → ((f : FileDigest) → sel (file_line f) ≡ []) → flat_map sel (list_lines i) ≡ []
no_lists sel i one two three = of_lists sel i [] [] [] (none_of sel dep_line i.deps one) (none_of sel feature_line i.features two) (none_of sel file_line i.files three)

pub builder_of : (i : Input) → flat_map builders_in (lines_of i) ≡ i.builder ∷ []
builder_of i = ap (λ l. i.builder ∷ l) (no_lists builders_in i (λ d. refl) (λ f. refl) (λ f. refl))

pub native_of : (i : Input) → flat_map natives_in (lines_of i) ≡ i.native ∷ []
native_of i = ap (λ l. i.native ∷ l) (no_lists natives_in i (λ d. refl) (λ f. refl) (λ f. refl))

pub port_of : (i : Input) → flat_map ports_in (lines_of i) ≡ i.port ∷ []
port_of i = ap (λ l. i.port ∷ l) (no_lists ports_in i (λ d. refl) (λ f. refl) (λ f. refl))

pub triplet_of : (i : Input) → flat_map triplets_in (lines_of i) ≡ (i.triplet, i.triplet_digest) ∷ []
triplet_of i = ap (λ l. (i.triplet, i.triplet_digest) ∷ l) (no_lists triplets_in i (λ d. refl) (λ f. refl) (λ f. refl))

pub version_of : (i : Input) → flat_map versions_in (lines_of i) ≡ i.version ∷ []
version_of i = ap (λ l. i.version ∷ l) (no_lists versions_in i (λ d. refl) (λ f. refl) (λ f. refl))

pub deps_of : (i : Input) → flat_map deps_in (lines_of i) ≡ i.deps
deps_of i =
    of_lists deps_in i i.deps [] [] (all_of deps_in dep_line (λ d. d) i.deps (λ d. refl) ∙ map_id i.deps) (none_of deps_in feature_line i.features (λ f. refl)) (none_of deps_in file_line i.files (λ f. refl))
    ∙ append-nil (i.deps ++ []) ∙ append-nil i.deps

pub features_of : (i : Input) → flat_map features_in (lines_of i) ≡ i.features
features_of i =
    of_lists features_in i [] i.features [] (none_of features_in dep_line i.deps (λ d. refl)) (all_of features_in feature_line (λ f. f) i.features (λ f. refl) ∙ map_id i.features) (none_of features_in file_line i.files (λ f. refl))
    ∙ append-nil i.features

pub files_of : (i : Input) → flat_map files_in (lines_of i) ≡ i.files
files_of i =
    of_lists files_in i [] [] i.files (none_of files_in dep_line i.deps (λ d. refl)) (none_of files_in feature_line i.features (λ f. refl)) (all_of files_in file_line (λ f. f) i.files (λ f. refl) ∙ map_id i.files)

-- ---- which lines an input has

abbrev five : Input → List AbiLine
five i = builder_line i.builder ∷ native_line i.native ∷ port_line i.port ∷ triplet_line i.triplet i.triplet_digest ∷ version_line i.version ∷ []

in_lists : (i : Input) (l : AbiLine) → Contains (list_lines i) l → Contains (lines_of i) l
in_lists i l h = in_back (five i) (list_lines i) l h

in_five : (i : Input) (done rest : List AbiLine) (l : AbiLine) → five i ≡ done ++ l ∷ rest → Contains (lines_of i) l
in_five i done rest l e = in_front (five i) (list_lines i) l (subst (λ ls. Contains ls l) (sym e) (in_back done (l ∷ rest) l (contains_first l rest)))

pub has_builder : (i : Input) → Contains (lines_of i) (builder_line i.builder)
has_builder i = in_five i [] (native_line i.native ∷ port_line i.port ∷ triplet_line i.triplet i.triplet_digest ∷ version_line i.version ∷ []) (builder_line i.builder) refl

pub has_native : (i : Input) → Contains (lines_of i) (native_line i.native)
has_native i = in_five i (builder_line i.builder ∷ []) (port_line i.port ∷ triplet_line i.triplet i.triplet_digest ∷ version_line i.version ∷ []) (native_line i.native) refl

pub has_port : (i : Input) → Contains (lines_of i) (port_line i.port)
has_port i = in_five i (builder_line i.builder ∷ native_line i.native ∷ []) (triplet_line i.triplet i.triplet_digest ∷ version_line i.version ∷ []) (port_line i.port) refl

pub has_triplet : (i : Input) → Contains (lines_of i) (triplet_line i.triplet i.triplet_digest)
has_triplet i = in_five i (builder_line i.builder ∷ native_line i.native ∷ port_line i.port ∷ []) (version_line i.version ∷ []) (triplet_line i.triplet i.triplet_digest) refl

pub has_version : (i : Input) → Contains (lines_of i) (version_line i.version)
has_version i = in_five i (builder_line i.builder ∷ native_line i.native ∷ port_line i.port ∷ triplet_line i.triplet i.triplet_digest ∷ []) [] (version_line i.version) refl

pub has_dep : (i : Input) (d : DepDigest) → Contains i.deps d → Contains (lines_of i) (dep_line d)
has_dep i d h = in_lists i (dep_line d) (in_front (map dep_line i.deps ++ map feature_line i.features) (map file_line i.files) (dep_line d) (in_front (map dep_line i.deps) (map feature_line i.features) (dep_line d) (map_contains dep_line i.deps d h)))

pub has_feature : (i : Input) (f : List ℕ) → Contains i.features f → Contains (lines_of i) (feature_line f)
has_feature i f h =
    in_lists i (feature_line f) (in_front (map dep_line i.deps ++ map feature_line i.features) (map file_line i.files) (feature_line f) (in_back (map dep_line i.deps) (map feature_line i.features) (feature_line f) (map_contains feature_line i.features f h)))

pub has_file : (i : Input) (f : FileDigest) → Contains i.files f → Contains (lines_of i) (file_line f)
has_file i f h = in_lists i (file_line f) (in_back (map dep_line i.deps ++ map feature_line i.features) (map file_line i.files) (file_line f) (map_contains file_line i.files f h))

-- what holds of all of an input's lines
module _ (i : Input) (P : AbiLine → Type 0) where
  of_five : P (builder_line i.builder) → P (native_line i.native) → P (port_line i.port) → P (triplet_line i.triplet i.triplet_digest) → P (version_line i.version) → (l : AbiLine) → Contains (five i) l → P l
  of_five builder native port triplet version l here =
      elim (contains_cases (builder_line i.builder) l (native_line i.native ∷ port_line i.port ∷ triplet_line i.triplet i.triplet_digest ∷ version_line i.version ∷ []) here) [
        | inl is ↦ subst P is builder
        | inr a ↦ elim (contains_cases (native_line i.native) l (port_line i.port ∷ triplet_line i.triplet i.triplet_digest ∷ version_line i.version ∷ []) a) [
          | inl is ↦ subst P is native
          | inr b ↦ elim (contains_cases (port_line i.port) l (triplet_line i.triplet i.triplet_digest ∷ version_line i.version ∷ []) b) [
            | inl is ↦ subst P is port
            | inr c ↦ elim (contains_cases (triplet_line i.triplet i.triplet_digest) l (version_line i.version ∷ []) c) [
              | inl is ↦ subst P is triplet
              | inr d ↦ subst P (contains_single (version_line i.version) l d) version
            ]
          ]
        ]
      ]

  of_map : {X : Type 0} (make : X → AbiLine) (xs : List X) → ((x : X) → Contains xs x → P (make x)) → (l : AbiLine) → Contains (map make xs) l → P l
  of_map make xs each l h = let it = contains_map make xs l h in subst P it.2 (each it.0 it.1)

  pub each_line : P (builder_line i.builder) → P (native_line i.native) → P (port_line i.port) → P (triplet_line i.triplet i.triplet_digest) → P (version_line i.version)
      → ((d : DepDigest) → Contains i.deps d → P (dep_line d)) → ((f : List ℕ) → Contains i.features f → P (feature_line f)) → ((f : FileDigest) → Contains i.files f → P (file_line f))
      → (l : AbiLine) → Contains (lines_of i) l → P l
  each_line builder native port triplet version dep feature file l h = elim (in_either (five i) (list_lines i) l h) [
    | inl one ↦ of_five builder native port triplet version l one
    | inr other ↦ elim (in_either (map dep_line i.deps ++ map feature_line i.features) (map file_line i.files) l other) [
      | inl front ↦ elim (in_either (map dep_line i.deps) (map feature_line i.features) l front) [
        | inl here ↦ of_map dep_line i.deps dep l here
        | inr here ↦ of_map feature_line i.features feature l here
      ]
      | inr here ↦ of_map file_line i.files file l here
    ]
  ]
