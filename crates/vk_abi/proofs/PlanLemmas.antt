-- What is written of an item is the text of its build.
use Rattle.std.proofs.Common.{◌≡◌, ◌++◌, ◌∷◌, ℕ, zero, suc, List, [], map, refl, sym, ap, ◌∙◌, subst, inl, inr}
use Rattle.std.specs.Prelude.{flat_map, slice_get, Option, Some, None, option_map}
use Rattle.std.specs.List.{Contains}
use Rattle.std.specs.Option.{option_to_list}
use Rattle.std.specs.declared.cmp.Ordering.{Ordering}
use Rattle.std.specs.declared.cmp.Ordering.TheVariants.{Less, Equal, Greater}
use Rattle.std.proofs.lemmas.List.{map-append, append_assoc}
use Rattle.std.proofs.lemmas.List.Elements.{Contains-append_left, Contains-append_right, Contains-append_cases}
use Rattle.std.proofs.lemmas.Option.{slice_get-map}
use Rattle.sha2.specs.Sha256.{sha256}
use Rattle.vk_spec.specs.Lists.{NoRepeats}
use Rattle.vk_spec.proofs.FileLemmas.{path_same}
use Rattle.vk_spec.specs.Settings.{Instance}
use Rattle.vk_spec.proofs.ListLemmas.{contains_nothing, contains_first, contains_later, contains_cases, contains-flat_map}
use Rattle.vk_resolution.specs.Keys.{Key, key_cmp, put_by, put_in, in_order}
use Rattle.vk_resolution.specs.Lines.{ended}
use Rattle.vk_resolution.specs.Planning.{Item}
use Rattle.vk_resolution.proofs.FactLemmas.{instance_key-IsKey}
use Rattle.vk_resolution.proofs.Members.{contains_map, map_contains}
use Rattle.vk_resolution.proofs.Orders.{ascending_one, in_order-ascends, in_order-contains, contains-in_order, put_in-keeps}
use Rattle.vk_abi_text.specs.Inputs.{DepDigest}
use Rattle.vk_abi_text.specs.Lines.{AbiLine, line_text, lines_of, text_key, heading, abi_text_of, dep_line, feature_line, file_line, builder_line, native_line, port_line, triplet_line, version_line}
use Rattle.vk_abi_text.specs.Same.{HaveSame}
use Rattle.vk_folder.specs.Folders.{File}
use Rattle.vk_abi.specs.Nodes.{Own, Node, node, nodes_of, instance_of, file_digest, input_of, text_of, deps_of, dep_of}
use Rattle.vk_abi.specs.Plans.{Shared, pair_of, own_of, node_key, at_places}
use Rattle.vk_abi.specs.Written.{dep_by, deps_by, text_by, pair_by}

-- ---- members

same_map : {X Y : Type 0} (f : X → Y) (xs ys : List X) → HaveSame xs ys → HaveSame (map f xs) (map f ys)
same_map f xs ys same y = (
  (λ h. let p = contains_map f xs y h in subst (Contains (map f ys)) p.2 (map_contains f ys p.0 ((same p.0).0 p.1))),
  (λ h. let p = contains_map f ys y h in subst (Contains (map f xs)) p.2 (map_contains f xs p.0 ((same p.0).1 p.1))),
)

within_front : {X : Type 0} (front xs ys back : List X) → HaveSame xs ys → (z : X) → Contains (front ++ (xs ++ back)) z → Contains (front ++ (ys ++ back)) z
within_front front xs ys back same z h = elim (Contains-append_cases front (xs ++ back) z h) [
  | inl first ↦ Contains-append_left front (ys ++ back) z first
  | inr later ↦ elim (Contains-append_cases xs back z later) [
    | inl in_xs ↦ Contains-append_right front (ys ++ back) z (Contains-append_left ys back z ((same z).0 in_xs))
    | inr in_back ↦ Contains-append_right front (ys ++ back) z (Contains-append_right ys back z in_back)
  ]
]

same_back : {X : Type 0} (xs ys : List X) → HaveSame xs ys → HaveSame ys xs
same_back xs ys same z = ((same z).1, (same z).0)

same_within : {X : Type 0} (front xs ys back : List X) → HaveSame xs ys → HaveSame (front ++ (xs ++ back)) (front ++ (ys ++ back))
same_within front xs ys back same z = (within_front front xs ys back same z, within_front front ys xs back (same_back xs ys same) z)

-- ---- a text depends on what is depended on, and not on its order

text_key-IsKey : (x y : List ℕ) → text_key x ≡ text_key y → x ≡ y
text_key-IsKey x y e = (cc)

one_order : (xs ys : List (List ℕ)) → HaveSame xs ys → in_order text_key xs ≡ in_order text_key ys
one_order xs ys same = ascending_one text_key (in_order text_key xs) (in_order text_key ys) (in_order-ascends text_key xs) (in_order-ascends text_key ys)
    (λ z h. in_order-contains text_key text_key-IsKey ys z ((same z).0 (contains-in_order text_key xs z h)))
    (λ z h. in_order-contains text_key text_key-IsKey xs z ((same z).1 (contains-in_order text_key ys z h)))

front_lines : Own → List AbiLine
front_lines own = builder_line own.builder ∷ native_line own.native ∷ port_line own.port ∷ triplet_line own.triplet (sha256 own.triplet_bytes) ∷ version_line own.version ∷ []

back_lines : Own → List AbiLine
back_lines own = map feature_line own.features ++ map file_line (map file_digest own.files)

lines_are : (own : Own) (ds : List DepDigest) → lines_of (input_of own ds) ≡ front_lines own ++ (map dep_line ds ++ back_lines own)
unfolding front_lines back_lines
lines_are own ds = ap (λ rest. front_lines own ++ rest) (append_assoc (map dep_line ds) (map feature_line own.features) (map file_line (map file_digest own.files)))

pub same_text : (own : Own) (ds es : List DepDigest) → HaveSame ds es → abi_text_of (input_of own ds) ≡ abi_text_of (input_of own es)
same_text own ds es same =
    let texts : in_order text_key (map line_text (front_lines own ++ (map dep_line ds ++ back_lines own))) ≡ in_order text_key (map line_text (front_lines own ++ (map dep_line es ++ back_lines own))) =
    one_order _ _ (same_map line_text _ _ (same_within (front_lines own) (map dep_line ds) (map dep_line es) (back_lines own) (same_map dep_line ds es same))) in
    ap (λ lines. heading ++ flat_map ended (in_order text_key (map line_text lines))) (lines_are own ds)
    ∙ ap (λ ts. heading ++ flat_map ended ts) texts
    ∙ ap (λ lines. heading ++ flat_map ended (in_order text_key (map line_text lines))) (sym (lines_are own es))

-- ---- things put in order

module _ {X : Type 0} (key : X → Key) where
  put_new : (x y : X) (ys : List X) (o : Ordering) → key_cmp (key x) (key y) ≡ o → (o ≡ Equal → x ≡ y) → Contains (put_in key x ys) x → Contains (put_by o x y ys (put_in key x ys)) x
  put_new x y ys Less e one rest = contains_first x (y ∷ ys)
  put_new x y ys Equal e one rest = subst (Contains (y ∷ ys)) (sym (one refl)) (contains_first y ys)
  put_new x y ys Greater e one rest = contains_later y x (put_in key x ys) rest

  -- where things with one key are one, an order keeps them all
  put_in-has : (x : X) (ys : List X) → ((y : X) → Contains ys y → key_cmp (key x) (key y) ≡ Equal → x ≡ y) → Contains (put_in key x ys) x
  put_in-has x [] one = contains_first x []
  put_in-has x (y ∷ ys) one = put_new x y ys (key_cmp (key x) (key y)) refl (λ e. one y (contains_first y ys) e) (put_in-has x ys (λ z h e. one z (contains_later y z ys h) e))

  pub in_order-has : (xs : List X) → ((x y : X) → Contains xs x → Contains xs y → key_cmp (key x) (key y) ≡ Equal → x ≡ y) → (z : X) → Contains xs z → Contains (in_order key xs) z
  in_order-has [] one z h = absurd (contains_nothing z h)
  in_order-has (x ∷ xs) one z h = elim (contains_cases x z xs h) [
    | inl same ↦ subst (Contains (put_in key x (in_order key xs))) same (put_in-has x (in_order key xs) (λ y there e. one x y (contains_first x xs) (contains_later x y xs (contains-in_order key xs y there)) e))
    | inr later ↦ put_in-keeps key x z (in_order key xs) (in_order-has xs (λ a b at_a at_b e. one a b (contains_later x a xs at_a) (contains_later x b xs at_b) e) z later)
  ]

-- ---- what an item depends on

pub deps_nodes : (ns : List Node) → deps_of (nodes_of ns) ≡ map dep_of ns
deps_nodes [] = refl
deps_nodes (n ∷ ns) = ap (λ ds. dep_of n ∷ ds) (deps_nodes ns)

-- the builds are of these instances, place by place
abbrev pub AreAt : List Instance → List Node → Type 0
AreAt instances nodes = (n : ℕ) (m : Node) → slice_get nodes n ≡ Some m → slice_get instances n ≡ Some (instance_of m)

dep_there : (instances : List Instance) (o : Option Node) (i : Option Instance) → ((m : Node) → o ≡ Some m → i ≡ Some (instance_of m)) → option_to_list (dep_by i (option_map pair_of o)) ≡ map dep_of (option_to_list o)
dep_there instances None None at = refl
dep_there instances None (Some i) at = refl
dep_there instances (Some m) None at = let clash = at m refl in (cc)
dep_there instances (Some m) (Some i) at = let same : i ≡ instance_of m = some_same i (instance_of m) (at m refl) in ap (λ j. record { instance = j; digest = (dep_of m).digest } ∷ []) same
  where
    some_same : (x y : Instance) → Some x ≡ Some y → x ≡ y
    some_same x y e = (cc)

deps_there : (instances : List Instance) (nodes : List Node) → AreAt instances nodes → (needs : List ℕ) → deps_by instances (map pair_of nodes) needs ≡ map dep_of (at_places nodes needs)
deps_there instances nodes at [] = refl
deps_there instances nodes at (n ∷ needs) =
    let one : option_to_list (dep_by (slice_get instances n) (slice_get (map pair_of nodes) n)) ≡ map dep_of (option_to_list (slice_get nodes n)) =
    ap (λ p. option_to_list (dep_by (slice_get instances n) p)) (slice_get-map pair_of nodes n) ∙ dep_there instances (slice_get nodes n) (slice_get instances n) (λ m e. at n m e) in
    ap (λ ds. ds ++ deps_by instances (map pair_of nodes) needs) one
    ∙ ap (λ ds. map dep_of (option_to_list (slice_get nodes n)) ++ ds) (deps_there instances nodes at needs)
    ∙ sym (map-append dep_of (option_to_list (slice_get nodes n)) (at_places nodes needs))

-- ---- different places have different instances

pub get_contains : {X : Type 0} (xs : List X) (n : ℕ) (x : X) → slice_get xs n ≡ Some x → Contains xs x
get_contains [] n x e = (cc)
get_contains (y ∷ xs) zero x e = let same : y ≡ x = (cc) in subst (Contains (y ∷ xs)) same (contains_first y xs)
get_contains (y ∷ xs) (suc n) x e = contains_later y x xs (get_contains xs n x e)

one_place : {X : Type 0} (xs : List X) → NoRepeats xs → (m n : ℕ) (x : X) → slice_get xs m ≡ Some x → slice_get xs n ≡ Some x → m ≡ n
one_place [] each m n x e f = (cc)
one_place (y ∷ xs) each zero zero x e f = refl
one_place (y ∷ xs) each zero (suc n) x e f = let same : y ≡ x = (cc) in absurd (each.0 (subst (Contains xs) (sym same) (get_contains xs n x f)))
one_place (y ∷ xs) each (suc m) zero x e f = let same : y ≡ x = (cc) in absurd (each.0 (subst (Contains xs) (sym same) (get_contains xs m x e)))
one_place (y ∷ xs) each (suc m) (suc n) x e f = ap suc (one_place xs each.1 m n x e f)

pub at_place : {X : Type 0} (xs : List X) (places : List ℕ) (x : X) → Contains (at_places xs places) x → (n : ℕ) × (slice_get xs n ≡ Some x)
at_place xs places x h =
    let p = contains-flat_map (λ n. option_to_list (slice_get xs n)) places x h in
    (p.0, listed_is (slice_get xs p.0) x p.2)
  where
    listed_is : {X : Type 0} (o : Option X) (x : X) → Contains (option_to_list o) x → o ≡ Some x
    listed_is None x h = absurd (contains_nothing x h)
    listed_is (Some y) x h = elim (contains_cases y x [] h) [ inl same ↦ ap (λ z. Some z) same | inr none ↦ absurd (contains_nothing x none) ]

one_node : (instances : List Instance) (nodes : List Node) → NoRepeats instances → AreAt instances nodes → (needs : List ℕ) (m n : Node)
    → Contains (at_places nodes needs) m → Contains (at_places nodes needs) n → key_cmp (node_key m) (node_key n) ≡ Equal → m ≡ n
one_node instances nodes each at needs m n there_m there_n e =
    let p = at_place nodes needs m there_m in
    let q = at_place nodes needs n there_n in
    let same : instance_of m ≡ instance_of n = instance_key-IsKey (instance_of m) (instance_of n) (path_same (node_key m) (node_key n) e) in
    let places : p.0 ≡ q.0 = one_place instances each p.0 q.0 (instance_of m) (at p.0 m p.1) (at q.0 n q.1 ∙ ap (λ i. Some i) (sym same)) in
    let both : Some m ≡ Some n = sym p.1 ∙ ap (slice_get nodes) places ∙ q.1 in
    some_node m n both
  where
    some_node : (x y : Node) → Some x ≡ Some y → x ≡ y
    some_node x y f = (cc)

-- ---- what is written of an item

pub written_is : (shared : Shared) (instances : List Instance) (nodes : List Node) (item : Item) (files : List File) → NoRepeats instances → AreAt instances nodes
    → pair_by shared instances (map pair_of nodes) item (map file_digest files) ≡ pair_of (node (own_of shared item files) (nodes_of (in_order node_key (at_places nodes item.needs))))
written_is shared instances nodes item files each at =
    let some = at_places nodes item.needs in
    let same : HaveSame (map dep_of some) (map dep_of (in_order node_key some)) = same_map dep_of some (in_order node_key some) (λ z. (
      in_order-has node_key some (λ x y h k e. one_node instances nodes each at item.needs x y h k e) z,
      contains-in_order node_key some z,
    )) in
    let text : text_by shared instances (map pair_of nodes) item (map file_digest files) ≡ text_of (node (own_of shared item files) (nodes_of (in_order node_key some))) =
    ap (λ ds. abi_text_of (input_of (own_of shared item files) ds)) (deps_there instances nodes at item.needs)
    ∙ same_text (own_of shared item files) (map dep_of some) (map dep_of (in_order node_key some)) same
    ∙ ap (λ ds. abi_text_of (input_of (own_of shared item files) ds)) (sym (deps_nodes (in_order node_key some))) in
    ap (λ t. record { text = t; digest = sha256 t }) text
