-- Builds with one text are one build.
use Rattle.std.proofs.Common.{◌≡◌, ◌++◌, ◌∷◌, ℕ, List, [], map, refl, ap, subst}
use Rattle.std.specs.List.{All, Contains}
use Rattle.std.specs.declared.cmp.Ordering.TheVariants.{Less, Equal}
use Rattle.std.specs.Ordering.{ordering_then}
use Rattle.std.proofs.lemmas.List.Elements.{All-map, All-cons, All-nil, Contains-append_left, Contains-append_right}
use Rattle.vk_base.specs.Paths.{IsPath, text_of_path}
use Rattle.vk_base.specs.Tokens.{IsByte}
use Rattle.vk_spec.specs.Lists.{NoRepeats}
use Rattle.vk_spec.specs.Paths.{Path}
use Rattle.vk_spec.proofs.ListLemmas.{contains_first, contains_later}
use Rattle.vk_walk.specs.Walks.{text_order}
use Rattle.vk_resolution.specs.Keys.{Key, key_cmp, Ascends}
use Rattle.vk_resolution.specs.Planning.{instance_key, feature_key}
use Rattle.vk_resolution.proofs.Orders.{before_itself, ascending_one, ascends-NoRepeats}
use Rattle.vk_resolution.proofs.Members.{contains_map}
use Rattle.vk_folder.specs.Folders.{File, ByText}
use Rattle.vk_abi_text.specs.Rights.{IsRightInput, IsRightFile, IsRightDep}
use Rattle.vk_abi_text.specs.Same.{TextsTellInputs}
use Rattle.vk_abi.specs.Nodes.{Own, Node, node, Nodes, no_nodes, and_nodes, file_digest, input_of, text_of, deps_of, dep_of, dep_key, IsRightNode, AreRightNodes, messages_of, messages_below, HasNoCollision, TextsTellNodes}
use Rattle.vk_abi.proofs.Digests.{is_digest}

-- ---- lists in order

abbrev pub path_key : Path → Key
path_key p = text_of_path p ∷ []

text_less : (p q : Path) → text_order p q ≡ Less → key_cmp (path_key p) (path_key q) ≡ Less
text_less p q e = ap (λ o. ordering_then o Equal) e

files_ascend : (fs : List File) → ByText fs → Ascends (λ d. path_key d.path) (map file_digest fs)
files_ascend [] order = tt
files_ascend (f ∷ fs) order = (
  (λ d h. let p = contains_map file_digest fs d h in subst (λ e. key_cmp (path_key f.path) (path_key e.path) ≡ Less) p.2 (text_less f.path p.0.path (order.0 p.0 p.1))),
  files_ascend fs order.1,
)

-- things in an order that sees them by one part have different parts
parts_differ : {X Y : Type 0} (part : X → Y) (key : Y → Key) (xs : List X) → Ascends (λ x. key (part x)) xs → NoRepeats (map part xs)
parts_differ part key [] order = tt
parts_differ part key (x ∷ xs) order = (
  (λ h. let p = contains_map part xs (part x) h in before_itself (key (part x)) (subst (λ y. key_cmp (key (part x)) (key y) ≡ Less) p.2 (order.0 p.0 p.1))),
  parts_differ part key xs order.1,
)

-- ---- a right node is written as a right input

right_files : (fs : List File) → All (λ f. IsPath f.path) fs → All (λ f. All IsByte (text_of_path f.path)) fs → All IsRightFile (map file_digest fs)
right_files fs paths bytes = All-map IsRightFile file_digest fs (λ k d within. record { path = paths k d within; bytes = bytes k d within; digest = is_digest _ })

right_deps : (ns : Nodes) → AreRightNodes ns → All IsRightDep (deps_of ns)
right_deps no_nodes right = All-nil IsRightDep
right_deps (and_nodes (node own children) ns) right =
    All-cons IsRightDep _ (deps_of ns) (record { instance = (right.0.0.port, right.0.0.triplet); digest = is_digest _ }) (right_deps ns right.1)

pub right_input : (own : Own) (children : Nodes) → IsRightNode (node own children) → IsRightInput (input_of own (deps_of children))
right_input own children right = record {
  builder = right.0.builder;
  port = right.0.port;
  version = right.0.version;
  features = right.0.features;
  core = right.0.core;
  each_feature = ascends-NoRepeats feature_key own.features right.0.order;
  triplet = right.0.triplet;
  triplet_digest = is_digest own.triplet_bytes;
  files = right_files own.files right.0.paths right.0.bytes;
  each_path = parts_differ (λ d. d.path) path_key (map file_digest own.files) (files_ascend own.files right.0.files);
  deps = right_deps children right.2;
  each_instance = parts_differ (λ d. d.instance) instance_key (deps_of children) right.1;
}

-- ---- equal digests are digests of equal bytes

file_is : (f g : File) → f.path ≡ g.path → f.bytes ≡ g.bytes → f ≡ g
file_is f g paths bytes = λ i. record { path = paths i; bytes = bytes i }

-- files are known by their digests
files_by : (messages : List (List ℕ)) → HasNoCollision messages → (fs gs : List File)
    → ((b : List ℕ) → Contains (map (λ f. f.bytes) fs) b → Contains messages b) → ((b : List ℕ) → Contains (map (λ f. f.bytes) gs) b → Contains messages b)
    → map file_digest fs ≡ map file_digest gs → fs ≡ gs
files_by messages clear [] [] left right e = refl
files_by messages clear [] (g ∷ gs) left right e = (cc)
files_by messages clear (f ∷ fs) [] left right e = (cc)
files_by messages clear (f ∷ fs) (g ∷ gs) left right e =
    let first : file_digest f ≡ file_digest g = (cc) in
    let later : map file_digest fs ≡ map file_digest gs = (cc) in
    let bytes = clear f.bytes g.bytes (left f.bytes (contains_first f.bytes (map (λ x. x.bytes) fs))) (right g.bytes (contains_first g.bytes (map (λ x. x.bytes) gs))) (ap (λ d. d.digest) first) in
    let one = file_is f g (ap (λ d. d.path) first) bytes in
    let rest = files_by messages clear fs gs (λ b h. left b (contains_later f.bytes b _ h)) (λ b h. right b (contains_later g.bytes b _ h)) later in
    λ i. one i ∷ rest i

text_first : (n : Node) → Contains (messages_of n) (text_of n)
text_first (node own children) = contains_first (text_of (node own children)) (own.triplet_bytes ∷ (map (λ f. f.bytes) own.files ++ messages_below children))

later_in : (own : Own) (children : Nodes) (b : List ℕ) → Contains (map (λ f. f.bytes) own.files ++ messages_below children) b → Contains (messages_of (node own children)) b
later_in own children b h =
    contains_later (text_of (node own children)) b (own.triplet_bytes ∷ (map (λ f. f.bytes) own.files ++ messages_below children)) (contains_later own.triplet_bytes b (map (λ f. f.bytes) own.files ++ messages_below children) h)

-- the messages below a node are among its own
below_in : (own : Own) (children : Nodes) (b : List ℕ) → Contains (messages_below children) b → Contains (messages_of (node own children)) b
below_in own children b h = later_in own children b (Contains-append_right (map (λ f. f.bytes) own.files) (messages_below children) b h)

files_in : (own : Own) (children : Nodes) (b : List ℕ) → Contains (map (λ f. f.bytes) own.files) b → Contains (messages_of (node own children)) b
files_in own children b h = later_in own children b (Contains-append_left (map (λ f. f.bytes) own.files) (messages_below children) b h)

triplet_in : (own : Own) (children : Nodes) → Contains (messages_of (node own children)) own.triplet_bytes
triplet_in own children =
    contains_later (text_of (node own children)) own.triplet_bytes (own.triplet_bytes ∷ (map (λ f. f.bytes) own.files ++ messages_below children)) (contains_first own.triplet_bytes (map (λ f. f.bytes) own.files ++ messages_below children))

-- ---- equal texts are texts of equal builds

abbrev AreAmong : List (List ℕ) → List (List ℕ) → Type 0
AreAmong messages some = (b : List ℕ) → Contains some b → Contains messages b

mutual
  same_node : (tells : TextsTellInputs) (messages : List (List ℕ)) → HasNoCollision messages → (m n : Node) → IsRightNode m → IsRightNode n
      → AreAmong messages (messages_of m) → AreAmong messages (messages_of n) → text_of m ≡ text_of n → m ≡ n
  same_node tells messages clear (node o ms) (node p ns) right_m right_n among_m among_n e =
      let same = tells (input_of o (deps_of ms)) (input_of p (deps_of ns)) (right_input o ms right_m) (right_input p ns right_n) e in
      let deps = ascending_one dep_key (deps_of ms) (deps_of ns) right_m.1 right_n.1 (λ d. (same.deps d).0) (λ d. (same.deps d).1) in
      let features = ascending_one feature_key o.features p.features right_m.0.order right_n.0.order (λ f. (same.features f).0) (λ f. (same.features f).1) in
      let digests = ascending_one (λ d. path_key d.path) (map file_digest o.files) (map file_digest p.files) (files_ascend o.files right_m.0.files) (files_ascend p.files right_n.0.files) (λ d. (same.files d).0) (λ d. (same.files d).1) in
      let files = files_by messages clear o.files p.files (λ b h. among_m b (files_in o ms b h)) (λ b h. among_n b (files_in p ns b h)) digests in
      let bytes = clear o.triplet_bytes p.triplet_bytes (among_m o.triplet_bytes (triplet_in o ms)) (among_n p.triplet_bytes (triplet_in p ns)) same.triplet_digest in
      let children = same_nodes tells messages clear ms ns right_m.2 right_n.2 (λ b h. among_m b (below_in o ms b h)) (λ b h. among_n b (below_in p ns b h)) deps in
      λ i. node (record {
        builder = same.builder i;
        port = same.port i;
        version = same.version i;
        features = features i;
        triplet = same.triplet i;
        triplet_bytes = bytes i;
        native = same.native i;
        files = files i;
      }) (children i)

  same_nodes : (tells : TextsTellInputs) (messages : List (List ℕ)) → HasNoCollision messages → (ms ns : Nodes) → AreRightNodes ms → AreRightNodes ns
      → AreAmong messages (messages_below ms) → AreAmong messages (messages_below ns) → deps_of ms ≡ deps_of ns → ms ≡ ns
  same_nodes tells messages clear no_nodes no_nodes right_m right_n among_m among_n e = refl
  same_nodes tells messages clear no_nodes (and_nodes n ns) right_m right_n among_m among_n e = (cc)
  same_nodes tells messages clear (and_nodes m ms) no_nodes right_m right_n among_m among_n e = (cc)
  same_nodes tells messages clear (and_nodes m ms) (and_nodes n ns) right_m right_n among_m among_n e =
      let first : dep_of m ≡ dep_of n = (cc) in
      let later : deps_of ms ≡ deps_of ns = (cc) in
      let in_m : AreAmong messages (messages_of m) = λ b h. among_m b (Contains-append_left (messages_of m) (messages_below ms) b h) in
      let in_n : AreAmong messages (messages_of n) = λ b h. among_n b (Contains-append_left (messages_of n) (messages_below ns) b h) in
      let text = clear (text_of m) (text_of n) (in_m (text_of m) (text_first m)) (in_n (text_of n) (text_first n)) (ap (λ d. d.digest) first) in
      let one = same_node tells messages clear m n right_m.0 right_n.0 in_m in_n text in
      let rest = same_nodes tells messages clear ms ns right_m.1 right_n.1
      (λ b h. among_m b (Contains-append_right (messages_of m) (messages_below ms) b h)) (λ b h. among_n b (Contains-append_right (messages_of n) (messages_below ns) b h)) later in
      λ i. and_nodes (one i) (rest i)

pub texts_tell_nodes : TextsTellInputs → TextsTellNodes
texts_tell_nodes tells m n right_m right_n clear e =
    same_node tells (messages_of m ++ messages_of n) clear m n right_m right_n
    (λ b h. Contains-append_left (messages_of m) (messages_of n) b h) (λ b h. Contains-append_right (messages_of m) (messages_of n) b h) e
