-- The builds of a plan keep the rules of all their parts.
use Rattle.std.proofs.Common.{◌≡◌, ◌∷◌, ℕ, List, [], map, subst, sym}
use Rattle.std.specs.List.{All, Contains}
use Rattle.std.specs.declared.cmp.Ordering.TheVariants.{Less}
use Rattle.std.proofs.lemmas.List.Elements.{All-cons, All-contains, All-contains_itself, All-head, All-nil, All-tail, All-weaker}
use Rattle.vk_spec.specs.Manifests.{default}
use Rattle.vk_spec.specs.Paths.{Path}
use Rattle.vk_spec.proofs.ListLemmas.{contains_first, contains_later}
use Rattle.vk_base.specs.Names.{IsName, word_rule}
use Rattle.vk_base.specs.Paths.{IsPath, text_of_path}
use Rattle.vk_base.specs.Tokens.{IsByte}
use Rattle.vk_resolution.specs.Keys.{Key, key_cmp, Ascends, in_order}
use Rattle.vk_resolution.specs.Planning.{Item}
use Rattle.vk_resolution.proofs.Members.{contains_map}
use Rattle.vk_resolution.proofs.Orders.{contains-in_order, in_order-ascends}
use Rattle.vk_folder.specs.Folders.{File, ByText}
use Rattle.vk_abi_text.specs.Inputs.{FileDigest}
use Rattle.vk_abi_text.specs.Rights.{IsRightFeature}
use Rattle.vk_abi.specs.Nodes.{Node, node, nodes_of, deps_of, dep_of, dep_key, file_digest, HasRightValues, IsRightOwn, IsRightNode, AreRightNodes}
use Rattle.vk_abi.specs.Plans.{Shared, own_of, node_key, at_places, HasItsFeatures}
use Rattle.vk_abi.specs.Written.{IsRightItem}
use Rattle.vk_abi.proofs.PlanLemmas.{at_place, deps_nodes, get_contains}

-- ---- what is a build's own

right_features : (fs : List (List ℕ)) → All (IsName word_rule) fs → (Contains fs default → ⊥) → All IsRightFeature fs
right_features [] words none = All-nil IsRightFeature
right_features (f ∷ fs) words none =
    All-cons IsRightFeature f fs (record { name = All-head (IsName word_rule) f fs words; not_default = λ is. none (subst (Contains (f ∷ fs)) is (contains_first f fs)) })
    (right_features fs (All-tail (IsName word_rule) f fs words) (λ h. none (contains_later f default fs h)))

right_own : (shared : Shared) (item : Item) (files : List File) → HasRightValues (own_of shared item files) → HasItsFeatures item → ByText files → IsRightOwn (own_of shared item files)
right_own shared item files values its order = record {
  builder = values.builder;
  port = values.port;
  version = values.version;
  features = right_features item.features values.features its.no_default;
  core = its.core;
  order = its.order;
  triplet = values.triplet;
  paths = values.paths;
  bytes = values.bytes;
  files = order;
}

files_back : (Q : Path → Type 0) (fs : List File) → All (λ (f : FileDigest). Q f.path) (map file_digest fs) → All (λ (f : File). Q f.path) fs
files_back Q [] all = All-nil (λ (f : File). Q f.path)
files_back Q (f ∷ fs) all = All-cons (λ (f : File). Q f.path) f fs (All-head (λ (d : FileDigest). Q d.path) (file_digest f) (map file_digest fs) all) (files_back Q fs (All-tail (λ (d : FileDigest). Q d.path) (file_digest f) (map file_digest fs) all))

-- what is known of what was written
pub right_values : (shared : Shared) (item : Item) (files : List File) → IsRightItem shared item (map file_digest files) → All (λ (f : FileDigest). IsPath f.path) (map file_digest files) → HasRightValues (own_of shared item files)
right_values shared item files right paths = record {
  builder = right.builder;
  port = right.port;
  version = right.version;
  features = right.features;
  triplet = right.triplet;
  paths = files_back IsPath files paths;
  bytes = files_back (λ p. All IsByte (text_of_path p)) files right.paths;
}

-- ---- dependencies

ascends_map : {X Y : Type 0} (f : X → Y) (key : Y → Key) (xs : List X) → Ascends (λ x. key (f x)) xs → Ascends key (map f xs)
ascends_map f key [] order = tt
ascends_map f key (x ∷ xs) order = (
  (λ y h. let p = contains_map f xs y h in subst (λ z. key_cmp (key (f x)) (key z) ≡ Less) p.2 (order.0 p.0 p.1)),
  ascends_map f key xs order.1,
)

deps_ascend : (ns : List Node) → Ascends node_key ns → Ascends dep_key (deps_of (nodes_of ns))
deps_ascend ns order = subst (Ascends dep_key) (sym (deps_nodes ns)) (ascends_map dep_of dep_key ns order)

right_nodes : (ns : List Node) → All IsRightNode ns → AreRightNodes (nodes_of ns)
right_nodes [] all = tt
right_nodes (n ∷ ns) all = (All-head IsRightNode n ns all, right_nodes ns (All-tail IsRightNode n ns all))

-- a build behind others that keep the rules
pub right_node : (shared : Shared) (item : Item) (files : List File) (done : List Node) → HasRightValues (own_of shared item files) → HasItsFeatures item → ByText files → All IsRightNode done
    → IsRightNode (node (own_of shared item files) (nodes_of (in_order node_key (at_places done item.needs))))
right_node shared item files done values its order right =
    let some = at_places done item.needs in
    let members : (n : Node) → Contains (in_order node_key some) n → IsRightNode n =
    λ n h. (let p = at_place done item.needs n (contains-in_order node_key some n h) in All-contains IsRightNode done n right (get_contains done p.0 n p.1)) in (
      right_own shared item files values its order,
      deps_ascend (in_order node_key some) (in_order-ascends node_key some),
      right_nodes (in_order node_key some) (All-weaker (Contains (in_order node_key some)) IsRightNode members (in_order node_key some) (All-contains_itself (in_order node_key some))),
    )
