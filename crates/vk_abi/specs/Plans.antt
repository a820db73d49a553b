-- The builds of a plan, and their texts.
use Rattle.std.specs.Prelude.{◌≡◌, ◌++◌, ℕ, List, [], ◌∷◌, map, flat_map, bytes_eq, slice_get, IfOk, Result, Ok, Err, if◌then◌else◌}
use Rattle.std.specs.List.{All, Contains}
use Rattle.std.specs.Option.{option_to_list}
use Rattle.sha2.specs.Sha256.{sha256}
use Rattle.vk_spec.specs.Paths.{Path, Begins}
use Rattle.vk_spec.specs.Settings.{Setting, Triplet}
use Rattle.vk_spec.specs.Standing.{Disk}
use Rattle.vk_spec.specs.Manifests.{core, default}
use Rattle.vk_base.specs.declared.limits.Limit.{Limit}
use Rattle.vk_base.specs.declared.stops.Stop.{Stop}
use Rattle.vk_base.specs.declared.stops.Stop.TheVariants as stop
use Rattle.vk_resolution.specs.Keys.{Key, Ascends, in_order}
use Rattle.vk_resolution.specs.Planning.{Item, feature_key, instance_key}
use Rattle.vk_model.specs.declared.builders.Builder.{Builder}
use Rattle.vk_tree.specs.Trees.{IsTreeDisk}
use Rattle.vk_folder.specs.Folders.{File, AreFilesOf, FolderIs}
use Rattle.vk_folder.specs.declared.digests.FileDigest as told
use Rattle.vk_abi.specs.Nodes.{Own, Node, node, nodes_of, instance_of, text_of, IsRightNode}
use Rattle.vk_abi.specs.declared.plans.AbiPair.{AbiPair}

-- what every build of a plan shares
pub record Shared : Type 0 where
  pub builder : Builder
  pub setting : Setting
  -- the most bytes of one port's folder
  pub most : ℕ

-- the triplet of this name, which is the target's or the host's
abbrev pub triplet_named : Setting → List ℕ → Triplet
triplet_named setting name = if bytes_eq name setting.target.name then setting.target else setting.host

-- what is the own of an item with these files in its folder
abbrev pub own_of : Shared → Item → List File → Own
own_of shared item files = record {
  builder = shared.builder;
  port = item.instance.port;
  version = item.version;
  features = item.features;
  triplet = item.instance.triplet;
  triplet_bytes = (triplet_named shared.setting item.instance.triplet).bytes;
  native = bytes_eq item.instance.triplet shared.setting.host.name;
  files = files;
}

-- builds by port and triplet
abbrev pub node_key : Node → Key
node_key n = instance_key (instance_of n)

-- those that stand at these places
abbrev pub at_places : {X : Type 0} → List X → List ℕ → List X
at_places xs places = flat_map (λ n. option_to_list (slice_get xs n)) places

-- an item and the folder of its port
abbrev pub Placed : Type 0
Placed = Item × Path

-- the build of an item behind others: what is its own, and those of them that it needs
pub record IsNodeOf (shared : Shared) (d : Disk) (placed : Placed) (done : List Node) (n : Node) : Type 0 where
  pub files : List File
  pub are : AreFilesOf d placed.1 files
  pub is : n ≡ node (own_of shared placed.0 files) (nodes_of (in_order node_key (at_places done placed.0.needs)))

-- the builds of items, each behind those before it
abbrev pub AreNodesFrom : Shared → Disk → List Node → List Placed → List Node → Type 0
AreNodesFrom shared d done [] nodes = nodes ≡ done
AreNodesFrom shared d done (x ∷ xs) nodes = (n : Node) × IsNodeOf shared d x done n × AreNodesFrom shared d (done ++ n ∷ []) xs nodes

-- the builds of a plan whose ports stand in these folders
abbrev pub AreNodesOf : Shared → Disk → List Placed → List Node → Type 0
AreNodesOf shared d plan nodes = AreNodesFrom shared d [] plan nodes

-- an item of a plan has the feature that every port has, and not the one that asks for others; its features stand in order
pub record HasItsFeatures (item : Item) : Type 0 where
  pub core : Contains item.features core
  pub no_default : Contains item.features default → ⊥
  pub order : Ascends feature_key item.features

abbrev pub HaveTheirFeatures : List Item → Type 0
HaveTheirFeatures items = All HasItsFeatures items

-- a text and its digest
pub record Pair : Type 0 where
  pub text : List ℕ
  pub digest : List ℕ

abbrev pub pair_of : Node → Pair
pair_of n = record { text = text_of n; digest = sha256 (text_of n) }

abbrev pub pair_view : AbiPair → Pair
pair_view p = record { text = p.text; digest = p.digest.bytes }

-- a path that one of these folders begins
abbrev pub IsBelowSome : List Path → Path → Type 0
IsBelowSome folders path = (folder : Path) × Contains folders folder × Begins folder path

-- the folder passes no limit
abbrev pub IsFine : ℕ → Disk → Path → Type 0
IsFine most d folder = (digests : List told.FileDigest) × FolderIs most folder (Ok digests) d

-- the first folder of a plan that passes a limit passes this one
pub record IsFirstLimit (most : ℕ) (d : Disk) (folders : List Path) (limit : Limit) : Type 0 where
  pub before : List Path
  pub folder : Path
  pub after : List Path
  pub split : folders ≡ before ++ folder ∷ after
  pub fine : (earlier : Path) → Contains before earlier → IsFine most d earlier
  -- no file lies below a file, so that only one limit is passed first
  pub tree : IsTreeDisk d
  pub passes : FolderIs most folder (Err limit) d

-- no folder passes a limit, and these are the texts of the plan's builds
pub record AreTexts (shared : Shared) (d : Disk) (plan : List Placed) (pairs : List Pair) : Type 0 where
  pub fine : (folder : Path) → Contains (map (λ x. x.1) plan) folder → IsFine shared.most d folder
  pub nodes : List Node
  pub are : AreNodesOf shared d plan nodes
  pub is : pairs ≡ map pair_of nodes

-- the texts, or the limit that is passed first
abbrev pub TextsAre : Shared → List Placed → Result (List Pair) Limit → Disk → Type 0
TextsAre shared plan (Ok pairs) d = AreTexts shared d plan pairs
TextsAre shared plan (Err limit) d = IsFirstLimit shared.most d (map (λ x. x.1) plan) limit

-- the same of a call that may have been stopped
abbrev pub TextsTold : Shared → List Placed → Result (List AbiPair) (Stop Limit) → Disk → Type 0
TextsTold shared plan (Ok pairs) d = TextsAre shared plan (Ok (map pair_view pairs)) d
TextsTold shared plan (Err (stop.Fault limit)) d = TextsAre shared plan (Err limit) d
TextsTold shared plan (Err stop.Failed) d = Unit {0}
TextsTold shared plan (Err (stop.Memory m)) d = Unit {0}

-- the texts are those of builds of the plan that keep the rules of all their parts
pub record AreOfRightNodes (shared : Shared) (d : Disk) (plan : List Placed) (pairs : List Pair) : Type 0 where
  pub nodes : List Node
  pub are : AreNodesOf shared d plan nodes
  pub right : All IsRightNode nodes
  pub is : pairs ≡ map pair_of nodes

abbrev pub OfRightNodes : Shared → List Placed → Result (List AbiPair) (Stop Limit) → Disk → Type 0
OfRightNodes shared plan result d = IfOk result (λ pairs. AreOfRightNodes shared d plan (map pair_view pairs))
