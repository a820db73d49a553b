-- All that goes into the build of a package, down to the leaves, and its text.
use Rattle.std.specs.Prelude.{◌≡◌, ◌++◌, ℕ, Bool, List, [], ◌∷◌, map}
use Rattle.std.specs.List.{All, Contains}
use Rattle.sha2.specs.Sha256.{sha256}
use Rattle.vk_base.specs.Names.{IsName, port_rule, word_rule}
use Rattle.vk_base.specs.Paths.{IsPath, text_of_path}
use Rattle.vk_base.specs.Tokens.{IsByte}
use Rattle.vk_spec.specs.Manifests.{core}
use Rattle.vk_spec.specs.Settings.{Instance}
use Rattle.vk_spec.specs.Versions.{Version}
use Rattle.vk_resolution.specs.Keys.{Key, Ascends}
use Rattle.vk_resolution.specs.Planning.{instance_key, feature_key}
use Rattle.vk_model.specs.declared.builders.Builder.{Builder}
use Rattle.vk_folder.specs.Folders.{File, ByText}
use Rattle.vk_abi_text.specs.Inputs.{Input, FileDigest, DepDigest}
use Rattle.vk_abi_text.specs.Lines.{abi_text_of}
use Rattle.vk_abi_text.specs.Rights.{IsRightBuilder, IsRightVersion, IsRightFeature}

-- what is a build's own: who builds what, for which triplet, from which files
pub record Own : Type 0 where
  pub builder : Builder
  pub port : List ℕ
  pub version : Version
  pub features : List (List ℕ)
  pub triplet : List ℕ
  -- the bytes of the triplet's file
  pub triplet_bytes : List ℕ
  pub native : Bool
  -- the files of the port's folder
  pub files : List File

-- a build: what is its own, and the builds of what it depends on directly
mutual
  pub data Node : Type 0 where
    node : Own → Nodes → Node

  pub data Nodes : Type 0 where
    no_nodes : Nodes
    and_nodes : Node → Nodes → Nodes

abbrev pub nodes_of : List Node → Nodes
nodes_of [] = no_nodes
nodes_of (n ∷ ns) = and_nodes n (nodes_of ns)

abbrev pub instance_of : Node → Instance
instance_of (node own children) = record { port = own.port; triplet = own.triplet }

-- ---- its text

-- a file's digest
abbrev pub file_digest : File → FileDigest
file_digest f = record { path = f.path; digest = sha256 f.bytes }

-- what is written of a build whose dependencies have these digests
abbrev pub input_of : Own → List DepDigest → Input
input_of own deps = record {
  builder = own.builder;
  port = own.port;
  version = own.version;
  features = own.features;
  triplet = own.triplet;
  triplet_digest = sha256 own.triplet_bytes;
  native = own.native;
  files = map file_digest own.files;
  deps = deps;
}

-- the text of a build, in which each dependency stands by the digest of its own text
abbrev mutual
  pub text_of : Node → List ℕ
  text_of (node own children) = abi_text_of (input_of own (deps_of children))

  pub deps_of : Nodes → List DepDigest
  deps_of no_nodes = []
  deps_of (and_nodes n ns) = record { instance = instance_of n; digest = sha256 (text_of n) } ∷ deps_of ns

-- how a build stands among what another depends on
abbrev pub dep_of : Node → DepDigest
dep_of n = record { instance = instance_of n; digest = sha256 (text_of n) }

-- ---- which nodes are builds of a plan

-- what is its own keeps the rules of its parts: features with `core` first and then by their bytes, files by the texts of their paths
pub record IsRightOwn (own : Own) : Type 0 where
  pub builder : IsRightBuilder own.builder
  pub port : IsName port_rule own.port
  pub version : IsRightVersion own.version
  pub features : All IsRightFeature own.features
  pub core : Contains own.features core
  pub order : Ascends feature_key own.features
  pub triplet : IsName word_rule own.triplet
  pub paths : All (λ f. IsPath f.path) own.files
  pub bytes : All (λ f. All IsByte (text_of_path f.path)) own.files
  pub files : ByText own.files

-- what the values of a program keep of it, whatever plan it is of
pub record HasRightValues (own : Own) : Type 0 where
  pub builder : IsRightBuilder own.builder
  pub port : IsName port_rule own.port
  pub version : IsRightVersion own.version
  pub features : All (IsName word_rule) own.features
  pub triplet : IsName word_rule own.triplet
  pub paths : All (λ f. IsPath f.path) own.files
  pub bytes : All (λ f. All IsByte (text_of_path f.path)) own.files

abbrev pub dep_key : DepDigest → Key
dep_key d = instance_key d.instance

-- the same all the way down, dependencies by port and triplet
abbrev mutual
  pub IsRightNode : Node → Type 0
  IsRightNode (node own children) = IsRightOwn own × Ascends dep_key (deps_of children) × AreRightNodes children

  pub AreRightNodes : Nodes → Type 0
  AreRightNodes no_nodes = Unit {0}
  AreRightNodes (and_nodes n ns) = IsRightNode n × AreRightNodes ns

-- ---- collisions

-- the messages that are hashed for a build: texts, triplet files and files, down to the leaves
abbrev mutual
  pub messages_of : Node → List (List ℕ)
  messages_of (node own children) = text_of (node own children) ∷ own.triplet_bytes ∷ (map (λ f. f.bytes) own.files ++ messages_below children)

  pub messages_below : Nodes → List (List ℕ)
  messages_below no_nodes = []
  messages_below (and_nodes n ns) = messages_of n ++ messages_below ns

-- no two different messages of these have one digest
abbrev pub HasNoCollision : List (List ℕ) → Type 0
HasNoCollision messages = (a b : List ℕ) → Contains messages a → Contains messages b → sha256 a ≡ sha256 b → a ≡ b

-- builds with one text are one build, with all that they depend on, where no two of their messages collide
abbrev pub TextsTellNodes : Type 0
TextsTellNodes = (m n : Node) → IsRightNode m → IsRightNode n → HasNoCollision (messages_of m ++ messages_of n) → text_of m ≡ text_of n → m ≡ n
