-- What is written of an item, by the texts of those before it.
use Rattle.std.specs.Prelude.{◌≡◌, ℕ, List, [], map, flat_map, take, drop, slice_get, Option, Some, None, Result, Ok, Err}
use Rattle.std.specs.List.{All, Contains}
use Rattle.std.specs.Option.{option_to_list}
use Rattle.sha2.specs.Sha256.{sha256}
use Rattle.vk_spec.specs.Paths.{Path}
use Rattle.vk_spec.specs.Settings.{Instance}
use Rattle.vk_spec.specs.Standing.{Disk}
use Rattle.vk_base.specs.declared.limits.Limit.{Limit}
use Rattle.vk_base.specs.declared.stops.Stop.{Stop}
use Rattle.vk_base.specs.declared.stops.Stop.TheVariants as stop
use Rattle.vk_resolution.specs.Planning.{Item}
use Rattle.vk_model.specs.SettingViews.{setting_view}
use Rattle.vk_tree.specs.Trees.{IsTreeDisk}
use Rattle.vk_folder.specs.Folders.{File, AreFilesOf, FolderIs}
use Rattle.vk_abi_text.specs.Inputs.{Input, FileDigest, DepDigest}
use Rattle.vk_abi_text.specs.Lines.{abi_text_of}
use Rattle.vk_abi_text.specs.Rights.{HasRightParts}
use Rattle.vk_abi.specs.Nodes.{Node, instance_of, file_digest, input_of, HasRightValues, IsRightNode}
use Rattle.vk_abi.specs.Plans.{Shared, Placed, Pair, pair_of, own_of, pair_view, HaveTheirFeatures, IsFine, AreNodesFrom, AreNodesOf}
use Rattle.vk_abi.specs.declared.plans.AbiPair.{AbiPair}
use Rattle.vk_abi.specs.declared.plans.Job.{Job}

-- an instance, and the digest of its text
abbrev pub dep_by : Option Instance → Option Pair → Option DepDigest
dep_by None pair = None
dep_by (Some i) None = None
dep_by (Some i) (Some p) = Some (record { instance = i; digest = p.digest })

-- what stands at these places, by the instances of the plan and the texts before the item
abbrev pub deps_by : List Instance → List Pair → List ℕ → List DepDigest
deps_by instances done needs = flat_map (λ n. option_to_list (dep_by (slice_get instances n) (slice_get done n))) needs

-- what is written of an item whose folder has files with these digests
abbrev pub input_by : Shared → Item → List FileDigest → List DepDigest → Input
input_by shared item files deps = record (input_of (own_of shared item []) deps) { files = files }

abbrev pub text_by : Shared → List Instance → List Pair → Item → List FileDigest → List ℕ
text_by shared instances done item files = abi_text_of (input_by shared item files (deps_by instances done item.needs))

abbrev pub pair_by : Shared → List Instance → List Pair → Item → List FileDigest → Pair
pair_by shared instances done item files = record { text = text_by shared instances done item files; digest = sha256 (text_by shared instances done item files) }

-- what is written of an item but for its dependencies keeps the rules of its parts
abbrev pub IsRightItem : Shared → Item → List FileDigest → Type 0
IsRightItem shared item files = HasRightParts (input_by shared item files [])

-- ---- one item of a plan

abbrev pub shared_in : Job → Shared
shared_in job = record { builder = job.builder.now; setting = setting_view job.setting.now; most = job.most }

-- the text of an item behind others, or the limit that its folder passes
abbrev pub PairTold : Shared → List Instance → Placed → List Pair → Result AbiPair (Stop Limit) → Disk → Type 0
PairTold shared instances placed done (Ok pair) d = IsFine shared.most d placed.1 × (files : List File) × AreFilesOf d placed.1 files
    × (pair_view pair ≡ pair_by shared instances done placed.0 (map file_digest files)) × HasRightValues (own_of shared placed.0 files)
PairTold shared instances placed done (Err (stop.Fault limit)) d = IsTreeDisk d × FolderIs shared.most placed.1 (Err limit) d
PairTold shared instances placed done (Err stop.Failed) d = Unit {0}
PairTold shared instances placed done (Err (stop.Memory m)) d = Unit {0}

-- ---- all items of a plan

-- the builds of the first so many items, of which these are the texts
pub record Progress (shared : Shared) (d : Disk) (plan : List Placed) (k : ℕ) (pairs : List Pair) : Type 0 where
  pub nodes : List Node
  pub is : pairs ≡ map pair_of nodes
  pub instances : map instance_of nodes ≡ map (λ x. x.0.instance) (take k plan)
  pub fine : (folder : Path) → Contains (map (λ x. x.1) (take k plan)) folder → IsFine shared.most d folder
  pub right : HaveTheirFeatures (map (λ x. x.0) plan) → All IsRightNode nodes
  pub goes : (all : List Node) → AreNodesFrom shared d nodes (drop k plan) all → AreNodesOf shared d plan all
