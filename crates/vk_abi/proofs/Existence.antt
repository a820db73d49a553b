-- A plan whose ports stand in folders has an answer.
use Rattle.std.proofs.Common.{◌⊎◌, inl, inr, ℕ, List, [], ◌∷◌, ◌++◌, map, refl, ap, subst}
use Rattle.std.proofs.lemmas.Bool.{cases_lt}
use Rattle.std.specs.Prelude.{Ok, Err}
use Rattle.std.specs.List.{Contains}
use Rattle.vk_spec.specs.Paths.{Path}
use Rattle.vk_spec.specs.Files.{Files, IsTree}
use Rattle.vk_spec.specs.Standing.{Disk, disk_of}
use Rattle.vk_spec.proofs.ListLemmas.{contains_nothing, contains_cases}
use Rattle.vk_base.specs.declared.limits.Limit.{Limit}
use Rattle.vk_base.specs.declared.limits.Limit.TheVariants as limit
use Rattle.vk_walk.specs.Walks as walks
use Rattle.vk_walk.specs.Walks.{IsCalm, IsFirst}
use Rattle.vk_walk.specs.Walked.{walk_limits}
use Rattle.vk_resolution.specs.Keys.{in_order}
use Rattle.vk_folder.specs.Folders.{File, AreFilesOf, bytes_of, digest_of, FolderIs}
use Rattle.vk_folder.proofs.FolderLaws.{limit_of, more_bytes}
use Rattle.vk_abi.specs.Nodes.{Node, node, nodes_of}
use Rattle.vk_abi.specs.Plans.{Shared, Placed, pair_of, own_of, node_key, at_places, IsFine, IsFirstLimit, AreNodesFrom}
use Rattle.vk_abi.specs.LawsOnPlans.{ArePaths, TextsExist}
use Rattle.vk_abi.proofs.FilesExist.{files_exist}
use Rattle.vk_abi.proofs.WalkEnds.{walk_ends}

-- ---- one folder

first_told : (most : ℕ) (d : Disk) (folder : Path) (l : walks.Limit) → IsFirst walk_limits d folder l → FolderIs most folder (Err (limit_of l)) d
first_told most d folder walks.deep first = first
first_told most d folder walks.entries first = first
first_told most d folder walks.files first = first

bytes_told : (most : ℕ) (d : Disk) (folder : Path) (fs : List File) → AreFilesOf d folder fs → IsCalm walk_limits d folder → IsFine most d folder ⊎ ((l : Limit) × FolderIs most folder (Err l) d)
bytes_told most d folder fs are calm = elim (cases_lt most (bytes_of fs)) [
  | inl more ↦ inr (limit.Bytes most, (refl, calm, (more_bytes most d folder fs are).1 more))
  | inr small ↦ inl (map digest_of fs, (calm, record { of = fs; are = are; small = small; is = refl }))
]

folder_told : (most : ℕ) (files : Files) (folder : Path) → IsTree files → ArePaths files → IsFine most (disk_of files) folder ⊎ ((l : Limit) × FolderIs most folder (Err l) (disk_of files))
folder_told most files folder tree paths = elim (walk_ends files folder tree) [
  | inl calm ↦ (let fs = files_exist files folder paths in bytes_told most (disk_of files) folder fs.0 fs.1 calm)
  | inr first ↦ inr (limit_of first.0, first_told most (disk_of files) folder first.0 first.1)
]

-- ---- all folders

abbrev AllFine : ℕ → Disk → List Path → Type 0
AllFine most d folders = (folder : Path) → Contains folders folder → IsFine most d folder

one_more : (most : ℕ) (d : Disk) (folder : Path) (folders : List Path) → IsFine most d folder → AllFine most d folders → AllFine most d (folder ∷ folders)
one_more most d folder folders fine all other at = elim (contains_cases folder other folders at) [ inl same ↦ subst (IsFine most d) same fine | inr later ↦ all other later ]

folders_told : (most : ℕ) (files : Files) (folders : List Path) → IsTree files → ArePaths files → AllFine most (disk_of files) folders ⊎ ((l : Limit) × IsFirstLimit most (disk_of files) folders l)
folders_told most files [] tree paths = inl (λ folder at. absurd (contains_nothing folder at))
folders_told most files (folder ∷ folders) tree paths = elim (folder_told most files folder tree paths) [
  | inr first ↦ inr (first.0, record { before = []; folder = folder; after = folders; split = refl; fine = (λ p at. absurd (contains_nothing p at)); tree = tree; passes = first.1 })
  | inl fine ↦ elim (folders_told most files folders tree paths) [
    | inl all ↦ inl (one_more most (disk_of files) folder folders fine all)
    | inr first ↦ (let f = first.1 in
        inr (
          first.0,
          record {
            before = folder ∷ f.before;
            folder = f.folder;
            after = f.after;
            split = ap (λ l. folder ∷ l) f.split;
            fine = one_more most (disk_of files) folder f.before fine f.fine;
            tree = tree;
            passes = f.passes;
          },
        ))
  ]
]

-- ---- the builds

nodes_exist : (shared : Shared) (files : Files) (done : List Node) (plan : List Placed) → ArePaths files → (nodes : List Node) × AreNodesFrom shared (disk_of files) done plan nodes
nodes_exist shared files done [] paths = (done, refl)
nodes_exist shared files done (x ∷ plan) paths =
    let fs = files_exist files x.1 paths in
    let n : Node = node (own_of shared x.0 fs.0) (nodes_of (in_order node_key (at_places done x.0.needs))) in
    let rest = nodes_exist shared files (done ++ n ∷ []) plan paths in
    (rest.0, (n, record { files = fs.0; are = fs.1; is = refl }, rest.1))

pub texts_exist : TextsExist
texts_exist shared plan files tree paths = elim (folders_told shared.most files (map (λ x. x.1) plan) tree paths) [
  | inr first ↦ (Err first.0, first.1)
  | inl fine ↦ (let ns = nodes_exist shared files [] plan paths in (Ok (map pair_of ns.0), record { fine = fine; nodes = ns.0; are = ns.1; is = refl }))
]
