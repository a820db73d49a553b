-- The texts of a plan over a tree, step by step.
use Rattle.std.proofs.Common.{◌≡◌, ◌<◌, ◌++◌, ◌∷◌, ◌+◌, ℕ, List, [], map, length, get_or, refl, sym, ap, ◌∙◌, subst, false, arith}
use Rattle.std.specs.Prelude.{Bool, Result, Ok, Err}
use Rattle.std.specs.List.{All, zip}
use Rattle.std.proofs.lemmas.List.Elements.{All-map}
use Rattle.std.proofs.lemmas.List.{map-append}
use Rattle.vk_spec.specs.Lists.{NoRepeats}
use Rattle.vk_spec.specs.Paths.{Path, Begins}
use Rattle.vk_spec.specs.Settings.{Instance}
use Rattle.vk_spec.specs.Standing.{Disk, disk_of, OnFiles}
use Rattle.vk_spec.proofs.OptionLemmas.{of_each}
use Rattle.vk_spec.specs.States.{State, OnlyRead}
use Rattle.vk_base.specs.declared.stops.Stop.{Stop}
use Rattle.vk_base.specs.declared.stops.Stop.TheVariants as stop
use Rattle.vk_base.specs.Paths.{IsPath}
use Rattle.vk_base.specs.declared.limits.Limit.{Limit}
use Rattle.vk_tree.proofs.OnFilesLemmas.{files_then, files_both, files_two, files_back}
use Rattle.vk_resolution.specs.Planning.{order_of}
use Rattle.vk_model.specs.FaultViews.{item_view}
use Rattle.vk_model.specs.SettingViews.{instance_view}
use Rattle.vk_model.specs.declared.plans.Item.{Item}
use Rattle.vk_tree.specs.Trees.{IsTreeDisk}
use Rattle.vk_folder.specs.Folders.{AtPaths, File, FolderIs, FolderTold, ReadsOnly, digest_of}
use Rattle.vk_folder.specs.declared.digests.FileDigest.{FileDigest}
use Rattle.vk_folder.proofs.ReadLemmas.{reads_then, reads_wider}
use Rattle.vk_abi_text.specs.Inputs as plain
use Rattle.vk_abi_text.specs.Views.{file_view}
use Rattle.vk_abi.specs.Nodes.{file_digest}
use Rattle.vk_abi.specs.Plans.{HaveTheirFeatures, IsBelowSome, Shared, Placed, Pair, pair_view, OfRightNodes, TextsTold}
use Rattle.vk_abi.specs.Written.{pair_by, IsRightItem, PairTold, Progress}
use Rattle.vk_abi.specs.declared.plans.AbiPair.{AbiPair}
use Rattle.vk_abi.proofs.ProgressLemmas.{begun, one_more, all_written, rightly_written, limit_passed, zip_get, zip_length}
use Rattle.vk_abi.proofs.RightNodes.{right_values}

-- ---- one item

files_seen : (fs : List File) → map file_view (map digest_of fs) ≡ map file_digest fs
files_seen [] = refl
files_seen (f ∷ fs) = ap (λ ds. file_digest f ∷ ds) (files_seen fs)

abbrev IsAtPath : plain.FileDigest → Type 0
IsAtPath f = IsPath f.path

pub pair_told : (shared : Shared) (instances : List Instance) (placed : Placed) (done : List Pair) (digests : List FileDigest) (pair : AbiPair) (s : State)
    → OnFiles (FolderIs shared.most placed.1 (Ok digests)) s → pair_view pair ≡ pair_by shared instances done placed.0 (map file_view digests) → IsRightItem shared placed.0 (map file_view digests) → AtPaths digests
    → OnFiles (PairTold shared instances placed done (Ok pair)) s
pair_told shared instances placed done digests pair s folder is right paths =
    files_then (FolderIs shared.most placed.1 (Ok digests)) (PairTold shared instances placed done (Ok pair)) s
    (λ d h.
    let same = ap (map file_view) h.1.is ∙ files_seen h.1.of in (
      (digests, h),
      h.1.of,
      h.1.are,
      is ∙ ap (pair_by shared instances done placed.0) same,
      right_values shared placed.0 h.1.of (subst (IsRightItem shared placed.0) same right) (subst (All IsAtPath) same (All-map IsAtPath file_view digests paths)),
    )) folder

-- the folder of an item passes a limit
pub pair_limited : (shared : Shared) (instances : List Instance) (placed : Placed) (done : List Pair) (e : Stop Limit) (s : State)
    → OnFiles IsTreeDisk s → OnFiles (FolderTold shared.most placed.1 (Err e)) s → OnFiles (PairTold shared instances placed done (Err e)) s
pair_limited shared instances placed done (stop.Fault limit) s tree folder = files_both IsTreeDisk (FolderIs shared.most placed.1 (Err limit)) s tree folder
pair_limited shared instances placed done stop.Failed s tree folder = of_each s.told (λ t. tt)
pair_limited shared instances placed done (stop.Memory m) s tree folder = of_each s.told (λ t. tt)

-- ---- all items

abbrev pub plan_of : List Item → List Path → List Placed
plan_of items folders = zip (map item_view items) folders

instances_of : (items : List Item) (folders : List Path) → length folders ≡ length items → map (λ x. x.0.instance) (plan_of items folders) ≡ map (λ i. instance_view i.inst) items
instances_of [] folders same = refl
instances_of (i ∷ items) [] same = absurd (omega (arith, same))
instances_of (i ∷ items) (f ∷ folders) same = ap (λ is. instance_view i.inst ∷ is) (instances_of items folders (omega (arith, same)))

items_of : (items : List Item) (folders : List Path) → length folders ≡ length items → map (λ x. x.0) (plan_of items folders) ≡ map item_view items
items_of [] folders same = refl
items_of (i ∷ items) [] same = absurd (omega (arith, same))
items_of (i ∷ items) (f ∷ folders) same = ap (λ is. item_view i ∷ is) (items_of items folders (omega (arith, same)))

ordered : (items : List Item) → order_of (map item_view items) ≡ map (λ i. instance_view i.inst) items
ordered [] = refl
ordered (i ∷ items) = ap (λ is. instance_view i.inst ∷ is) (ordered items)

-- no two items of the plan have one instance
abbrev pub Distinct : List Item → Type 0
Distinct items = NoRepeats (order_of (map item_view items))

distinct_in : (items : List Item) (folders : List Path) → length folders ≡ length items → Distinct items → NoRepeats (map (λ x. x.0.instance) (plan_of items folders))
distinct_in items folders same each = subst NoRepeats (ordered items ∙ sym (instances_of items folders same)) each

-- the same of what is the same
pub told_as : (shared : Shared) (one other : List Instance) (x y : Placed) (done more : List Pair) (r : Result AbiPair (Stop Limit)) (s : State) → one ≡ other → x ≡ y → done ≡ more
    → OnFiles (PairTold shared one x done r) s → OnFiles (PairTold shared other y more r) s
told_as shared one other x y done more r s instances placed pairs h =
    subst (λ ps. OnFiles (PairTold shared other y ps r) s) pairs (subst (λ p. OnFiles (PairTold shared other p done r) s) placed (subst (λ is. OnFiles (PairTold shared is x done r) s) instances h))

-- what is known of the first so many items
abbrev pub Comes : Shared → List Item → List Path → ℕ → List AbiPair → State → Type 0
Comes shared items folders k pairs s = Distinct items → OnFiles (λ d. Progress shared d (plan_of items folders) k (map pair_view pairs)) s

pub comes_first : (shared : Shared) (items : List Item) (folders : List Path) (s : State) → Comes shared items folders 0 [] s
comes_first shared items folders s each = of_each s.told (λ t. begun shared (disk_of t.files) (plan_of items folders))

at_item : (items : List Item) (folders : List Path) (k : ℕ) (item : Item) (folder : Path) → length folders ≡ length items → k < length items → get_or items k item ≡ item → get_or folders k folder ≡ folder
    → get_or (plan_of items folders) k (item_view item, folder) ≡ (item_view item, folder)
at_item items folders k item folder same within one other = zip_get item_view items folders k item folder within same ∙ ap (λ i. (item_view i, get_or folders k folder)) one ∙ ap (λ f. (item_view item, f)) other

within_plan : (items : List Item) (folders : List Path) (k : ℕ) → length folders ≡ length items → k < length items → k < length (plan_of items folders)
within_plan items folders k same within = omega (arith, within, zip_length item_view items folders same)

pub comes_next : (shared : Shared) (items : List Item) (folders : List Path) (k : ℕ) (item : Item) (folder : Path) (pairs : List AbiPair) (pair : AbiPair) (a b : State)
    → length folders ≡ length items → k < length items → get_or items k item ≡ item → get_or folders k folder ≡ folder → OnlyRead false a b → Comes shared items folders k pairs a
    → OnFiles (PairTold shared (map (λ i. instance_view i.inst) items) (item_view item, folder) (map pair_view pairs) (Ok pair)) b
    → Comes shared items folders (k + 1) (pairs ++ pair ∷ []) a
comes_next shared items folders k item folder pairs pair a b same within one other read comes told each =
    let x : Placed = (item_view item, folder) in
    files_two (λ d. Progress shared d (plan_of items folders) k (map pair_view pairs)) (PairTold shared (map (λ i. instance_view i.inst) items) x (map pair_view pairs) (Ok pair))
    (λ d. Progress shared d (plan_of items folders) (k + 1) (map pair_view (pairs ++ pair ∷ []))) a
    (λ d p t. subst (Progress shared d (plan_of items folders) (k + 1)) (sym (map-append pair_view pairs (pair ∷ [])))
    (one_more shared d (plan_of items folders) k x (map pair_view pairs) pair (within_plan items folders k same within) (at_item items folders k item folder same within one other) (distinct_in items folders same each) p
    (subst (λ is. PairTold shared is x (map pair_view pairs) (Ok pair) d) (sym (instances_of items folders same)) t)))
    (comes each) (files_back (PairTold shared (map (λ i. instance_view i.inst) items) x (map pair_view pairs) (Ok pair)) read told)

-- an item whose text wasn't made
pub comes_stopped : (shared : Shared) (items : List Item) (folders : List Path) (k : ℕ) (item : Item) (folder : Path) (pairs : List AbiPair) (e : Stop Limit) (a b : State)
    → length folders ≡ length items → k < length items → get_or items k item ≡ item → get_or folders k folder ≡ folder → OnlyRead false a b → Comes shared items folders k pairs a
    → OnFiles (PairTold shared (map (λ i. instance_view i.inst) items) (item_view item, folder) (map pair_view pairs) (Err e)) b
    → Distinct items → OnFiles (TextsTold shared (plan_of items folders) (Err e)) a
comes_stopped shared items folders k item folder pairs e a b same within one other read comes told each =
    let x : Placed = (item_view item, folder) in
    files_two (λ d. Progress shared d (plan_of items folders) k (map pair_view pairs)) (PairTold shared (map (λ i. instance_view i.inst) items) x (map pair_view pairs) (Err e))
    (TextsTold shared (plan_of items folders) (Err e)) a
    (λ d p t. by d e p t) (comes each) (files_back (PairTold shared (map (λ i. instance_view i.inst) items) x (map pair_view pairs) (Err e)) read told)
  where
    by : (d : Disk) (e : Stop Limit) → Progress shared d (plan_of items folders) k (map pair_view pairs) → PairTold shared (map (λ i. instance_view i.inst) items) (item_view item, folder) (map pair_view pairs) (Err e) d
        → TextsTold shared (plan_of items folders) (Err e) d
    by d (stop.Fault limit) p t = limit_passed shared d (plan_of items folders) k (item_view item, folder) (map pair_view pairs) limit (within_plan items folders k same within) (at_item items folders k item folder same within one other) p t.0 t.1
    by d stop.Failed p t = tt
    by d (stop.Memory m) p t = tt

pub comes_last : (shared : Shared) (items : List Item) (folders : List Path) (k : ℕ) (pairs : List AbiPair) (s : State) → length folders ≡ length items → length items ≡ k
    → Comes shared items folders k pairs s → Distinct items → OnFiles (TextsTold shared (plan_of items folders) (Ok pairs)) s
comes_last shared items folders k pairs s same whole comes each =
    files_then (λ d. Progress shared d (plan_of items folders) k (map pair_view pairs)) (TextsTold shared (plan_of items folders) (Ok pairs)) s
    (λ d p. all_written shared d (plan_of items folders) k (map pair_view pairs) (zip_length item_view items folders same ∙ whole) p) (comes each)

pub comes_right : (shared : Shared) (items : List Item) (folders : List Path) (k : ℕ) (pairs : List AbiPair) (s : State) → length folders ≡ length items → length items ≡ k
    → Comes shared items folders k pairs s → Distinct items → HaveTheirFeatures (map item_view items) → OnFiles (OfRightNodes shared (plan_of items folders) (Ok pairs)) s
comes_right shared items folders k pairs s same whole comes each its =
    files_then (λ d. Progress shared d (plan_of items folders) k (map pair_view pairs)) (OfRightNodes shared (plan_of items folders) (Ok pairs)) s
    (λ d p. rightly_written shared d (plan_of items folders) k (map pair_view pairs) (zip_length item_view items folders same ∙ whole) (subst HaveTheirFeatures (sym (items_of items folders same)) its) p) (comes each)

-- ---- which files are read

-- below these folders, and then below one of them
pub reads_next : (folders : List Path) (k : ℕ) (folder : Path) {failed : Bool} {a b c : State} → k < length folders → get_or folders k folder ≡ folder
    → ReadsOnly (IsBelowSome folders) false a b → ReadsOnly (Begins folder) failed b c → ReadsOnly (IsBelowSome folders) failed a c
reads_next folders k folder within is x y = reads_then x (reads_wider (λ path below. (folder, (k, within, is), below)) y)
