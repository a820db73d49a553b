-- The files of a folder, with their bytes and in the order of their texts, exist in each map of files that stand at paths.
use Rattle.std.proofs.Common.{◌≡◌, List, [], ◌∷◌, ◌++◌, refl, ap, sym, ◌∙◌, subst}
use Rattle.std.specs.Prelude.{ℕ, Option, Some, None, IsSome, flat_map}
use Rattle.std.specs.List.{Contains}
use Rattle.std.specs.FinMap as fin
use Rattle.vk_spec.specs.Paths.{Path}
use Rattle.vk_spec.specs.Files.{Files}
use Rattle.vk_spec.specs.Standing.{disk_of}
use Rattle.vk_spec.proofs.FileLemmas.{path_same}
use Rattle.vk_spec.proofs.ListLemmas.{contains_nothing, contains_first, contains-flat_map, flat_map-contains}
use Rattle.vk_base.specs.Paths.{text_of_path}
use Rattle.vk_resolution.specs.Keys.{Key, Ascends, in_order}
use Rattle.vk_resolution.proofs.Members.{contains_single}
use Rattle.vk_resolution.proofs.Orders.{in_order-ascends, contains-in_order}
use Rattle.vk_walk.specs.Walks.{text_order}
use Rattle.vk_folder.specs.Folders.{File, StandsBelow, ByText, AreFilesOf}
use Rattle.vk_folder.proofs.FolderLemmas.{below_same}
use Rattle.vk_abi.specs.LawsOnPlans.{ArePaths}
use Rattle.vk_abi.proofs.EntriesExist.{first_less}
use Rattle.vk_abi.proofs.PlanLemmas.{in_order-has}
use Rattle.vk_abi.proofs.RestLemmas.{rests, rest_listed}
use Rattle.vk_abi.proofs.SeenTexts.{seen_same}

abbrev text_key : File → Key
text_key f = text_of_path f.path ∷ []

abbrev file_with : List ℕ → Path → Option (List ℕ) → List File
file_with part rest None = []
file_with part rest (Some bytes) = record { path = (46 ∷ []) ∷ part ∷ rest; bytes = bytes } ∷ []

abbrev files_at : Files → Path → Path → List File
files_at files folder [] = []
files_at files folder (part ∷ rest) = file_with part rest (fin.get files (folder ++ part ∷ rest))

abbrev files_below : Files → Path → List File
files_below files folder = flat_map (files_at files folder) (rests files folder)

with_stands : (files : Files) (folder : Path) (part : List ℕ) (rest : Path) (found : Option (List ℕ)) (f : File) → fin.get files (folder ++ part ∷ rest) ≡ found → Contains (file_with part rest found) f → StandsBelow (disk_of files) folder f
with_stands files folder part rest None f e at = absurd (contains_nothing f at)
with_stands files folder part rest (Some bytes) f e at = subst (StandsBelow (disk_of files) folder) (contains_single (record { path = (46 ∷ []) ∷ part ∷ rest; bytes = bytes }) f at) (part, rest, refl, e)

at_stands : (files : Files) (folder rest : Path) (f : File) → Contains (files_at files folder rest) f → StandsBelow (disk_of files) folder f
at_stands files folder [] f at = absurd (contains_nothing f at)
at_stands files folder (part ∷ rest) f at = with_stands files folder part rest (fin.get files (folder ++ part ∷ rest)) f refl at

stands : (files : Files) (folder : Path) (f : File) → Contains (files_below files folder) f → StandsBelow (disk_of files) folder f
stands files folder f at = let r = contains-flat_map (files_at files folder) (rests files folder) f at in at_stands files folder r.0 f r.2

stands_at : (files : Files) (folder : Path) (f : File) (s : StandsBelow (disk_of files) folder f) → Contains (files_at files folder (s.0 ∷ s.1)) f
stands_at files folder f s =
    subst (λ found. Contains (file_with s.0 s.1 found) f) (sym s.3)
    (subst (Contains (record { path = (46 ∷ []) ∷ s.0 ∷ s.1; bytes = f.bytes } ∷ [])) (λ i. record { path = sym s.2 i; bytes = f.bytes }) (contains_first (record { path = (46 ∷ []) ∷ s.0 ∷ s.1; bytes = f.bytes }) []))

-- files below a folder whose texts are the same are one
one_file : (files : Files) (folder : Path) (f g : File) → ArePaths files → StandsBelow (disk_of files) folder f → StandsBelow (disk_of files) folder g → text_of_path f.path ≡ text_of_path g.path → f ≡ g
one_file files folder f g paths one other e =
    let same = seen_same folder one.0 one.1 other.0 other.1
    (paths (folder ++ one.0 ∷ one.1) (subst IsSome (sym one.3) refl)) (paths (folder ++ other.0 ∷ other.1) (subst IsSome (sym other.3) refl))
    (ap text_of_path (sym one.2) ∙ e ∙ ap text_of_path other.2) in
    below_same (disk_of files) folder f g one other (one.2 ∙ ap (λ l. (46 ∷ []) ∷ l) same ∙ sym other.2)

listed : (files : Files) (folder : Path) (f : File) → ArePaths files → StandsBelow (disk_of files) folder f → Contains (in_order text_key (files_below files folder)) f
listed files folder f paths s =
    in_order-has text_key (files_below files folder)
    (λ g h at there e. one_file files folder g h paths (stands files folder g at) (stands files folder h there) (let same = path_same (text_key g) (text_key h) e in (cc))) f
    (flat_map-contains (files_at files folder) (rests files folder) (s.0 ∷ s.1) f (rest_listed files folder (s.0 ∷ s.1) (subst IsSome (sym s.3) refl)) (stands_at files folder f s))

by_text : (fs : List File) → Ascends text_key fs → ByText fs
by_text [] order = tt
by_text (f ∷ fs) order = ((λ g at. first_less (text_order f.path g.path) (order.0 g at)), by_text fs order.1)

pub files_exist : (files : Files) (folder : Path) → ArePaths files → (fs : List File) × AreFilesOf (disk_of files) folder fs
files_exist files folder paths = (
  in_order text_key (files_below files folder),
  record {
    order = by_text (in_order text_key (files_below files folder)) (in_order-ascends text_key (files_below files folder));
    sound = λ f at. stands files folder f (contains-in_order text_key (files_below files folder) f at);
    all = λ f s. listed files folder f paths s;
  },
)
