-- A gathering has one answer.
use Rattle.std.proofs.Common.{◌≡◌, [], ◌∷◌, ℕ, List, map, refl, ap, sym, ◌∙◌}
use Rattle.std.specs.Prelude.{Result, Ok, Err}
use Rattle.vk_spec.specs.Paths.{Path}
use Rattle.vk_spec.specs.Standing.{Disk}
use Rattle.vk_base.specs.declared.limits.Limit.{Limit}
use Rattle.vk_base.specs.declared.limits.Limit.TheVariants as limit
use Rattle.vk_tree.specs.Trees.{IsTreeDisk}
use Rattle.vk_folder.specs.Folders as folders
use Rattle.vk_folder.specs.Folders.{digest_of, FolderIs}
use Rattle.vk_folder.specs.declared.digests.FileDigest.{FileDigest}
use Rattle.vk_folder.proofs.FolderLaws.{files_are_one, answer_is_one}
use Rattle.vk_entry.specs.Packages.{File}
use Rattle.vk_gather.specs.GatherIs.{folder_file, GatherIs}

-- ---- a package's files are those of a folder

abbrev file_back : folders.File → File
file_back f = record { path = f.path; bytes = f.bytes }

back_again : (files : List File) → map file_back (map folder_file files) ≡ files
back_again [] = refl
back_again (f ∷ files) = ap (λ l. f ∷ l) (back_again files)

package_one : (files others : List File) → map folder_file files ≡ map folder_file others → files ≡ others
package_one files others is = sym (back_again files) ∙ ap (map file_back) is ∙ back_again others

-- ---- what it comes to is what a folder's digests come to

abbrev digested : Result (List File) Limit → Result (List FileDigest) Limit
digested (Ok files) = Ok (map digest_of (map folder_file files))
digested (Err over) = Err over

as_folder : (most : ℕ) (folder : Path) (r : Result (List File) Limit) (d : Disk) → GatherIs most folder r d → FolderIs most folder (digested r) d
as_folder most folder (Ok files) d h = (h.0, record { of = map folder_file files; are = h.1.are; small = h.1.small; is = refl })
as_folder most folder (Err limit.Depth) d h = h
as_folder most folder (Err limit.Entries) d h = h
as_folder most folder (Err limit.Files) d h = h
as_folder most folder (Err (limit.Bytes n)) d h = h
as_folder most folder (Err (limit.Facts n)) d h = absurd h
as_folder most folder (Err limit.Tmp) d h = absurd h
as_folder most folder (Err limit.Damaged) d h = absurd h

one_by : (most : ℕ) (folder : Path) (d : Disk) (one other : Result (List File) Limit) → digested one ≡ digested other → GatherIs most folder one d → GatherIs most folder other d → one ≡ other
one_by most folder d (Ok files) (Ok others) same h k = ap Ok (package_one files others (files_are_one d folder (map folder_file files) (map folder_file others) h.1.are k.1.are))
one_by most folder d (Ok files) (Err over) same h k = (cc)
one_by most folder d (Err over) (Ok files) same h k = (cc)
one_by most folder d (Err one) (Err other) same h k = (let limits : one ≡ other = (cc) in ap Err limits)

pub gather_one : (most : ℕ) (folder : Path) (d : Disk) (one other : Result (List File) Limit) → IsTreeDisk d → GatherIs most folder one d → GatherIs most folder other d → one ≡ other
gather_one most folder d one other tree h k =
    one_by most folder d one other (answer_is_one most folder (digested one) (digested other) d tree (as_folder most folder one d h) (as_folder most folder other d k)) h k
