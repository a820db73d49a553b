-- Every walk of a map of files ends: no limit is passed below its folder, or one is passed first.
use Rattle.std.proofs.Common.{◌≡◌, ◌⊎◌, ◌≤◌, ◌+◌, inl, inr, ℕ, zero, suc, true, false, List, [], ◌∷◌, ◌++◌, length, length-append, ap, sym, ◌∙◌, subst, arith}
use Rattle.std.proofs.lemmas.Bool.{cases_lt}
use Rattle.std.proofs.lemmas.List.{append-nil, append_assoc}
use Rattle.std.proofs.lemmas.List.Elements.{Contains-append_right}
use Rattle.std.specs.Prelude.{Bool, Some}
use Rattle.vk_spec.specs.Paths.{Path, Begins}
use Rattle.vk_spec.specs.Files.{Files, IsTree}
use Rattle.vk_spec.specs.States.{State}
use Rattle.vk_spec.specs.Standing.{disk_of, Entry, IsFolder, IsAs, IsListing}
use Rattle.vk_spec.proofs.ListLemmas.{contains_first}
use Rattle.vk_base.specs.declared.stops.Stop.TheVariants.{Fault}
use Rattle.vk_walk.specs.Walks.{Limits, Limit, deep, entries, files, IsFirst, IsCalm}
use Rattle.vk_walk.specs.Walked.{walk_limits}
use Rattle.vk_walk.specs.Progress.{Upto, Before, Through, Until}
use Rattle.vk_walk.specs.declared.walking.WalkFault.TheVariants.{Missing}
use Rattle.vk_walk.proofs.StepLemmas.{start, enter, next, passed, take_file, leave, finish, files_first, deep_first, entries_first}
use Rattle.vk_folder.proofs.WalkedLemmas.{unseen_on}
use Rattle.vk_abi.proofs.EntriesExist.{listing_exists, folder_or_none}

-- a walk has come so far, or a limit is passed first
abbrev Goes : Limits → Files → Path → (Path → Type 0) → Type 0
Goes most fs folder cut = ((found : List Path) × Upto most (disk_of fs) folder cut found) ⊎ ((l : Limit) × IsFirst most (disk_of fs) folder l)

longer : (folder at : Path) (name : List ℕ) → Begins folder at → Begins folder (at ++ name ∷ [])
longer folder at name b = (b.0 ++ name ∷ [], ap (λ l. l ++ name ∷ []) b.1 ∙ append_assoc folder b.0 (name ∷ []))

module _ (most : Limits) (fs : Files) (folder : Path) (tree : IsTree fs) where
  -- what a walk does with a folder that it comes to
  abbrev Enters : Path → Type 0
  Enters at = (found : List Path) → IsFolder (disk_of fs) at → Begins folder at → Upto most (disk_of fs) folder (Before at) found → Goes most fs folder (Through at)

  one_entry : (path : Path) (kind : Bool) (found : List Path) → Enters path → IsAs (disk_of fs) path kind → Begins folder path → Upto most (disk_of fs) folder (Before path) found → Goes most fs folder (Through path)
  one_entry path true found enters is below u = enters found is below u
  one_entry path false found enters is below u = elim (cases_lt (length found) most.files) [
    | inl room ↦ inl (found ++ path ∷ [], take_file most (disk_of fs) folder path found tree is below room u)
    | inr full ↦ inr (files, files_first most (disk_of fs) folder path found is below full u)
  ]

  all_entries : (at : Path) (done rest : List Entry) (found : List Path) → ((name : List ℕ) → Enters (at ++ name ∷ [])) → Begins folder at → IsListing (disk_of fs) at (done ++ rest)
      → Upto most (disk_of fs) folder (Until at rest) found → Goes most fs folder (Through at)
  all_entries at done [] found enters below listing u = inl (found, leave most (disk_of fs) folder at found u)
  all_entries at done (e ∷ rest) found enters below listing u =
      elim (one_entry (at ++ e.name ∷ []) e.folder found (enters e.name) (listing.entries_of.sound e (Contains-append_right done (e ∷ rest) e (contains_first e rest)))
      (longer folder at e.name below) (next most (disk_of fs) folder at found done e rest listing u)) [
        | inr first ↦ inr first
        | inl more ↦ all_entries at (done ++ e ∷ []) rest more.0 enters below (subst (IsListing (disk_of fs) at) (sym (append_assoc done (e ∷ []) rest)) listing)
            (passed most (disk_of fs) folder at more.0 done e rest listing more.1)
      ]

  one_folder : (at : Path) → length at ≤ length folder + most.depth → ((name : List ℕ) → Enters (at ++ name ∷ [])) → Enters at
  one_folder at near enters found is below u =
      let listing = listing_exists fs at in
      elim (cases_lt most.entries (length listing.0)) [
        | inl many ↦ inr (entries, entries_first most (disk_of fs) folder at found listing.0 is below near listing.1.entries_of many u)
        | inr few ↦ all_entries at [] listing.0 found enters below listing.1 (enter most (disk_of fs) folder at found listing.0 tree is near listing.1 few u)
      ]

  -- a folder below which so many levels may be entered
  enters_at : (left : ℕ) (at : Path) → length at + left ≡ length folder + most.depth → Enters at
  enters_at zero at level = one_folder at (omega (arith, level)) (λ name found is below u.
      inr (deep, deep_first most (disk_of fs) folder (at ++ name ∷ []) found is below (omega (arith, level, length-append at (name ∷ []))) u))
  enters_at (suc left) at level = one_folder at (omega (arith, level)) (λ name. enters_at left (at ++ name ∷ []) (omega (arith, level, length-append at (name ∷ []))))

  folder_ends : IsFolder (disk_of fs) folder → IsCalm most (disk_of fs) folder ⊎ ((l : Limit) × IsFirst most (disk_of fs) folder l)
  folder_ends is =
      elim (enters_at most.depth folder (omega arith) [] is ([], sym (append-nil folder)) (start most (disk_of fs) folder)) [
        | inl done ↦ inl (finish most (disk_of fs) folder done.0 done.1).1
        | inr first ↦ inr first
      ]

-- a state that tells these files, so that what is proved of states holds of them
abbrev telling : Files → State
telling fs = record { told = Some (record { files = fs; log = [] }); changes = 0; faults = 0; calls = 0; widest = 0; sure = true }

pub walk_ends : (fs : Files) (folder : Path) → IsTree fs → IsCalm walk_limits (disk_of fs) folder ⊎ ((l : Limit) × IsFirst walk_limits (disk_of fs) folder l)
walk_ends fs folder tree = elim (folder_or_none fs folder) [
  | inl is ↦ folder_ends walk_limits fs folder tree is
  | inr none ↦ inl (unseen_on folder (Fault Missing) (telling fs) none).0
]
