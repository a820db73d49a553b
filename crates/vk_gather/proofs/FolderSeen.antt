-- The files that a walk found, as they are seen from its folder: whose texts differ, and where there is no folder.
use Rattle.std.proofs.Common.{◌≡◌, ◌≤◌, inl, inr, ℕ, List, [], ◌∷◌, ◌++◌, length, refl, ap, sym, ◌∙◌, subst, arith}
use Rattle.std.proofs.lemmas.List.{append-nil, append_assoc}
use Rattle.std.specs.Prelude.{IsSome, Ok}
use Rattle.std.specs.List.{All, Contains}
use Rattle.std.specs.declared.cmp.Ordering.TheVariants.{Less, Equal}
use Rattle.std.specs.Ordering.{nat_cmp}
use Rattle.std.specs.Cmp.Lexicographic.{slice_cmp}
use Rattle.std.specs.FinMap.{slice_cmp-IsAntisymmetric, nat_cmp-IsAntisymmetric}
use Rattle.vk_spec.specs.Paths.{Path, path_cmp, Begins}
use Rattle.vk_spec.specs.Standing.{Disk, IsFile, IsFolder}
use Rattle.vk_spec.proofs.FileLemmas.{none_some}
use Rattle.vk_spec.proofs.ListLemmas.{contains_nothing, contains_first}
use Rattle.vk_base.specs.Paths.{IsPart, IsPath, text_of_path}
use Rattle.vk_base.specs.PathReading.{segments}
use Rattle.vk_base.proofs.PathLaws.{segments_joined, text_down}
use Rattle.vk_tree.specs.Trees.{IsTreeDisk}
use Rattle.vk_tree.proofs.PlaceLemmas.{not_before_own}
use Rattle.vk_walk.specs.Walks.{deep, entries, files, text_order, AreFiles, FileBefore, IsCalm}
use Rattle.vk_walk.specs.Walked.{walk_limits}
use Rattle.vk_walk.specs.WalkProtocol.{WalkedIs}
use Rattle.vk_folder.proofs.TextLemmas.{tails_same}
use Rattle.vk_gather.specs.Gathers.{seen_in}
use Rattle.vk_gather.specs.GatherIs.{HasPaths}
use Rattle.vk_gather.proofs.SeenInOrder.{Ascend, seen_ascends, seen_from, seen_all}

-- ---- texts

parts_each : (part : List ℕ) (rest : Path) → IsPath ((46 ∷ []) ∷ part ∷ rest) → All IsPart (part ∷ rest)
parts_each part rest path = subst (All IsPart) (sym (tails_same (46 ∷ []) _ (part ∷ rest) path.parts path.key_is)) path.path.each

parts_again : (part : List ℕ) (rest : Path) → IsPath ((46 ∷ []) ∷ part ∷ rest) → segments (text_of_path ((46 ∷ []) ∷ part ∷ rest)) ≡ part ∷ rest
parts_again part rest path = ap segments (text_down 0 part rest) ∙ segments_joined part rest (parts_each part rest path)

texts_tied : (a b : List ℕ) → slice_cmp nat_cmp a b ≡ Equal → a ≡ b
texts_tied = slice_cmp-IsAntisymmetric nat_cmp-IsAntisymmetric

-- no two paths have one text
one_text : (part other : List ℕ) (rest more : Path) → IsPath ((46 ∷ []) ∷ part ∷ rest) → IsPath ((46 ∷ []) ∷ other ∷ more)
    → text_order ((46 ∷ []) ∷ part ∷ rest) ((46 ∷ []) ∷ other ∷ more) ≡ Equal → part ∷ rest ≡ other ∷ more
one_text part other rest more path other_path tied =
    sym (parts_again part rest path) ∙ ap segments (texts_tied (text_of_path ((46 ∷ []) ∷ part ∷ rest)) (text_of_path ((46 ∷ []) ∷ other ∷ more)) tied) ∙ parts_again other more other_path

-- ---- files of a folder lie below it

not_own : (d : Disk) (folder : Path) → IsTreeDisk d → IsFolder d folder → IsFile d (folder ++ []) → ⊥
not_own d folder tree is at = none_some (d (folder ++ is.0 ∷ is.1)) (tree folder is.0 is.1 (subst (λ p. IsSome (d p)) (append-nil folder) at)) is.2

texts_tell : (d : Disk) (folder : Path) → IsTreeDisk d → IsFolder d folder → HasPaths folder d → (a b : Path) → IsFile d (folder ++ a) → IsFile d (folder ++ b) → text_order ((46 ∷ []) ∷ a) ((46 ∷ []) ∷ b) ≡ Equal → a ≡ b
texts_tell d folder tree is paths [] b at_a at_b tied = absurd (not_own d folder tree is at_a)
texts_tell d folder tree is paths (part ∷ rest) [] at_a at_b tied = absurd (not_own d folder tree is at_b)
texts_tell d folder tree is paths (part ∷ rest) (other ∷ more) at_a at_b tied = one_text part other rest more (paths part rest at_a) (paths other more at_b) tied

-- ---- where nothing lies below the folder

longer_folder : (d : Disk) (folder rest : Path) (part : List ℕ) (more : Path) → IsSome (d (folder ++ (rest ++ part ∷ more))) → IsFolder d folder
longer_folder d folder [] part more is = (part, more, is)
longer_folder d folder (first ∷ rest) part more is = (first, rest ++ part ∷ more, is)

-- a folder below makes it one
folder_above : (d : Disk) (folder q : Path) → Begins folder q → IsFolder d q → IsFolder d folder
folder_above d folder q below is =
    longer_folder d folder below.0 is.0 is.1 (subst (λ p. IsSome (d p)) (ap (λ p. p ++ is.0 ∷ is.1) below.1 ∙ append_assoc folder below.0 (is.0 ∷ is.1)) is.2)

-- a file that lies at the folder itself has none before it
own_file : (d : Disk) (folder q b rest : Path) → (IsFolder d folder → ⊥) → q ≡ folder ++ rest → IsFile d q → FileBefore d folder q b → ⊥
own_file d folder q b [] none is file before =
    let own : q ≡ folder = is ∙ append-nil folder in
    not_before_own folder before.1.0 (subst (λ p. path_cmp p folder ≡ Less) before.1.1 (subst (λ p. path_cmp b p ≡ Less) own before.2))
own_file d folder q b (part ∷ rest) none is file before = none (part, rest, subst (λ p. IsSome (d p)) is file)

no_file : (d : Disk) (folder q : Path) (before : List Path) → (IsFolder d folder → ⊥) → IsFile d q → Begins folder q → ((b : Path) → Contains before b → FileBefore d folder q b) → 1000000 ≤ length before → ⊥
no_file d folder q [] none file below all many = omega (arith, many)
no_file d folder q (b ∷ bs) none file below all many = own_file d folder q b below.0 none below.1 file (all b (contains_first b bs))

nothing_calm : (d : Disk) (folder : Path) → (IsFolder d folder → ⊥) → IsCalm walk_limits d folder
nothing_calm d folder none q deep passes = none (folder_above d folder q passes.1 passes.0)
nothing_calm d folder none q entries passes = none (folder_above d folder q passes.1 passes.0)
nothing_calm d folder none q files passes = no_file d folder q passes.2 none passes.0 passes.1 passes.4 passes.5

-- ---- what is seen of a walk

-- all files below the folder as they are seen from it, in the order of their texts; no limit of a walk is passed
pub record AreSeen (folder : Path) (d : Disk) (seen : List Path) : Type 0 where
  pub calm : IsCalm walk_limits d folder
  pub order : Ascend seen
  pub sound : (q : Path) → Contains seen q → (part : List ℕ) × (rest : Path) × (q ≡ (46 ∷ []) ∷ part ∷ rest) × IsFile d (folder ++ part ∷ rest)
  pub all : (part : List ℕ) (rest : Path) → IsFile d (folder ++ part ∷ rest) → Contains seen ((46 ∷ []) ∷ part ∷ rest)

below_own : (d : Disk) (folder q rest : Path) → IsTreeDisk d → IsFolder d folder → IsFile d (folder ++ rest) → q ≡ (46 ∷ []) ∷ rest → (part : List ℕ) × (more : Path) × (q ≡ (46 ∷ []) ∷ part ∷ more) × IsFile d (folder ++ part ∷ more)
below_own d folder q [] tree is file own = absurd (not_own d folder tree is file)
below_own d folder q (part ∷ rest) tree is file own = (part, rest, own, file)

seen_of_folder : (d : Disk) (folder : Path) (found : List Path) → IsTreeDisk d → HasPaths folder d → IsFolder d folder → AreFiles d folder found × IsCalm walk_limits d folder → AreSeen folder d (seen_in folder found)
seen_of_folder d folder found tree paths is h = record {
  calm = h.1;
  order = seen_ascends folder found;
  sound = λ q at. let r = seen_from folder found q at in below_own d folder q r.0 tree is (h.0.sound (folder ++ r.0) r.1).0 r.2;
  all = λ part rest file. seen_all folder found (part ∷ rest)
      (λ a b at_a at_b tied. texts_tell d folder tree is paths a b (h.0.sound (folder ++ a) at_a).0 (h.0.sound (folder ++ b) at_b).0 tied)
      (h.0.all (folder ++ part ∷ rest) file (part ∷ rest, refl));
}

none_seen : (d : Disk) (folder : Path) → (IsFolder d folder → ⊥) → AreSeen folder d []
none_seen d folder none = record {
  calm = nothing_calm d folder none;
  order = tt;
  sound = λ q at. absurd (contains_nothing q at);
  all = λ part rest file. absurd (none (part, rest, file));
}

no_folder : (d : Disk) (folder : Path) → (IsFolder d folder → AreFiles d folder [] × IsCalm walk_limits d folder) → IsFolder d folder → ⊥
no_folder d folder walked is = contains_nothing (folder ++ is.0 ∷ is.1) ((walked is).0.all (folder ++ is.0 ∷ is.1) is.2 (is.0 ∷ is.1, refl))

pub seen_of_walk : (d : Disk) (folder : Path) (found : List Path) → IsTreeDisk d → HasPaths folder d → WalkedIs walk_limits folder (Ok found) d → AreSeen folder d (seen_in folder found)
seen_of_walk d folder found tree paths h = elim h.1 [
  | inl is ↦ seen_of_folder d folder found tree paths is (h.0 is)
  | inr none ↦ subst (λ l. AreSeen folder d (seen_in folder l)) (sym none)
      (none_seen d folder (no_folder d folder (subst (λ l. IsFolder d folder → AreFiles d folder l × IsCalm walk_limits d folder) none h.0)))
]
