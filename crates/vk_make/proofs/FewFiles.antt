-- A walk of an entry that holds a package of not too many files passes no limit.
use Rattle.std.proofs.Common.{◌≡◌, ◌≤◌, ◌+◌, inl, inr, ◌++◌, [], ◌∷◌, ℕ, List, length, map, get_or, length-append, append_assoc, refl, ap, sym, ◌∙◌, subst, arith}
use Rattle.std.specs.Prelude.{IsSome}
use Rattle.std.specs.List.{All, Contains}
use Rattle.std.proofs.lemmas.List.{length-map}
use Rattle.std.proofs.lemmas.List.Elements.{All-contains, Contains-append_cases}
use Rattle.vk_spec.specs.Lists.{NoRepeats, IsWithin}
use Rattle.vk_spec.specs.Paths.{Path, Begins}
use Rattle.vk_spec.specs.Standing.{Disk, Entry, IsAs, IsFile, ByName, Stands}
use Rattle.vk_tree.specs.Trees.{IsTreeDisk}
use Rattle.vk_walk.specs.Walks.{deep, entries, files, IsCalm}
use Rattle.vk_walk.specs.Walked.{walk_limits}
use Rattle.vk_walk.proofs.EntryLemmas.{as_stands, differ}
use Rattle.vk_walk.proofs.ShorterLemmas.{no_longer}
use Rattle.vk_folder.proofs.MemberLemmas.{contains_mapped, mapped_from}
use Rattle.vk_entry.specs.Packages.{File}
use Rattle.vk_entry.specs.ContentLists.{IsListable}
use Rattle.vk_publish.specs.Entries.{Placed, placed_file, last_files, entry_files, HoldsJust}
use Rattle.vk_publish.proofs.PutLemmas.{placed_of, last_of, put_bare}
use Rattle.vk_make.specs.Several.{IsMeant}

-- ---- how many names and parts there are

names_once : (es : List Entry) → ByName es → NoRepeats (map (λ e. e.name) es)
names_once [] order = tt
names_once (e ∷ es) order = (
  (λ has. let f = mapped_from (λ (x : Entry). x.name) es e.name has in differ e.name f.0.name (order.0 f.0 f.1) (sym f.2)),
  names_once es order.1,
)

-- the part behind what stands in front
part_behind : (front : Path) (part : List ℕ) (rest : Path) → get_or (front ++ part ∷ rest) (length front) [] ≡ part
part_behind [] part rest = refl
part_behind (x ∷ front) part rest = part_behind front part rest

-- each file of an entry has at most 61 parts
placed_short : (text : List ℕ) (built : List File) → All IsListable built → (x : Placed) → Contains (entry_files text built) x → length x.0 ≤ 61
placed_short text built listable x has = elim (Contains-append_cases (map placed_file built) (last_files text built) x has) [
  | inl in_package ↦ (let f = placed_of built x in_package in let few = (All-contains IsListable built f.0 listable f.1).path.1.few in omega (arith, few, ap (λ z. length z.0) f.2))
  | inr in_last ↦ (let last = last_of text built x in_last in omega (arith, ap length last.path))
]

many_placed : (text : List ℕ) (built : List File) → length (entry_files text built) ≡ length built + 2
many_placed text built = omega (arith, length-append (map placed_file built) (last_files text built), length-map built placed_file)

module _ (text : List ℕ) (built : List File) (entry : Path) (d : Disk) (just : HoldsJust (entry_files text built) entry d) where
  -- what stands there is one of its files
  is_placed : (q rest : Path) → IsFile d q → q ≡ entry ++ rest → (x : Placed) × Contains (entry_files text built) x × (rest ≡ x.0)
  is_placed q rest stands at = put_bare (entry_files text built) rest (subst (λ o. IsSome o) (ap d at ∙ just rest) stands)

  below_placed : (place front more : Path) → place ≡ entry ++ front → IsFile d (place ++ more) → (x : Placed) × Contains (entry_files text built) x × (front ++ more ≡ x.0)
  below_placed place front more at stands = is_placed (place ++ more) (front ++ more) stands (ap (λ p. p ++ more) at ∙ append_assoc entry front more)

  -- ---- no limit is passed

  few_entries : (place front : Path) (es : List Entry) → place ≡ entry ++ front → ByName es → ((e : Entry) → Contains es e → IsAs d (place ++ e.name ∷ []) e.folder) → length es ≤ length built + 2
  few_entries place front es at order sound =
      let part_of : Placed → List ℕ = λ x. get_or x.0 (length front) [] in
      let within : IsWithin (map (λ (e : Entry). e.name) es) (map part_of (entry_files text built)) = λ name has.
      (let e = mapped_from (λ (x : Entry). x.name) es name has in
      let s : Stands d (place ++ e.0.name ∷ []) = as_stands d (place ++ e.0.name ∷ []) e.0.folder (sound e.0 e.1) in
      let x = below_placed place front (e.0.name ∷ s.0) at (subst (λ p. IsFile d p) (append_assoc place (e.0.name ∷ []) s.0) s.1) in
      let part : part_of x.0 ≡ name = ap (λ p. get_or p (length front) []) (sym x.2) ∙ part_behind front e.0.name s.0 ∙ e.2 in
      subst (Contains (map part_of (entry_files text built))) part (contains_mapped part_of (entry_files text built) x.0 x.1)) in
      let shorter = no_longer (map (λ (e : Entry). e.name) es) (map part_of (entry_files text built)) (names_once es order) within in
      omega (arith, shorter, length-map es (λ (e : Entry). e.name), length-map (entry_files text built) part_of, many_placed text built)

  few_before : (before : List Path) → NoRepeats before → ((q : Path) → Contains before q → IsFile d q × Begins entry q) → length before ≤ length built + 2
  few_before before once each =
      let place_of : Placed → Path = λ x. entry ++ x.0 in
      let within : IsWithin before (map place_of (entry_files text built)) = λ q has.
      (let f = each q has in
      let x = is_placed q f.1.0 f.0 f.1.1 in
      let place : place_of x.0 ≡ q = ap (λ r. entry ++ r) (sym x.2) ∙ sym f.1.1 in
      subst (Contains (map place_of (entry_files text built))) place (contains_mapped place_of (entry_files text built) x.0 x.1)) in
      let shorter = no_longer before (map place_of (entry_files text built)) once within in
      omega (arith, shorter, length-map (entry_files text built) place_of, many_placed text built)

pub few_calm : (text : List ℕ) (built : List File) (entry : Path) (d : Disk) → All IsListable built → length built ≤ 50000 → HoldsJust (entry_files text built) entry d → IsCalm walk_limits d entry
few_calm text built entry d listable few just place deep passes =
    let x = below_placed text built entry d just place passes.1.0 (passes.0.0 ∷ passes.0.1) passes.1.1 passes.0.2 in
    omega (arith, placed_short text built listable x.0 x.1, ap length x.2, length-append passes.1.0 (passes.0.0 ∷ passes.0.1), ap length passes.1.1, length-append entry passes.1.0, passes.2)
few_calm text built entry d listable few just place entries passes =
    omega (arith, few, few_entries text built entry d just place passes.1.0 passes.3 passes.1.1 passes.4.order passes.4.sound, passes.5)
few_calm text built entry d listable few just place files passes =
    omega (arith, few, few_before text built entry d just passes.2 passes.3 (λ q has. (let f = passes.4 q has in (f.0, f.1))), passes.5)

pub meant_calm : (text : List ℕ) (built : List File) → IsMeant built → (entry : Path) (d : Disk) → IsTreeDisk d → HoldsJust (entry_files text built) entry d → IsCalm walk_limits d entry
meant_calm text built meant entry d tree just = few_calm text built entry d meant.tellable.each meant.few just
