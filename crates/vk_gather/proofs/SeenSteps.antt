-- The paths that are left to read, step by step.
use Rattle.std.proofs.Common.{◌≡◌, ◌++◌, [], ◌∷◌, ℕ, List, map, ap, sym, ◌∙◌, subst, arith}
use Rattle.std.specs.Prelude.{Result, Ok, Err, IfOk, reverse, ◌<◌, ◌+◌, ◌^◌}
use Rattle.std.specs.declared.cmp.Ordering.{Ordering}
use Rattle.std.specs.declared.cmp.Ordering.TheVariants.{Less}
use Rattle.std.specs.List.{AllByRecursion, Contains}
use Rattle.std.specs.List.Sorted.{IsPermutation, IsSorted, IsStrictlySortedBy}
use Rattle.std.specs.Ordering.{nat_cmp}
use Rattle.std.specs.Cmp.Lexicographic.{slice_cmp}
use Rattle.std.proofs.lemmas.List.{append_assoc, map-append}
use Rattle.std.proofs.lemmas.List.Elements.{All-tail}
use Rattle.vk_spec.specs.Paths.{Path}
use Rattle.vk_base.specs.Paths.{IsPath, joined, parts_of, text_of_path, ups_of}
use Rattle.vk_base.specs.declared.memory.Memory.{Memory}
use Rattle.vk_folder.proofs.PathLemmas.{few_steps, seen_at}
use Rattle.vk_walk.specs.Walks.{AreSeen, text_order}
use Rattle.vk_entry.specs.Packages.{File, texts_of}
use Rattle.vk_gather.specs.Gathers.{seen_in}
use Rattle.vk_gather.specs.FilesToGather.{Follow, IsSeen}
use Rattle.vk_gather.specs.EachOnce.{each_once}
use Rattle.vk_gather.proofs.SeenLemmas.{seen_follow, sorted_seen}

-- ---- the paths of all files

module _ (folder : Path) (found seen sorted : List Path) (r : Result (List Path) Memory) (are : AreSeen folder found seen) (moved : IsPermutation seen sorted) (order : IsSorted text_order sorted) where
  pub seen_by : IfOk r (λ todo. reverse todo ≡ each_once sorted) → IfOk r (λ todo. (p : Path) → Contains sorted p → IsPath p) → IfOk r (λ todo. reverse todo ≡ seen_in folder found)
  seen_by once paths = by r once paths
    where
      by : (r : Result (List Path) Memory) → IfOk r (λ todo. reverse todo ≡ each_once sorted) → IfOk r (λ todo. (p : Path) → Contains sorted p → IsPath p) → IfOk r (λ todo. reverse todo ≡ seen_in folder found)
      by (Ok todo) once paths = once ∙ sorted_seen folder found seen sorted are moved order paths
      by (Err memory) once paths = tt

  pub follow_by : IfOk r (λ todo. reverse todo ≡ each_once sorted) → IfOk r (λ todo. (p : Path) → Contains sorted p → IsPath p) → IfOk r (λ todo. Follow [] (reverse todo))
  follow_by once paths = by r (seen_by once paths)
    where
      by : (r : Result (List Path) Memory) → IfOk r (λ todo. reverse todo ≡ seen_in folder found) → IfOk r (λ todo. Follow [] (reverse todo))
      by (Ok todo) is = subst (Follow []) (sym is) (seen_follow folder found)
      by (Err memory) is = tt

-- ---- one file less

all_without : {K : Type 0} (P : K → Type 0) (xs : List K) (y : K) (zs : List K) → AllByRecursion P (xs ++ y ∷ zs) → AllByRecursion P (xs ++ zs)
all_without P [] y zs h = h.1
all_without P (x ∷ xs) y zs h = (h.0, all_without P xs y zs h.1)

strict_without : {K : Type 0} (cmp : K → K → Ordering) (xs : List K) (y : K) (zs : List K) → IsStrictlySortedBy cmp (xs ++ y ∷ zs) → IsStrictlySortedBy cmp (xs ++ zs)
unfolding IsStrictlySortedBy
strict_without cmp [] y zs h = h.1
strict_without cmp (x ∷ xs) y zs h = (all_without (λ k. cmp x k ≡ Less) xs y zs h.0, strict_without cmp xs y zs h.1)

-- one that isn't there is passed over
pub follow_skip : (files : List File) (p : Path) (ps : List Path) → Follow files (p ∷ ps) → Follow files ps
follow_skip files p ps f = record {
  ascend = strict_without (slice_cmp nat_cmp) (texts_of files) (text_of_path p) (map text_of_path ps) f.ascend;
  seen = All-tail IsSeen p ps f.seen;
}

-- and one that was read is the last of those that were
pub follow_take : (files more : List File) (p : Path) (bytes : List ℕ) (ps : List Path) → more ≡ files ++ record { path = p; bytes = bytes } ∷ [] → Follow files (p ∷ ps) → Follow more ps
follow_take files more p bytes ps is f =
    let texts : texts_of files ++ text_of_path p ∷ map text_of_path ps ≡ texts_of more ++ map text_of_path ps =
    sym (append_assoc (texts_of files) (text_of_path p ∷ []) (map text_of_path ps))
    ∙ ap (λ l. l ++ map text_of_path ps) (sym (ap texts_of is ∙ map-append (λ (file : File). text_of_path file.path) files (record { path = p; bytes = bytes } ∷ []))) in
    record {
      ascend = subst (IsStrictlySortedBy (slice_cmp nat_cmp)) texts f.ascend;
      seen = All-tail IsSeen p ps f.seen;
    }

-- ---- where a file stands

pub seen_steps : (folder seen : Path) → IsPath folder → IsSeen seen → ups_of folder + ups_of seen < 2 ^ 32
seen_steps folder seen path is = few_steps folder seen path (omega (arith, ap ups_of is))

pub seen_joined : (folder seen : Path) (r : Result Path Memory) → IsPath folder → IsSeen seen → IfOk r (λ p. p ≡ joined folder seen) → IfOk r (λ p. p ≡ folder ++ parts_of seen)
seen_joined folder seen r path is h = subst (λ x. IfOk r (λ p. p ≡ x)) (seen_at folder seen (parts_of seen) path is) h
