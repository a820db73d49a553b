-- There is one first limit, and none where no limit is passed.
use Rattle.std.proofs.Common.{◌≡◌, ◌≤◌, ◌<◌, ◌+◌, ℕ, length, refl, ap, sym, ◌∙◌, subst, arith}
use Rattle.std.specs.declared.cmp.Ordering.{Ordering}
use Rattle.std.specs.declared.cmp.Ordering.TheVariants.{Less, Equal, Greater}
use Rattle.std.specs.Ordering.{ordering_reverse}
use Rattle.vk_spec.specs.Paths.{Path, path_cmp}
use Rattle.vk_spec.proofs.FileLemmas.{path_total, path_same}
use Rattle.vk_spec.specs.Standing.{Disk}
use Rattle.vk_tree.specs.Trees.{IsTreeDisk}
use Rattle.vk_walk.specs.Walks.{Limits, Limit, deep, entries, files, Passes, IsFirst, IsCalm}
use Rattle.vk_walk.proofs.StepLemmas.{file_no_folder}

far_near : (a b : ℕ) → a < b → b ≤ a → ⊥
far_near a b far near = omega (arith, far, near)

-- a place passes one limit
one_limit : (most : Limits) (d : Disk) (folder place : Path) (l m : Limit) → IsTreeDisk d → Passes most d folder place l → Passes most d folder place m → l ≡ m
one_limit most d folder place deep deep tree h k = refl
one_limit most d folder place entries entries tree h k = refl
one_limit most d folder place files files tree h k = refl
one_limit most d folder place deep entries tree h k = absurd (far_near (length folder + most.depth) (length place) h.2 k.2)
one_limit most d folder place entries deep tree h k = absurd (far_near (length folder + most.depth) (length place) k.2 h.2)
one_limit most d folder place deep files tree h k = absurd (file_no_folder d place tree k.0 h.0)
one_limit most d folder place entries files tree h k = absurd (file_no_folder d place tree k.0 h.0)
one_limit most d folder place files deep tree h k = absurd (file_no_folder d place tree h.0 k.0)
one_limit most d folder place files entries tree h k = absurd (file_no_folder d place tree h.0 k.0)

back : (o : Ordering) → o ≡ Greater → ordering_reverse o ≡ Less
back o e = ap ordering_reverse e

pub first_is_one : (most : Limits) (d : Disk) (folder : Path) (l m : Limit) → IsTreeDisk d → IsFirst most d folder l → IsFirst most d folder m → l ≡ m
first_is_one most d folder l m tree one other =
    elim (path_cmp one.place other.place) as (λ o. path_cmp one.place other.place ≡ o → l ≡ m) [
      | Less ↦ λ e. absurd (other.none one.place l e one.passes)
      | Greater ↦ λ e. absurd (one.none other.place m (path_total.antisymm other.place one.place ∙ back (path_cmp one.place other.place) e) other.passes)
      | Equal ↦ λ e. one_limit most d folder one.place l m tree one.passes (subst (λ p. Passes most d folder p m) (sym (path_same one.place other.place e)) other.passes)
    ] refl

pub calm_has_none : (most : Limits) (d : Disk) (folder : Path) (l : Limit) → IsCalm most d folder → IsFirst most d folder l → ⊥
calm_has_none most d folder l calm first = calm first.place l first.passes
