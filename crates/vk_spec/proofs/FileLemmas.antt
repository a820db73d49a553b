-- Paths and maps of files.
use Rattle.std.proofs.Common.{◌≡◌, ◌⊎◌, inl, inr, ℕ, true, false, cond, List, ◌∷◌, ◌++◌, length, length-append, refl, ap, sym, ◌∙◌, arith}
use Rattle.std.specs.Prelude.{Option, Some, None, IsSome, is_some}
use Rattle.std.specs.declared.cmp.Ordering.{Ordering}
use Rattle.std.specs.declared.cmp.Ordering.TheVariants.{Less, Equal, Greater}
use Rattle.std.specs.Ordering.{is_eq, eq_by_cmp}
use Rattle.std.specs.Cmp.{IsTotalOrder, nat_cmp_total, tied_itself}
use Rattle.std.specs.Cmp.Lexicographic.{lists_total}
use Rattle.std.specs.FinMap.{IsAntisymmetric, slice_cmp-IsAntisymmetric, nat_cmp-IsAntisymmetric}
use Rattle.std.specs.FinMap as map
use Rattle.vk_spec.specs.Paths.{Path, path_cmp, IsOther}
use Rattle.vk_spec.specs.Files.{Files, IsTree, AgreeWhere, HasRoomFor}

pub path_total : IsTotalOrder path_cmp
path_total = lists_total (lists_total nat_cmp_total)

pub path_same : IsAntisymmetric path_cmp
path_same = slice_cmp-IsAntisymmetric (slice_cmp-IsAntisymmetric nat_cmp-IsAntisymmetric)

-- the test of a path against another
pub ties_same : (p q : Path) → p ≡ q → eq_by_cmp path_cmp p q ≡ true
ties_same p q e = rw (← e) (ap is_eq (tied_itself path_total p))

pub ties_other : (p q : Path) → IsOther p q → eq_by_cmp path_cmp p q ≡ false
ties_other p q other =
    elim (path_cmp p q) as (λ o. path_cmp p q ≡ o → is_eq o ≡ false) [
      | Less ↦ λ e. refl
      | Equal ↦ λ e. absurd (other (path_same p q e))
      | Greater ↦ λ e. refl
    ] refl

unlike : (p q : Path) (o : Ordering) → path_cmp p q ≡ o → is_eq o ≡ false → IsOther p q
unlike p q o e test same = let tied : eq_by_cmp path_cmp p q ≡ true = ties_same p q same in let clash : true ≡ false = sym tied ∙ ap is_eq e ∙ test in (cc)

pub same_or_other : (p q : Path) → (p ≡ q) ⊎ IsOther p q
same_or_other p q =
    elim (path_cmp p q) as (λ o. path_cmp p q ≡ o → (p ≡ q) ⊎ IsOther p q) [
      | Less ↦ λ e. inr (unlike p q Less e refl)
      | Equal ↦ λ e. inl (path_same p q e)
      | Greater ↦ λ e. inr (unlike p q Greater e refl)
    ] refl

-- a path is none of those below it
pub above_is_other : (q : Path) (part : List ℕ) (rest : Path) → IsOther (q ++ part ∷ rest) q
above_is_other q part rest e = omega (arith, ap length e, length-append q (part ∷ rest))

pub none_some : {X : Type 0} (o : Option X) → o ≡ None → IsSome o → ⊥
none_some o e some = let clash : false ≡ true = ap is_some (sym e) ∙ some in (cc)

-- whatever stands at a path that has room, no file lies below a file
pub tree_with_room : (p : Path) (f g : Files) → IsTree f → HasRoomFor p f → AgreeWhere (IsOther p) f g → IsTree g
tree_with_room p f g tree room agree q part rest some =
    elim (same_or_other p (q ++ part ∷ rest)) [
      | inl e ↦ (let other : IsOther p q = λ s. above_is_other q part rest (sym e ∙ s) in absurd (none_some (map.get g q) (agree q other ∙ room.above q part rest e) some))
      | inr other ↦ agree (q ++ part ∷ rest) other ∙ elim (same_or_other p q) [
        | inl e ↦ (let found : map.get f (p ++ part ∷ rest) ≡ None = room.below part rest in ap (λ r. map.get f (r ++ part ∷ rest)) (sym e) ∙ found)
        | inr apart ↦ tree q part rest (ap is_some (sym (agree q apart)) ∙ some)
      ]
    ]

pub empty_is_tree : IsTree map.empty
empty_is_tree p part rest some = map.get-empty path_cmp (p ++ part ∷ rest)

pub get-inserted : (p : Path) (bytes : List ℕ) (f : Files) → map.get (map.insert f p bytes) p ≡ Some bytes
get-inserted p bytes f = map.get-insert path_total f p bytes p ∙ ap (λ b. cond b (Some bytes) (map.get f p)) (ties_same p p refl)

pub insert_agrees : (p : Path) (bytes : List ℕ) (f : Files) → AgreeWhere (IsOther p) f (map.insert f p bytes)
insert_agrees p bytes f q other = map.get-insert path_total f p bytes q ∙ ap (λ b. cond b (Some bytes) (map.get f q)) (ties_other q p (λ e. other (sym e)))
