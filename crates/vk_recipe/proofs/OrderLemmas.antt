-- Files in the order of the texts of their paths.
use Rattle.std.proofs.Common.{◌≡◌, ◌<◌, ◌≤◌, ℕ, suc, Bool, true, false, bytes_eq, List, [], ◌∷◌, length, get_or, map, Ordering, inl, inr, refl, ap, sym, ◌∙◌, subst, arith}
use Rattle.std.specs.declared.cmp.Ordering.TheVariants.{Less, Equal, Greater}
use Rattle.std.specs.Ordering.{nat_cmp, is_lt, ordering_reverse, ordering_then}
use Rattle.std.specs.Cmp.Lexicographic.{slice_cmp}
use Rattle.std.specs.FinMap.{slice_cmp-IsAntisymmetric, nat_cmp-IsAntisymmetric}
use Rattle.std.specs.List.{Contains, AllByRecursion, IsDistinct}
use Rattle.std.specs.List.Sorted.{IsPermutation, IsSortedBy, IsStrictlySortedBy}
use Rattle.std.proofs.lemmas.Cmp.{nat_list_cmp_total}
use Rattle.std.proofs.lemmas.List.{get_or-map, length-map}
use Rattle.std.proofs.lemmas.List.MinMax.{ranks_by}
use Rattle.std.proofs.lemmas.List.Sorted.{sorted_far, IsPermutation-map, IsPermutation-sym, Contains-permutation}
use Rattle.std.proofs.lemmas.Map.Keys.{IsDistinct-IsPermutation}
use Rattle.std.proofs.lemmas.Slice.Eq.{bytes_eq-Decides}
use Rattle.vk_spec.specs.Lists.{NoRepeats}
use Rattle.vk_spec.proofs.ListLemmas.{contains_nothing, contains_first, contains_later, contains_cases}
use Rattle.vk_base.specs.Paths.{text_of_path}
use Rattle.vk_resolution.specs.Keys.{key_cmp, Ascends, put_by, put_in, in_order}
use Rattle.vk_resolution.proofs.Members.{contains_map, map_contains}
use Rattle.vk_resolution.proofs.Orders.{contains-in_order, put_in-keeps, in_order-ascends, ascending_one}
use Rattle.vk_entry.specs.Packages.{File, texts_of, IsPackage}
use Rattle.vk_entry.specs.PackageViews.{file_view}
use Rattle.vk_entry.specs.declared.packages.PackageFile.{PackageFile}
use Rattle.vk_recipe.specs.Builds.{path_key, text_order}

abbrev pub bytes_cmp : List ℕ → List ℕ → Ordering
bytes_cmp = slice_cmp nat_cmp

abbrev pub text_of : File → List ℕ
text_of file = text_of_path file.path

-- each file's text is before those of all that follow
abbrev pub Rises : List File → Type 0
Rises [] = Unit {0}
Rises (x ∷ xs) = ((z : File) → Contains xs z → bytes_cmp (text_of x) (text_of z) ≡ Less) × Rises xs

pub then_nothing : (o : Ordering) → ordering_then o Equal ≡ o
then_nothing Less = refl
then_nothing Equal = refl
then_nothing Greater = refl

pub rises_ascends : (xs : List File) → Rises xs → Ascends path_key xs
rises_ascends [] up = tt
rises_ascends (x ∷ xs) up = ((λ z at. then_nothing (bytes_cmp (text_of x) (text_of z)) ∙ up.0 z at), rises_ascends xs up.1)

all_by : (P : List ℕ → Type 0) (ys : List (List ℕ)) → ((y : List ℕ) → Contains ys y → P y) → AllByRecursion P ys
all_by P [] each = tt
all_by P (y ∷ ys) each = (each y (contains_first y ys), all_by P ys (λ z at. each z (contains_later y z ys at)))

pub rises_package : (xs : List File) → Rises xs → IsPackage xs
unfolding IsStrictlySortedBy
rises_package [] up = tt
rises_package (x ∷ xs) up = (
  all_by (λ y. bytes_cmp (text_of x) y ≡ Less) (texts_of xs) (λ y at.
      let z = contains_map text_of xs y at in
      subst (λ t. bytes_cmp (text_of x) t ≡ Less) z.2 (up.0 z.0 z.1)),
  rises_package xs up.1,
)

less_by : (a b : List ℕ) (o : Ordering) → bytes_cmp a b ≡ o → (a ≡ b → ⊥) → is_lt (bytes_cmp b a) ≡ false → bytes_cmp a b ≡ Less
less_by a b Less is other fine = is
less_by a b Equal is other fine = absurd (other (slice_cmp-IsAntisymmetric nat_cmp-IsAntisymmetric a b is))
less_by a b Greater is other fine = let clash : true ≡ false = sym (ap is_lt (nat_list_cmp_total.antisymm b a ∙ ap ordering_reverse is)) ∙ fine in (cc)

abbrev NoneFalls : List File → Type 0
NoneFalls xs = (i j : ℕ) (d : File) → i ≤ j → j < length xs → is_lt (text_order (get_or xs j d) (get_or xs i d)) ≡ false

-- sorted files rise where no two have the same text
rises : (xs : List File) → NoneFalls xs → NoRepeats (texts_of xs) → Rises xs
rises [] none apart = tt
rises (x ∷ xs) none apart = (
  (λ z at.
      less_by (text_of x) (text_of z) (bytes_cmp (text_of x) (text_of z)) refl
      (λ same. apart.0 (subst (Contains (texts_of xs)) (sym same) (map_contains text_of xs z at)))
      (let here = none 0 (suc at.0) z (omega arith) (let within = at.1 in omega (arith, within)) in
      subst (λ f. is_lt (text_order f x) ≡ false) at.2 here)),
  rises xs (λ i j d upto within. none (suc i) (suc j) d (omega (arith, upto)) (omega (arith, within))) apart.1,
)

-- ---- all members

put_by_has : (x y : File) (ys : List File) (o : Ordering) → key_cmp (path_key x) (path_key y) ≡ o → (text_of x ≡ text_of y → ⊥)
    → Contains (put_in path_key x ys) x → Contains (put_by o x y ys (put_in path_key x ys)) x
put_by_has x y ys Less is other rest = contains_first x (y ∷ ys)
put_by_has x y ys Equal is other rest =
    absurd (other (slice_cmp-IsAntisymmetric nat_cmp-IsAntisymmetric (text_of x) (text_of y) (sym (then_nothing (bytes_cmp (text_of x) (text_of y))) ∙ is)))
put_by_has x y ys Greater is other rest = contains_later y x (put_in path_key x ys) rest

put_has : (x : File) (ys : List File) → ((y : File) → Contains ys y → text_of x ≡ text_of y → ⊥) → Contains (put_in path_key x ys) x
put_has x [] other = contains_first x []
put_has x (y ∷ ys) other =
    put_by_has x y ys (key_cmp (path_key x) (path_key y)) refl (other y (contains_first y ys))
    (put_has x ys (λ z at. other z (contains_later y z ys at)))

in_order_has : (xs : List File) (z : File) → NoRepeats (texts_of xs) → Contains xs z → Contains (in_order path_key xs) z
in_order_has [] z apart at = absurd (contains_nothing z at)
in_order_has (x ∷ xs) z apart at =
    elim (contains_cases x z xs at) [
      | inl same ↦ subst (Contains (in_order path_key (x ∷ xs))) same
          (put_has x (in_order path_key xs) (λ y here is.
          apart.0 (subst (Contains (texts_of xs)) (sym is) (map_contains text_of xs y (contains-in_order path_key xs y here)))))
      | inr later ↦ put_in-keeps path_key x z (in_order path_key xs) (in_order_has xs z apart.1 later)
    ]

-- ---- no repeats, in another order

of_all : (P : List ℕ → Type 0) (ys : List (List ℕ)) (y : List ℕ) → AllByRecursion P ys → Contains ys y → P y
of_all P [] y all at = absurd (contains_nothing y at)
of_all P (z ∷ ys) y all at = elim (contains_cases z y ys at) [ inl same ↦ subst P same all.0 | inr later ↦ of_all P ys y all.1 later ]

differ : (x y : List ℕ) (b : Bool) → bytes_eq x y ≡ b → (x ≡ y → ⊥) → bytes_eq x y ≡ false
differ x y true is other = absurd (other ((bytes_eq-Decides x y).0 is))
differ x y false is other = is

to_distinct : (xs : List (List ℕ)) → NoRepeats xs → IsDistinct bytes_eq xs
unfolding IsDistinct
to_distinct [] apart = tt
to_distinct (x ∷ xs) apart = (
  all_by (λ y. bytes_eq x y ≡ false) xs (λ y at. differ x y (bytes_eq x y) refl (λ same. apart.0 (subst (Contains xs) (sym same) at))),
  to_distinct xs apart.1,
)

from_distinct : (xs : List (List ℕ)) → IsDistinct bytes_eq xs → NoRepeats xs
unfolding IsDistinct
from_distinct [] apart = tt
from_distinct (x ∷ xs) apart = (
  (λ at. let clash : true ≡ false = sym ((bytes_eq-Decides x x).1 refl) ∙ of_all (λ y. bytes_eq x y ≡ false) xs x apart.0 at in (cc)),
  from_distinct xs apart.1,
)

turns : (x y : List ℕ) (a b : Bool) → bytes_eq x y ≡ a → bytes_eq y x ≡ b → bytes_eq x y ≡ bytes_eq y x
turns x y true b is other = is ∙ sym ((bytes_eq-Decides y x).1 (sym ((bytes_eq-Decides x y).0 is)))
turns x y false true is other = let clash : true ≡ false = sym ((bytes_eq-Decides x y).1 (sym ((bytes_eq-Decides y x).0 other))) ∙ is in (cc)
turns x y false false is other = is ∙ sym other

no_repeats_moved : (xs ys : List (List ℕ)) → IsPermutation xs ys → NoRepeats xs → NoRepeats ys
no_repeats_moved xs ys moved apart =
    from_distinct ys (IsDistinct-IsPermutation bytes_eq (λ x y. turns x y (bytes_eq x y) (bytes_eq y x) refl refl) xs ys moved (to_distinct xs apart))

-- ---- a sort

module _ (files sorted : List PackageFile) (moved : IsPermutation files sorted) (up : IsSortedBy (λ p q. is_lt (text_order (file_view p) (file_view q))) sorted) (apart : NoRepeats (texts_of (map file_view files))) where
  abbrev kept : File → PackageFile
  kept d = record { path = d.path; bytes = d.bytes }

  none_falls : NoneFalls (map file_view sorted)
  none_falls i j d upto within =
      let inside : j < length sorted = rw (length-map sorted file_view) at within in
      rw (get_or-map file_view sorted j (kept d) d inside, get_or-map file_view sorted i (kept d) d (omega (arith, upto, inside)))
      (sorted_far (λ p q. is_lt (text_order (file_view p) (file_view q))) (ranks_by nat_list_cmp_total (λ (p : PackageFile). text_of_path p.path)) sorted up i j (kept d) upto inside)

  viewed : IsPermutation (map file_view files) (map file_view sorted)
  viewed = IsPermutation-map file_view files sorted moved

  sorted_rises : Rises (map file_view sorted)
  sorted_rises = rises (map file_view sorted) none_falls (no_repeats_moved (texts_of (map file_view files)) (texts_of (map file_view sorted)) (IsPermutation-map text_of (map file_view files) (map file_view sorted) viewed) apart)

  pub sorted_package : IsPackage (map file_view sorted)
  sorted_package = rises_package (map file_view sorted) sorted_rises

  pub sorted_is : map file_view sorted ≡ in_order path_key (map file_view files)
  sorted_is =
      ascending_one path_key (map file_view sorted) (in_order path_key (map file_view files))
      (rises_ascends (map file_view sorted) sorted_rises) (in_order-ascends path_key (map file_view files))
      (λ z at. in_order_has (map file_view files) z apart (Contains-permutation (map file_view sorted) (map file_view files) z (IsPermutation-sym (map file_view files) (map file_view sorted) viewed) at))
      (λ z at. Contains-permutation (map file_view files) (map file_view sorted) z viewed (contains-in_order path_key (map file_view files) z at))
