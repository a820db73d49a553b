-- What a package holds, and that it is known by that.
use Rattle.std.proofs.Common.{◌≡◌, ◌⊎◌, ◌∷◌, ◌↔◌, ℕ, Bool, true, false, List, [], bytes_eq, Ordering, inl, inr, refl, ap, sym, ◌∙◌, subst}
use Rattle.std.specs.Prelude.{Some, None, if◌then◌else◌}
use Rattle.std.specs.declared.cmp.Ordering.TheVariants.{Less, Greater}
use Rattle.std.specs.List.{AllByRecursion, Contains}
use Rattle.std.specs.List.Sorted.{IsStrictlySortedBy}
use Rattle.std.specs.Ordering.{nat_cmp, ordering_reverse}
use Rattle.std.specs.Cmp.Lexicographic.{slice_cmp}
use Rattle.std.proofs.lemmas.Cmp.{nat_list_cmp_total}
use Rattle.std.proofs.lemmas.List.Elements.{Contains-append_left, Contains-append_right, Contains-append_cases}
use Rattle.std.proofs.lemmas.Slice.Eq.{bytes_eq-Decides}
use Rattle.vk_spec.specs.Lists.{IsWithin}
use Rattle.vk_spec.specs.Paths.{Path}
use Rattle.vk_spec.proofs.ListLemmas.{contains_nothing, contains_first, contains_later, contains_cases}
use Rattle.vk_base.specs.Paths.{text_of_path}
use Rattle.vk_entry.specs.Packages.{File, texts_of, IsPackage, IsOf, IsWith, HasFile, bytes_at}
use Rattle.vk_entry.proofs.PackageLemmas.{bytes_here}

abbrev bytes_cmp : List ℕ → List ℕ → Ordering
bytes_cmp = slice_cmp nat_cmp

abbrev text_of : File → List ℕ
text_of file = text_of_path file.path

-- ---- a file is found by its path

pub file_found : (files : List File) (file : File) → IsPackage files → Contains files file → bytes_at file.path files ≡ Some file.bytes
file_found files file order has =
    bytes_here file.path files has.0 file order has.1 (ap text_of has.2) ∙ ap (λ (f : File). Some f.bytes) has.2

-- what is found is a file's
of_some : (path : Path) (bytes : List ℕ) (first : File) (files : List File) (same : Bool) → bytes_eq (text_of first) (text_of_path path) ≡ same
    → (if same then Some first.bytes else bytes_at path files) ≡ Some bytes → (bytes_at path files ≡ Some bytes → IsOf path bytes files) → IsOf path bytes (first ∷ files)
of_some path bytes first files true is e later = (first, contains_first first files, (bytes_eq-Decides (text_of first) (text_of_path path)).0 is, (cc))
of_some path bytes first files false is e later = let it = later e in (it.0, contains_later first it.0 files it.1, it.2, it.3)

pub found_of : (path : Path) (bytes : List ℕ) (files : List File) → bytes_at path files ≡ Some bytes → IsOf path bytes files
found_of path bytes [] e = absurd (let clash : None ≡ Some bytes = e in (cc))
found_of path bytes (first ∷ files) e = of_some path bytes first files (bytes_eq (text_of first) (text_of_path path)) refl e (found_of path bytes files)

-- nothing is found where no file has the path
none_by : (path : Path) (first : File) (files : List File) (same : Bool) → bytes_eq (text_of first) (text_of_path path) ≡ same
    → (if same then Some first.bytes else bytes_at path files) ≡ None → (bytes_at path files ≡ None → HasFile path files → ⊥) → HasFile path (first ∷ files) → ⊥
none_by path first files true is e later has = let clash : Some first.bytes ≡ None = e in (cc)
none_by path first files false is e later has =
    elim (contains_cases (text_of first) (text_of_path path) (texts_of files) has) [
      | inl here ↦ (let yes = (bytes_eq-Decides (text_of first) (text_of_path path)).1 here in let clash : true ≡ false = sym yes ∙ is in (cc))
      | inr there ↦ later e there
    ]

pub none_found : (path : Path) (files : List File) → bytes_at path files ≡ None → HasFile path files → ⊥
none_found path [] e has = contains_nothing (text_of_path path) has
none_found path (first ∷ files) e has = none_by path first files (bytes_eq (text_of first) (text_of_path path)) refl e (none_found path files) has

-- ---- a file that is put is there besides the others

pub put_has : (file : File) (old new : List File) → IsWith file old new → (other : File) → Contains new other ↔ (((other ≡ file)) ⊎ Contains old other)
put_has file old new is other = (
  (λ has. elim (Contains-append_cases is.front (file ∷ is.back) other (subst (λ l. Contains l other) is.is has)) [
    | inl before ↦ inr (subst (λ l. Contains l other) (sym is.was) (Contains-append_left is.front is.back other before))
    | inr after ↦
        elim (contains_cases file other is.back after) [
          | inl here ↦ inl (sym here)
          | inr later ↦ inr (subst (λ l. Contains l other) (sym is.was) (Contains-append_right is.front is.back other later))
        ]
  ]),
  (λ which. subst (λ l. Contains l other) (sym is.is) (elim which [
    | inl same ↦ Contains-append_right is.front (file ∷ is.back) other (subst (Contains (file ∷ is.back)) (sym same) (contains_first file is.back))
    | inr had ↦
        elim (Contains-append_cases is.front is.back other (subst (λ l. Contains l other) is.was had)) [
          | inl before ↦ Contains-append_left is.front (file ∷ is.back) other before
          | inr after ↦ Contains-append_right is.front (file ∷ is.back) other (contains_later file other is.back after)
        ]
  ])),
)

-- ---- two packages with the same files are one

abbrev Below : List ℕ → List File → Type 0
Below text files = AllByRecursion (λ other. bytes_cmp text other ≡ Less) (texts_of files)

below_at : (text : List ℕ) (files : List File) (file : File) → Below text files → Contains files file → bytes_cmp text (text_of file) ≡ Less
below_at text [] file all has = absurd (contains_nothing file has)
below_at text (first ∷ files) file all has =
    elim (contains_cases first file files has) [
      | inl here ↦ subst (λ f. bytes_cmp text (text_of f) ≡ Less) here all.0
      | inr later ↦ below_at text files file all.1 later
    ]

not_below : (a b : List ℕ) → bytes_cmp a b ≡ Less → bytes_cmp b a ≡ Less → ⊥
not_below a b one other = let same = nat_list_cmp_total.trans a b a one other in let itself = nat_list_cmp_total.antisymm a a in let clash : Less ≡ Greater = sym same ∙ itself ∙ ap ordering_reverse same in (cc)

first_same : (one other : File) (xs ys : List File) → Below (text_of one) xs → Below (text_of other) ys → Contains (other ∷ ys) one → Contains (one ∷ xs) other → one ≡ other
first_same one other xs ys first second here there =
    elim (contains_cases other one ys here) [
      | inl same ↦ sym same
      | inr later ↦
          elim (contains_cases one other xs there) [
            | inl same ↦ same
            | inr after ↦ absurd (not_below (text_of one) (text_of other) (below_at (text_of one) xs other first after) (below_at (text_of other) ys one second later))
          ]
    ]

within_rest : (first : File) (xs ys : List File) → Below (text_of first) xs → IsWithin (first ∷ xs) (first ∷ ys) → IsWithin xs ys
within_rest first xs ys below within file has =
    elim (contains_cases first file ys (within file (contains_later first file xs has))) [
      | inl same ↦ absurd (let less = below_at (text_of first) xs file below has in let itself : bytes_cmp (text_of first) (text_of first) ≡ Less = subst (λ f. bytes_cmp (text_of first) (text_of f) ≡ Less) (sym same) less in not_below (text_of first) (text_of first) itself itself)
      | inr later ↦ later
    ]

pub one_package : (xs ys : List File) → IsPackage xs → IsPackage ys → IsWithin xs ys → IsWithin ys xs → xs ≡ ys
unfolding IsStrictlySortedBy
one_package [] [] first second there back = refl
one_package [] (y ∷ ys) first second there back = absurd (contains_nothing y (back y (contains_first y ys)))
one_package (x ∷ xs) [] first second there back = absurd (contains_nothing x (there x (contains_first x xs)))
one_package (x ∷ xs) (y ∷ ys) first second there back =
    let same : x ≡ y = first_same x y xs ys first.0 second.0 (there x (contains_first x xs)) (back y (contains_first y ys)) in
    let below : Below (text_of x) ys = subst (λ f. Below (text_of f) ys) (sym same) second.0 in
    let ahead : IsWithin (x ∷ xs) (x ∷ ys) = subst (λ f. IsWithin (x ∷ xs) (f ∷ ys)) (sym same) there in
    let behind : IsWithin (x ∷ ys) (x ∷ xs) = subst (λ f. IsWithin (f ∷ ys) (x ∷ xs)) (sym same) back in
    let rest = one_package xs ys first.1 second.1 (within_rest x xs ys first.0 ahead) (within_rest x ys xs below behind) in
    ap (λ l. x ∷ l) rest ∙ ap (λ f. f ∷ ys) same
