-- A package's files stand in the order of their texts, and are found by them.
use Rattle.std.proofs.Common.{◌≡◌, ◌<◌, ◌≤◌, ℕ, zero, suc, true, false, List, [], ◌∷◌, length, take, drop, map, get_or, bytes_eq, Ordering, inl, inr, refl, ap, sym, ◌∙◌, subst, arith}
use Rattle.std.specs.Prelude.{Some, None, Result, Ok, Err, IfOk, IfErr}
use Rattle.std.specs.declared.cmp.Ordering.TheVariants.{Less, Equal, Greater}
use Rattle.std.specs.List.{insert, AllByRecursion}
use Rattle.std.specs.List.Sorted.{IsStrictlySortedBy, IsNonDecreasingBy, IsSearchInRange, IsBinarySearchResult}
use Rattle.std.specs.Ordering.{nat_cmp, ordering_index, ordering_reverse, is_eq}
use Rattle.std.specs.Cmp.Lexicographic.{slice_cmp}
use Rattle.std.specs.FinMap.{slice_cmp-IsAntisymmetric, nat_cmp-IsAntisymmetric}
use Rattle.std.proofs.lemmas.Cmp.{nat_list_cmp_total}
use Rattle.std.proofs.lemmas.Bool.{cases_lt}
use Rattle.std.proofs.lemmas.List.{get_or-map, length-map, take-append-drop}
use Rattle.std.proofs.lemmas.Map.Keys.{Less-from_sorted}
use Rattle.std.proofs.lemmas.Map.Text.{is_eq-slice_cmp}
use Rattle.std.proofs.lemmas.Slice.Eq.{bytes_eq-Decides}
use Rattle.vk_spec.specs.Paths.{Path}
use Rattle.vk_base.specs.Paths.{text_of_path}
use Rattle.vk_entry.specs.Packages.{File, texts_of, IsPackage, IsWith, HasFile, bytes_at}
use Rattle.vk_entry.specs.PackageViews.{file_view}
use Rattle.vk_entry.specs.Places.{order_of, IsAt, IsGap}
use Rattle.vk_entry.specs.declared.packages.PackageFile.{PackageFile}

abbrev bytes_cmp : List ℕ → List ℕ → Ordering
bytes_cmp = slice_cmp nat_cmp

abbrev text_of : File → List ℕ
text_of file = text_of_path file.path

-- two texts that compare as equal are one
same_text : (a b : List ℕ) → bytes_cmp a b ≡ Equal → a ≡ b
same_text a b is = slice_cmp-IsAntisymmetric nat_cmp-IsAntisymmetric a b is

-- a test of two texts is their order's
same_by : (a b : List ℕ) (o : Ordering) → bytes_cmp a b ≡ o → bytes_eq a b ≡ is_eq o
same_by a b o is = sym (is_eq-slice_cmp a b) ∙ ap is_eq is

-- ---- a search

at_most_two : (o : Ordering) → ordering_index o ≤ 2
at_most_two Less = omega arith
at_most_two Equal = omega arith
at_most_two Greater = omega arith

module _ (path : Path) where
  -- what comes before compares with the path no greater
  rises : (a b : List ℕ) (o : Ordering) → bytes_cmp a b ≡ Less → bytes_cmp b (text_of_path path) ≡ o → ordering_index (bytes_cmp a (text_of_path path)) ≤ ordering_index o
  rises a b Less less is = rw (nat_list_cmp_total.trans a b (text_of_path path) less is) (omega arith)
  rises a b Equal less is =
      let same = same_text b (text_of_path path) is in
      rw (← same, less) (omega arith)
  rises a b Greater less is = at_most_two (bytes_cmp a (text_of_path path))

  text_at : (files : List File) (k : ℕ) (d : File) → k < length files → get_or (texts_of files) k (text_of d) ≡ text_of (get_or files k d)
  text_at files k d within = get_or-map text_of files k d (text_of d) within

  -- the files rise towards the path and beyond, as a binary search asks
  rise : (files : List File) → IsPackage files → IsNonDecreasingBy (λ file. ordering_index (order_of path file)) files
  rise files order i j d upto within =
      elim (cases_lt i j) [
        | inl less ↦
            rises (text_of (get_or files i d)) (text_of (get_or files j d)) (order_of path (get_or files j d))
            (rw (text_at files i d (omega (arith, less, within)), text_at files j d within) at
            (Less-from_sorted bytes_cmp (texts_of files) i j (text_of d) order less (rw (length-map files text_of) within))) refl
        | inr most ↦ (let same : i ≡ j = omega (arith, upto, most) in rw same (omega arith))
      ]

  file_at : (files : List PackageFile) (k : ℕ) (d : PackageFile) → k < length files → get_or (map file_view files) k (file_view d) ≡ file_view (get_or files k d)
  file_at files k d within = get_or-map file_view files k d (file_view d) within

  rise_kept : (files : List PackageFile) → IsPackage (map file_view files) → IsNonDecreasingBy (λ file. ordering_index (order_of path (file_view file))) files
  rise_kept files order i j d upto within =
      rw (file_at files i d (omega (arith, upto, within)), file_at files j d within) at
      (rise (map file_view files) order i j (file_view d) upto (rw (length-map files file_view) within))

  abbrev kept : File → PackageFile
  kept d = record { path = d.path; bytes = d.bytes }

  -- a search ends at the path, or where it would go
  pub found : (files : List PackageFile) → IsPackage (map file_view files) → (r : Result ℕ ℕ) → IsSearchInRange r (length files) → IsBinarySearchResult (λ file. order_of path (file_view file)) files r → IfOk r (IsAt path (map file_view files))
  found files order (Ok place) within equal = record {
    within = rw (length-map files file_view) within;
    has = λ d. rw (file_at files place (kept d) within) (equal (kept d));
  }
  found files order (Err place) within parted = tt

  pub absent : (files : List PackageFile) → IsPackage (map file_view files) → (r : Result ℕ ℕ) → IsSearchInRange r (length files) → IsBinarySearchResult (λ file. order_of path (file_view file)) files r → IfErr r (IsGap path (map file_view files))
  absent files order (Ok place) within equal = tt
  absent files order (Err place) within parted =
      let ends = parted (rise_kept files order) in
      let long = length-map files file_view in record {
        within = rw long within;
        before = λ k d less. let here : k < length files = omega (arith, less, within) in rw (file_at files k (kept d) here) (ends.0 k (kept d) (omega arith) less);
        after = λ k d most inside. let here : k < length files = omega (arith, inside, long) in rw (file_at files k (kept d) here) (ends.1 k (kept d) most here);
      }

  -- ---- what is there

  pub bytes_here : (files : List File) (place : ℕ) (d : File) → IsPackage files → place < length files → text_of (get_or files place d) ≡ text_of_path path → bytes_at path files ≡ Some (get_or files place d).bytes
  unfolding IsStrictlySortedBy
  bytes_here [] place d order within is = absurd (omega (arith, within))
  bytes_here (file ∷ files) zero d order within is = rw ((bytes_eq-Decides (text_of file) (text_of_path path)).1 is) refl
  bytes_here (file ∷ files) (suc place) d order within is =
      let less = Less-from_sorted bytes_cmp (texts_of (file ∷ files)) 0 (suc place) (text_of d) order (omega arith) (rw (length-map (file ∷ files) text_of) within) in
      let later : get_or (texts_of (file ∷ files)) (suc place) (text_of d) ≡ text_of_path path = text_at (file ∷ files) (suc place) d within ∙ is in
      rw (same_by (text_of file) (text_of_path path) Less (rw later at less))
      (bytes_here files place d order.1 (omega (arith, within)) is)

  no_bytes_here : (files : List File) → ((k : ℕ) (d : File) → k < length files → bytes_eq (text_of (get_or files k d)) (text_of_path path) ≡ false) → bytes_at path files ≡ None
  no_bytes_here [] none = refl
  no_bytes_here (file ∷ files) none =
      rw (none 0 file (omega arith))
      (no_bytes_here files (λ k d within. none (suc k) d (omega (arith, within))))

  pub bytes_found : (files : List File) (place : ℕ) (d : File) → IsPackage files → IsAt path files place → bytes_at path files ≡ Some (get_or files place d).bytes
  bytes_found files place d order at = bytes_here files place d order at.within (same_text (text_of (get_or files place d)) (text_of_path path) (at.has d))

  -- no file around a gap has the path
  other : (files : List File) (place : ℕ) → IsGap path files place → (k : ℕ) (d : File) → k < length files → bytes_eq (text_of (get_or files k d)) (text_of_path path) ≡ false
  other files place gap k d within =
      elim (cases_lt k place) [
        | inl less ↦ same_by (text_of (get_or files k d)) (text_of_path path) Less (gap.before k d less)
        | inr most ↦ same_by (text_of (get_or files k d)) (text_of_path path) Greater (gap.after k d most within)
      ]

  pub bytes_missing : (files : List File) (place : ℕ) → IsGap path files place → bytes_at path files ≡ None
  bytes_missing files place gap = no_bytes_here files (other files place gap)

  abbrev nothing : File
  nothing = record { path = path; bytes = [] }

  pub taken : (files : List File) (place : ℕ) → IsAt path files place → HasFile path files
  taken files place at = (place, rw (length-map files text_of) at.within, text_at files place nothing at.within ∙ same_text (text_of (get_or files place nothing)) (text_of_path path) (at.has nothing))

  pub free : (files : List File) (place : ℕ) → IsGap path files place → HasFile path files → ⊥
  free files place gap has =
      let within : has.0 < length files = rw (length-map files text_of) at has.1 in
      let same : text_of (get_or files has.0 nothing) ≡ text_of_path path = sym (text_at files has.0 nothing within) ∙ has.2 in
      let yes = (bytes_eq-Decides (text_of (get_or files has.0 nothing)) (text_of_path path)).1 same in
      let no = other files place gap has.0 nothing within in
      let clash : true ≡ false = sym yes ∙ no in (cc)

-- ---- the same of files as they are kept

pub read_at : (path : Path) (files : List PackageFile) (place : ℕ) (file : PackageFile) → IsPackage (map file_view files) → IsAt path (map file_view files) place → file ≡ get_or files place file → Some file.bytes ≡ bytes_at path (map file_view files)
read_at path files place file order at is =
    let within : place < length files = rw (length-map files file_view) at at.within in
    ap (λ (f : PackageFile). Some f.bytes) is
    ∙ ap (λ (f : File). Some f.bytes) (sym (file_at path files place file within))
    ∙ sym (bytes_found path (map file_view files) place (file_view file) order at)

pub read_none : (path : Path) (files : List PackageFile) (place : ℕ) → IsGap path (map file_view files) place → None ≡ bytes_at path (map file_view files)
read_none path files place gap = sym (bytes_missing path (map file_view files) place gap)

-- ---- a file is put in a gap

all_more : (P : List ℕ → Type 0) (files : List File) (place : ℕ) (file : File) → AllByRecursion P (texts_of files) → P (text_of file) → AllByRecursion P (texts_of (insert files place file))
all_more P files zero file all new = (new, all)
all_more P [] (suc place) file all new = (new, tt)
all_more P (first ∷ files) (suc place) file all new = (all.0, all_more P files place file all.1 new)

all_after : (file : File) (files : List File) → ((k : ℕ) (d : File) → k < length files → order_of file.path (get_or files k d) ≡ Greater) → AllByRecursion (λ text. bytes_cmp (text_of file) text ≡ Less) (texts_of files)
all_after file [] after = tt
all_after file (first ∷ files) after = (
  nat_list_cmp_total.antisymm (text_of file) (text_of first) ∙ ap ordering_reverse (after 0 first (omega arith)),
  all_after file files (λ k d within. after (suc k) d (omega (arith, within))),
)

pub put_in_order : (files : List File) (place : ℕ) (file : File) → IsPackage files → IsGap file.path files place → IsPackage (insert files place file)
unfolding IsStrictlySortedBy
put_in_order files zero file order gap = (all_after file files (λ k d within. gap.after k d (omega arith) within), order)
put_in_order [] (suc place) file order gap = (tt, tt)
put_in_order (first ∷ files) (suc place) file order gap = (
  all_more (λ text. bytes_cmp (text_of first) text ≡ Less) files place file order.0 (gap.before 0 first (omega arith)),
  put_in_order files place file order.1 (record {
    within = (let all = gap.within in omega (arith, all));
    before = λ k d less. gap.before (suc k) d (omega (arith, less));
    after = λ k d most within. gap.after (suc k) d (omega (arith, most)) (omega (arith, within));
  }),
)

pub insert_kept : (files : List PackageFile) (place : ℕ) (file : PackageFile) → map file_view (insert files place file) ≡ insert (map file_view files) place (file_view file)
insert_kept files zero file = refl
insert_kept [] (suc place) file = refl
insert_kept (first ∷ files) (suc place) file = ap (λ l. file_view first ∷ l) (insert_kept files place file)

pub nothing_in_order : IsPackage []
unfolding IsStrictlySortedBy
nothing_in_order = tt

pub put_kept : (old new : List PackageFile) (place : ℕ) (file : PackageFile) → IsPackage (map file_view old) → IsGap file.path (map file_view old) place → new ≡ insert old place file → IsPackage (map file_view new)
put_kept old new place file order gap is =
    subst IsPackage (sym (ap (map file_view) is ∙ insert_kept old place file))
    (put_in_order (map file_view old) place (file_view file) order gap)

pub put_new : (old new : List PackageFile) (place : ℕ) (file : PackageFile) (before : List File) → IsGap file.path (map file_view old) place → new ≡ insert old place file → map file_view old ≡ before → (HasFile file.path before → ⊥) × IsWith (file_view file) before (map file_view new)
put_new old new place file before gap is was =
    subst (λ l. (HasFile file.path l → ⊥) × IsWith (file_view file) l (map file_view new)) was (
      free file.path (map file_view old) place gap,
      record {
        front = take place (map file_view old);
        back = drop place (map file_view old);
        was = sym (take-append-drop place (map file_view old));
        is = ap (map file_view) is ∙ insert_kept old place file;
      },
    )
