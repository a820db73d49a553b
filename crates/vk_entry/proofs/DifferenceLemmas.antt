-- Paths in order are compared by one pass over both.
use Rattle.std.proofs.Common.{◌≡◌, ◌<◌, ◌≤◌, ◌+◌, ◌||◌, ◌∷◌, ℕ, Bool, true, false, not, List, [], length, map, drop, get_or, cond, Bor, refl, ap, sym, ◌∙◌, subst, arith}
use Rattle.std.specs.Prelude.{Option, Some, None, nat_lt}
use Rattle.std.specs.declared.cmp.Ordering.TheVariants.{Less, Equal, Greater}
use Rattle.std.specs.Cmp.{IsTotalOrder, nat_cmp_total}
use Rattle.std.specs.Cmp.Lexicographic.{lists_total, pointwise}
use Rattle.std.specs.FinMap.{slice_cmp-IsAntisymmetric, nat_cmp-IsAntisymmetric}
use Rattle.std.specs.List.{All, list_any}
use Rattle.std.specs.List.Sorted.{IsPermutation, IsSorted}
use Rattle.std.specs.Ordering.{is_lt, ordering_reverse}
use Rattle.std.specs.Str.{bytes_eq}
use Rattle.std.proofs.lemmas.Bool.{le-ltb, lt-ltb}
use Rattle.std.proofs.lemmas.List.{drop_all, drop_more, get_or-drop, get_or-map, get_or_default, length-drop, length-map}
use Rattle.std.proofs.lemmas.List.Elements.{All-head, All-tail}
use Rattle.std.proofs.lemmas.List.MinMax.{ranks_by}
use Rattle.std.proofs.lemmas.List.Sorted.{IsPermutation-map, list_any-IsPermutation, sorted_far}
use Rattle.std.proofs.lemmas.Slice.Eq.{bytes_eq-Decides, slice_eq-Decides}
use Rattle.vk_spec.specs.Paths.{Path, path_cmp}
use Rattle.vk_base.specs.declared.paths.TreePath.{TreePath}
use Rattle.vk_entry.specs.Differences.{difference_of, has_outside, is_among}
use Rattle.vk_entry.specs.declared.differences.Difference.{Difference}
use Rattle.vk_entry.specs.declared.differences.Difference.TheVariants.{Extra, Missing}

path_total : IsTotalOrder path_cmp
path_total = lists_total (lists_total nat_cmp_total)

abbrev is_same : Path → Path → Bool
is_same one other = pointwise bytes_eq one other

-- at or above the path
abbrev IsFrom : Path → Path → Type 0
IsFrom path other = is_lt (path_cmp other path) ≡ false

same_or_not : (one other : Path) (test : Bool) → is_same one other ≡ test → (one ≡ other → ⊥) → test ≡ false
same_or_not one other true is apart = absurd (apart ((slice_eq-Decides bytes_eq-Decides one other (is_same one other) refl).0 is))
same_or_not one other false is apart = refl

same_is : (one other : Path) → one ≡ other → is_same one other ≡ true
same_is one other e = (slice_eq-Decides bytes_eq-Decides one other (is_same one other) refl).1 e

-- what is at or above the one is not what is below it
lower_apart : (low path other : Path) → path_cmp low path ≡ Less → IsFrom path other → other ≡ low → ⊥
lower_apart low path other less from same =
    let clash : true ≡ false = sym (ap is_lt less) ∙ subst (IsFrom path) same from in
    (cc)

none_same : (low path : Path) (others : List Path) → path_cmp low path ≡ Less → All (IsFrom path) others → is_among others low ≡ false
none_same low path [] less all = refl
none_same low path (other ∷ others) less all =
    ap (λ t. t || is_among others low) (same_or_not other low (is_same other low) refl (lower_apart low path other less (All-head (IsFrom path) other others all)))
    ∙ none_same low path others less (All-tail (IsFrom path) other others all)

lower_outside : (path other : Path) (paths others : List Path) → path_cmp path other ≡ Less → All (IsFrom other) (other ∷ others) → has_outside (path ∷ paths) (other ∷ others) ≡ true
lower_outside path other paths others less all =
    ap (λ t. not t || has_outside paths (other ∷ others)) (none_same path other (other ∷ others) less all)

same_inside : (path other : Path) (paths others : List Path) → path_cmp path other ≡ Equal → has_outside (path ∷ paths) (other ∷ others) ≡ has_outside paths (other ∷ others)
same_inside path other paths others equal =
    let same : path ≡ other = slice_cmp-IsAntisymmetric (slice_cmp-IsAntisymmetric nat_cmp-IsAntisymmetric) path other equal in
    ap (λ t. not (t || is_among others path) || has_outside paths (other ∷ others)) (same_is other path (sym same))

turned : (one other : Path) → path_cmp one other ≡ Greater → path_cmp other one ≡ Less
turned one other greater = path_total.antisymm other one ∙ ap ordering_reverse greater

lower_dropped : (path other : Path) (paths others : List Path) → path_cmp other path ≡ Less → All (IsFrom path) paths → has_outside paths (other ∷ others) ≡ has_outside paths others
lower_dropped path other [] others less all = refl
lower_dropped path other (next ∷ paths) others less all =
    ap (λ t. not (t || is_among others next) || has_outside paths (other ∷ others))
    (same_or_not other next (is_same other next) refl (λ same. lower_apart other path next less (All-head (IsFrom path) next paths all) (sym same)))
    ∙ ap (λ t. not (is_among others next) || t) (lower_dropped path other paths others less (All-tail (IsFrom path) next paths all))

-- ---- in order

abbrev pub path_below : Path → Path → Bool
path_below one other = is_lt (path_cmp one other)

-- from a place on, all paths are at or above the one that stands there
all_from : (paths : List Path) → IsSorted path_cmp paths → (at : ℕ) (d : Path) → at < length paths → All (IsFrom (get_or paths at d)) (drop at paths)
all_from paths sorted at d within = λ k e less.
    let long = length-drop at paths in
    let inside : at + k < length paths = omega (arith, less, long) in
    let far = sorted_far path_below (ranks_by path_total (λ p. p)) paths sorted at (at + k) e (omega arith) inside in
    let here = get_or-drop at paths k e in
    let same = get_or_default paths at d e within in
    rw (here, same) far

abbrev pub seen : List (Bor TreePath) → List Path
seen refs = map (λ r. r.now) refs

seen_at : (refs : List (Bor TreePath)) (at : ℕ) (x : Bor TreePath) → at < length refs → x ≡ get_or refs at x → get_or (seen refs) at x.now ≡ x.now
seen_at refs at x within is = get_or-map (λ r. r.now) refs at x x.now within ∙ ap (λ r. r.now) (sym is)

-- the path at a place, and those behind it, which are at or above it
record StandsAt (refs : List (Bor TreePath)) (at : ℕ) (path : Path) : Type 0 where
  split : drop at (seen refs) ≡ path ∷ drop (at + 1) (seen refs)
  from : All (IsFrom path) (path ∷ drop (at + 1) (seen refs))

stands_at : (refs : List (Bor TreePath)) (at : ℕ) (x : Bor TreePath) → IsSorted path_cmp (seen refs) → at < length refs → x ≡ get_or refs at x → StandsAt refs at x.now
stands_at refs at x sorted within is =
    let long = length-map refs (λ (r : Bor TreePath). r.now) in
    let inside : at < length (seen refs) = omega (arith, within, long) in
    let here = seen_at refs at x within is in
    let split : drop at (seen refs) ≡ x.now ∷ drop (at + 1) (seen refs) = drop_more (seen refs) at x.now inside ∙ ap (λ p. p ∷ drop (at + 1) (seen refs)) here in
    record {
      split = split;
      from = subst (All (IsFrom x.now)) split (subst (λ p. All (IsFrom p) (drop at (seen refs))) here (all_from (seen refs) sorted at x.now inside));
    }

-- what is left from two places on says whether a path is outside
pub record IsLeft (paths others : List (Bor TreePath)) (at other : ℕ) : Type 0 where
  pub at_most : at ≤ length paths
  pub other_most : other ≤ length others
  pub says : has_outside (drop at (seen paths)) (drop other (seen others)) ≡ has_outside (seen paths) (seen others)

pub left_start : (paths others : List (Bor TreePath)) → IsLeft paths others 0 0
left_start paths others = record { at_most = omega arith; other_most = omega arith; says = refl }

module _ (paths others : List (Bor TreePath)) (at other : ℕ) (left : IsLeft paths others at other) where
  left_both : (path next : Path) → StandsAt paths at path → StandsAt others other next
      → has_outside (path ∷ drop (at + 1) (seen paths)) (next ∷ drop (other + 1) (seen others)) ≡ has_outside (seen paths) (seen others)
  left_both path next here there = (λ i. has_outside (sym here.split i) (sym there.split i)) ∙ left.says

  pub none_left : length paths ≤ at → false ≡ has_outside (seen paths) (seen others)
  none_left past =
      let long = length-map paths (λ (r : Bor TreePath). r.now) in
      ap (λ l. has_outside l (drop other (seen others))) (sym (drop_all at (seen paths) (omega (arith, past, long)))) ∙ left.says

  some_outside : (xs : List Path) → 0 < length xs → has_outside xs [] ≡ true
  some_outside [] some = absurd (omega (arith, some))
  some_outside (x ∷ xs) some = refl

  pub no_others_left : at < length paths → length others ≤ other → true ≡ has_outside (seen paths) (seen others)
  no_others_left within past =
      let long = length-map paths (λ (r : Bor TreePath). r.now) in
      let wide = length-map others (λ (r : Bor TreePath). r.now) in
      let count = length-drop at (seen paths) in
      sym (some_outside (drop at (seen paths)) (omega (arith, within, long, count)))
      ∙ ap (has_outside (drop at (seen paths))) (sym (drop_all other (seen others) (omega (arith, past, wide))))
      ∙ left.says

  module _ (x y : Bor TreePath) (paths_sorted : IsSorted path_cmp (seen paths)) (others_sorted : IsSorted path_cmp (seen others))
      (within : at < length paths) (inside : other < length others) (x_is : x ≡ get_or paths at x) (y_is : y ≡ get_or others other y) where
    pub left_less : path_cmp x.now y.now ≡ Less → true ≡ has_outside (seen paths) (seen others)
    left_less less =
        let here = stands_at paths at x paths_sorted within x_is in
        let there = stands_at others other y others_sorted inside y_is in
        sym (lower_outside x.now y.now (drop (at + 1) (seen paths)) (drop (other + 1) (seen others)) less there.from) ∙ left_both x.now y.now here there

    pub left_equal : path_cmp x.now y.now ≡ Equal → IsLeft paths others (at + 1) other
    left_equal equal =
        let here = stands_at paths at x paths_sorted within x_is in
        let there = stands_at others other y others_sorted inside y_is in record {
          at_most = omega (arith, within);
          other_most = left.other_most;
          says =
              ap (has_outside (drop (at + 1) (seen paths))) there.split
              ∙ sym (same_inside x.now y.now (drop (at + 1) (seen paths)) (drop (other + 1) (seen others)) equal)
              ∙ left_both x.now y.now here there;
        }

    pub left_greater : path_cmp x.now y.now ≡ Greater → IsLeft paths others at (other + 1)
    left_greater greater =
        let here = stands_at paths at x paths_sorted within x_is in
        let there = stands_at others other y others_sorted inside y_is in record {
          at_most = left.at_most;
          other_most = omega (arith, inside);
          says =
              ap (λ l. has_outside l (drop (other + 1) (seen others))) here.split
              ∙ sym (lower_dropped x.now y.now (x.now ∷ drop (at + 1) (seen paths)) (drop (other + 1) (seen others)) (turned x.now y.now greater) here.from)
              ∙ left_both x.now y.now here there;
        }

-- ---- in whatever order

pub outside_moved : (paths others sorted ordered : List Path) → IsPermutation paths sorted → IsPermutation others ordered → has_outside sorted ordered ≡ has_outside paths others
outside_moved paths others sorted ordered one other =
    sym (list_any-IsPermutation (λ path. not (is_among ordered path)) paths sorted one)
    ∙ sym (λ i. list_any (λ path. not (list_any-IsPermutation (λ o. is_same o path) others ordered other i)) paths)

-- whether a path is left at the end of the pass
pub past_end : (paths others : List (Bor TreePath)) (at other : ℕ) → IsLeft paths others at other → length paths ≤ at → nat_lt at (length paths) ≡ has_outside (seen paths) (seen others)
past_end paths others at other left past = le-ltb at (length paths) past ∙ none_left paths others at other left past

pub past_others : (paths others : List (Bor TreePath)) (at other : ℕ) → IsLeft paths others at other → at < length paths → length others ≤ other → nat_lt at (length paths) ≡ has_outside (seen paths) (seen others)
past_others paths others at other left within past = lt-ltb at (length paths) within ∙ no_others_left paths others at other left within past

-- references in order
pub refs_moved : (paths : List Path) (refs sorted : List (Bor TreePath)) → seen refs ≡ paths → IsPermutation refs sorted → IsPermutation paths (seen sorted)
refs_moved paths refs sorted are moved = subst (λ l. IsPermutation l (seen sorted)) are (IsPermutation-map (λ (r : Bor TreePath). r.now) refs sorted moved)

pub refs_sorted : (refs : List (Bor TreePath)) → IsSorted (λ (one other : Bor TreePath). path_cmp one.now other.now) refs → IsSorted path_cmp (seen refs)
refs_sorted [] rises = λ k d low high. absurd (omega (arith, high))
refs_sorted (x ∷ refs) rises = λ k d low high.
    let long = length-map (x ∷ refs) (λ (r : Bor TreePath). r.now) in
    let inside : k + 1 < length (x ∷ refs) = omega (arith, high, long) in
    let next = get_or-map (λ (r : Bor TreePath). r.now) (x ∷ refs) (k + 1) x d inside in
    let this = get_or-map (λ (r : Bor TreePath). r.now) (x ∷ refs) k x d (omega (arith, inside)) in
    (λ i. is_lt (path_cmp (next i) (this i))) ∙ rises k x low inside

-- ---- what is answered

pub is_extra : (found listed : List Path) (test : Bool) → test ≡ has_outside found listed → test ≡ true → Some Extra ≡ difference_of found listed
is_extra found listed test is passes = ap (λ t. cond t (Some Extra) (cond (has_outside listed found) (Some Missing) None)) (sym passes ∙ is)

pub is_inside : (found listed : List Path) (test more : Bool) → test ≡ has_outside found listed → more ≡ has_outside listed found → test ≡ false → cond more (Some Missing) None ≡ difference_of found listed
is_inside found listed test more is also fails =
    ap (λ t. cond t (Some Extra) (cond more (Some Missing) None)) (sym fails ∙ is)
    ∙ ap (λ t. cond (has_outside found listed) (Some Extra) (cond t (Some Missing) None)) also

pub is_missing : (found listed : List Path) (test more : Bool) → test ≡ has_outside found listed → more ≡ has_outside listed found → test ≡ false → more ≡ true → Some Missing ≡ difference_of found listed
is_missing found listed test more is also fails passes = ap (λ t. cond t (Some Missing) None) (sym passes) ∙ is_inside found listed test more is also fails

pub are_same : (found listed : List Path) (test more : Bool) → test ≡ has_outside found listed → more ≡ has_outside listed found → test ≡ false → more ≡ false → None ≡ difference_of found listed
are_same found listed test more is also fails none = ap (λ t. cond t (Some Missing) None) (sym none) ∙ is_inside found listed test more is also fails

pub same_difference : (found listed : List Path) (refs ordered slice other_slice : List (Bor TreePath)) (answer : Option Difference) → IsPermutation found (seen refs) → IsPermutation listed (seen ordered) → slice ≡ refs → other_slice ≡ ordered
    → answer ≡ difference_of (seen slice) (seen other_slice) → answer ≡ difference_of found listed
same_difference found listed refs ordered slice other_slice answer one other same alike is =
    is
    ∙ (λ i. difference_of (seen (same i)) (seen (alike i)))
    ∙ (λ i. cond (outside_moved found listed (seen refs) (seen ordered) one other i) (Some Extra) (cond (outside_moved listed found (seen ordered) (seen refs) other one i) (Some Missing) None))
