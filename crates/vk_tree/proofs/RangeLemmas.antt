-- The files after a folder, as a range of a map gives them.
use Rattle.std.proofs.Common.{BTreeMap, ◌≡◌, ◌&&◌, inl, inr, ℕ, true, false, cond, List, [], ◌∷◌, refl, ap, sym, ◌∙◌, subst}
use Rattle.std.proofs.lemmas.List.Elements.{All-contains, All-map, All-weaker}
use Rattle.std.proofs.lemmas.List.Kept.{IsStrictlySortedBy-filter}
use Rattle.std.proofs.lemmas.Map.Views.{Contains-keys_from_lookup}
use Rattle.std.specs.Prelude.{Bool, IsSome, is_some}
use Rattle.std.specs.List.{AllByRecursion, Contains, filter}
use Rattle.std.specs.List.Sorted.{IsStrictlySortedBy}
use Rattle.std.specs.Map.{keys_of}
use Rattle.std.specs.BTreeMap.Range.{IsRangeOf, IsEntryInRange, range_contains, entries_between}
use Rattle.std.specs.declared.ops.Bound.TheVariants.{Excluded, Unbounded}
use Rattle.std.specs.declared.cmp.Ordering.TheVariants.{Less, Equal, Greater}
use Rattle.std.specs.declared.cmp.Ordering.{Ordering}
use Rattle.std.specs.Ordering.{is_lt, is_eq, eq_by_cmp}
use Rattle.std.specs.FinMap as fin
use Rattle.vk_spec.specs.Paths.{Path, path_cmp, Begins}
use Rattle.vk_spec.specs.Standing.{Disk, disk_of, IsListing}
use Rattle.vk_spec.proofs.FileLemmas.{path_same}
use Rattle.vk_spec.proofs.ListLemmas.{contains_nothing, contains_first, contains_later, contains_cases}
use Rattle.vk_tree.specs.declared.trees.Listed.{Listed}
use Rattle.vk_tree.specs.Answers.{entries_of}
use Rattle.vk_tree.specs.Listing.{IsAscending, Lists}
use Rattle.vk_tree.proofs.FileMapLemmas.{Entries, get_path, stored}
use Rattle.vk_tree.proofs.ListingLemmas.{none_listed, all_listed, rest_apart}

all_of : (P : Path → Type 0) (ps : List Path) (q : Path) → AllByRecursion P ps → Contains ps q → P q
all_of P [] q all at = absurd (contains_nothing q at)
all_of P (p ∷ ps) q all at = elim (contains_cases p q ps at) [
  | inl same ↦ subst P same all.0
  | inr later ↦ all_of P ps q all.1 later
]

pub sorted_ascending : (ps : List Path) → IsStrictlySortedBy path_cmp ps → IsAscending ps
unfolding IsStrictlySortedBy
sorted_ascending [] sorted = tt
sorted_ascending (p ∷ ps) sorted = ((λ q at. all_of (λ y. path_cmp p y ≡ Less) ps q sorted.0 at), sorted_ascending ps sorted.1)

keys_kept : (test : Path → Bool) (es : Entries) → keys_of (filter (λ e. test e.0) es) ≡ filter test (keys_of es)
keys_kept test [] = refl
keys_kept test (e ∷ es) =
    elim (test e.0) as (λ t. keys_of (cond t (e ∷ filter (λ x. test x.0) es) (filter (λ x. test x.0) es)) ≡ cond t (e.0 ∷ filter test (keys_of es)) (filter test (keys_of es))) [
      | true ↦ ap (λ l. e.0 ∷ l) (keys_kept test es)
      | false ↦ keys_kept test es
    ]

kept : (test : Path → Bool) (ps : List Path) (q : Path) → Contains ps q → test q ≡ true → Contains (filter test ps) q
kept test [] q at is = absurd (contains_nothing q at)
kept test (p ∷ ps) q at is =
    elim (contains_cases p q ps at) [
      | inl same ↦ subst (λ t. Contains (cond t (p ∷ filter test ps) (filter test ps)) q) (sym (ap test same ∙ is)) (subst (Contains (p ∷ filter test ps)) same (contains_first p (filter test ps)))
      | inr later ↦ elim (test p) as (λ t. Contains (cond t (p ∷ filter test ps) (filter test ps)) q) [
        | true ↦ contains_later p q (filter test ps) (kept test ps q later is)
        | false ↦ kept test ps q later is
      ]
    ]

is_equal : (o : Ordering) → is_eq o ≡ true → o ≡ Equal
is_equal Less e = (cc)
is_equal Equal e = refl
is_equal Greater e = (cc)

same_path : (p q : Path) → eq_by_cmp path_cmp p q ≡ true → p ≡ q
same_path p q tied = path_same p q (is_equal (path_cmp p q) tied)

-- all files after the folder are left, and no entry is found
pub range_listed : (m : BTreeMap Path (List ℕ)) (dir : Path) (r : Entries) → IsStrictlySortedBy path_cmp (keys_of m.entries)
    → r ≡ entries_between path_cmp (Excluded dir) Unbounded m.entries → IsRangeOf path_cmp (Excluded dir) Unbounded m r
    → Lists (disk_of (fin.from_entries m.entries)) dir (keys_of r) []
range_listed m dir r sorted between within =
    let test : Path → Bool = λ q. range_contains path_cmp (Excluded dir) Unbounded q in
    let keys : keys_of r ≡ filter test (keys_of m.entries) = ap keys_of between ∙ keys_kept test m.entries in
    let each = All-map (λ q. (path_cmp dir q ≡ Less) × IsSome (fin.get (fin.from_entries {R = path_cmp} m.entries) q)) (λ e. e.0) r
    (All-weaker (IsEntryInRange path_cmp (Excluded dir) Unbounded m) (λ e. (path_cmp dir e.0 ≡ Less) × IsSome (fin.get (fin.from_entries {R = path_cmp} m.entries) e.0))
    (λ e is. (is.0.0, ap is_some (get_path m.entries e.0 ∙ is.1))) r within.0) in
    none_listed (disk_of (fin.from_entries m.entries)) dir (keys_of r)
    (sorted_ascending (keys_of r) (subst (IsStrictlySortedBy path_cmp) (sym keys) (IsStrictlySortedBy-filter path_cmp test (keys_of m.entries) sorted)))
    (λ q at. All-contains (λ p. (path_cmp dir p ≡ Less) × IsSome (fin.get (fin.from_entries {R = path_cmp} m.entries) p)) (keys_of r) q each at)
    (λ q some less. subst (λ l. Contains l q) (sym keys) (kept test (keys_of m.entries) q
    (Contains-keys_from_lookup {eq = eq_by_cmp path_cmp} same_path q m.entries (stored m.entries q some))
    (ap (λ o. is_lt o && true) less)))

-- no file is left, or the next one lies in another folder
pub all_gone : (d : Disk) (dir : Path) (left : Entries) (found : List Listed) → left ≡ [] → Lists d dir (keys_of left) (entries_of found) → IsListing d dir (entries_of found)
all_gone d dir left found none lists = all_listed d dir (entries_of found) (subst (λ l. Lists d dir (keys_of l) (entries_of found)) none lists)

pub all_passed : (d : Disk) (dir : Path) (left rest : Entries) (e : Path × List ℕ) (found : List Listed) → left ≡ e ∷ rest → (Begins dir e.0 → ⊥) → Lists d dir (keys_of left) (entries_of found) → IsListing d dir (entries_of found)
all_passed d dir left rest e found next apart lists =
    rest_apart d dir e.0 (keys_of rest) (entries_of found) apart (subst (λ l. Lists d dir (keys_of l) (entries_of found)) next lists)
