-- The entries of a map in memory as files.
use Rattle.std.proofs.Common.{◌≡◌, subst, ℕ, List, [], ◌∷◌, ◌++◌, cond, refl, sym, ap, ◌∙◌}
use Rattle.std.proofs.lemmas.List.{append-nil}
use Rattle.std.specs.Prelude.{IsSome, IfSome, is_some, slice_get, Some, None}
use Rattle.std.specs.declared.cmp.Ordering.TheVariants.{Less}
use Rattle.std.specs.Cmp.{eq_by_cmp_equiv}
use Rattle.std.specs.Ordering.{eq_by_cmp}
use Rattle.std.specs.BTreeMap.{is_at}
use Rattle.std.specs.Map.{lookup}
use Rattle.std.specs.FinMap as map
use Rattle.vk_spec.specs.Paths.{Path, path_cmp, Begins}
use Rattle.vk_spec.specs.Files.{Files, IsFreeBelow}
use Rattle.vk_spec.specs.Standing.{disk_of, under, bare, drop_at, Same, IsFile, IsFolder, Stands}
use Rattle.vk_spec.proofs.OrderLemmas.{below_from, none_where}
use Rattle.vk_spec.proofs.FileLemmas.{path_total, path_same, none_some}

abbrev pub Entries : Type 0
Entries = List (Path × List ℕ)

find_path : (es : Entries) (q : Path) → map.find path_cmp q es ≡ lookup (is_at (path_cmp q)) es
find_path [] q = refl
find_path (e ∷ es) q = ap (cond (is_at (path_cmp q) e.0) (Some e.1)) (find_path es q)

-- what the files have at a path
pub get_path : (es : Entries) (q : Path) → map.get (map.from_entries {R = path_cmp} es) q ≡ lookup (is_at (path_cmp q)) es
get_path es q = map.get-from_entries path_total es q ∙ find_path es q

-- entries that differ at one path are files that differ there
pub one_put : (es fs : Entries) (p : Path) (v : List ℕ) → ((q : Path) → lookup (is_at (path_cmp q)) fs ≡ cond (is_at (path_cmp p) q) (Some v) (lookup (is_at (path_cmp q)) es)) → map.from_entries {R = path_cmp} fs ≡ map.insert (map.from_entries es) p v
one_put es fs p v h = map.same_map path_total path_same _ _ (λ q.
    get_path fs q ∙ h q ∙ ap (λ b. cond b (Some v) (lookup (is_at (path_cmp q)) es)) ((eq_by_cmp_equiv path_total).symm p q)
    ∙ sym (map.get-insert path_total (map.from_entries es) p v q ∙ ap (cond (eq_by_cmp path_cmp q p) (Some v)) (get_path es q)))

-- a path at which a file stands is one at which the entries have something
pub stored : (es : Entries) (q : Path) → IsSome (map.get (map.from_entries {R = path_cmp} es) q) → IsSome (lookup (is_at (path_cmp q)) es)
stored es q found = ap is_some (sym (get_path es q)) ∙ found

pub found_at : (es : Entries) (q : Path) (v : List ℕ) → lookup (is_at (path_cmp q)) es ≡ Some v → IsSome (map.get (map.from_entries {R = path_cmp} es) q)
found_at es q v e = ap is_some (get_path es q ∙ e)

-- what is known of the first of a list
pub of_first : {X : Type 0} (P : X → Type 0) (r t : List X) (e : X) → r ≡ e ∷ t → IfSome (slice_get r 0) P → P e
of_first P r t e is h = subst (λ l. IfSome (slice_get l 0) P) is h

-- ---- what stands at a path

-- the first file after a path, which the path begins, lies below
pub folder_at : (f : Files) (p h : Path) → IsSome (map.get f h) → path_cmp p h ≡ Less → Begins p h → IsFolder (disk_of f) p
folder_at f p h some less begins =
    let below = below_from p h less begins in (below.0, below.1, ap is_some (ap (map.get f) (sym below.2)) ∙ some)

pub file_stands : (f : Files) (p : Path) → IsFile (disk_of f) p → Stands (disk_of f) p
file_stands f p some = ([], ap (λ q. is_some (map.get f q)) (append-nil p) ∙ some)

pub folder_stands : (f : Files) (p : Path) → IsFolder (disk_of f) p → Stands (disk_of f) p
folder_stands f p h = (h.0 ∷ h.1, h.2)

-- no file at the path, and none below it
pub nothing_at : (f : Files) (p : Path) → (IsSome (map.get f p) → ⊥) → IsFreeBelow p f → Same bare (under p (disk_of f))
nothing_at f p out free [] = ap (map.get f) (append-nil p) ∙ none_where (map.get f p) out
nothing_at f p out free (part ∷ rest) = free part rest

pub nothing_stands : (f : Files) (p : Path) → Same bare (under p (disk_of f)) → Stands (disk_of f) p → ⊥
nothing_stands f p nothing h = none_some (map.get f (p ++ h.0)) (nothing h.0) h.1

-- entries without one path are the files without it
pub one_removed : (es fs : Entries) (p : Path) → ((q : Path) → lookup (is_at (path_cmp q)) fs ≡ cond (is_at (path_cmp p) q) None (lookup (is_at (path_cmp q)) es))
    → Same (drop_at p (disk_of (map.from_entries {R = path_cmp} es))) (disk_of (map.from_entries {R = path_cmp} fs))
one_removed es fs p h q =
    get_path fs q ∙ h q ∙ ap (λ t. cond t None (lookup (is_at (path_cmp q)) es)) ((eq_by_cmp_equiv path_total).symm p q) ∙ ap (cond (eq_by_cmp path_cmp q p) None) (sym (get_path es q))
