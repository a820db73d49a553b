-- What the load holds, as its laws say it.
use Rattle.std.proofs.Common.{◌≡◌, ◌<◌, ◌≤◌, ◌+◌, ◌*◌, ℕ, zero, suc, cond, true, false, List, [], ◌∷◌, length, inl, inr, refl, ap, sym, ◌∙◌, subst, arith}
use Rattle.std.specs.Prelude.{◌↔◌, Option, Some, None, IsSome, is_some, flat_map}
use Rattle.std.specs.List.{Contains, range_with_len}
use Rattle.std.proofs.lemmas.List.Elements.{Contains-append_right}
use Rattle.std.proofs.lemmas.List.FromFn.{length-range_with_len, get_or-range_with_len}
use Rattle.std.specs.FinMap as map
use Rattle.vk_spec.specs.Paths.{Path, path_cmp}
use Rattle.vk_spec.specs.Files.{IsTree}
use Rattle.vk_spec.proofs.FileLemmas.{path_total, same_or_other, ties_same, ties_other}
use Rattle.vk_spec.proofs.ListLemmas.{contains_nothing, contains_first, contains_later, contains_cases, flat_map-contains}
use Rattle.vk_gen.specs.Loads.{File, port_name, table_path, table_text, manifest_path, older, older_manifest, newer, newer_manifest, project_files, port_files, load_list, load_files}
use Rattle.vk_gen.specs.Puts.{is_file_path}
use Rattle.vk_gen.proofs.FilePaths.{are_tree}
use Rattle.vk_gen.proofs.LoadLemmas.{rank_of, number_in, number_named, AreInLine, none_found, ports_below, load_line}

-- a file in line has no lower rank
ranked : (r : ℕ) (es : List File) (x : File) → AreInLine r es → Contains es x → r ≤ rank_of x.0
ranked r [] x line h = absurd (contains_nothing x h)
ranked r (e ∷ es) x line h =
    elim (contains_cases e x es h) [
      | inl same ↦ omega (arith, line.0, ap (λ (y : File). rank_of y.0) same)
      | inr later ↦ (let more = ranked (rank_of e.0 + 1) es x line.1 later in omega (arith, line.0, more))
    ]

-- what is found is listed
found_listed : (p : Path) (v : List ℕ) (es : List File) → map.find path_cmp p es ≡ Some v → Contains es (p, v)
found_listed p v [] e = let clash : None ≡ Some v = e in (cc)
found_listed p v (d ∷ es) e =
    elim (same_or_other p d.0) [
      | inl same ↦ (
          let is : Some d.1 ≡ Some v = ap (λ b. cond b (Some d.1) (map.find path_cmp p es)) (sym (ties_same p d.0 same)) ∙ e in
          let value : d.1 ≡ v = (cc) in
          let pair : d ≡ (p, v) = λ i. (sym same i, value i) in
          subst (Contains (d ∷ es)) pair (contains_first d es)
          )
      | inr other ↦ contains_later d (p, v) es (found_listed p v es (ap (λ b. cond b (Some d.1) (map.find path_cmp p es)) (sym (ties_other p d.0 other)) ∙ e))
    ]

-- and what is listed is found
listed_found : (r : ℕ) (p : Path) (v : List ℕ) (es : List File) → AreInLine r es → Contains es (p, v) → map.find path_cmp p es ≡ Some v
listed_found r p v [] line h = absurd (contains_nothing (p, v) h)
listed_found r p v (d ∷ es) line h =
    elim (contains_cases d (p, v) es h) [
      | inl same ↦ ap (λ b. cond b (Some d.1) (map.find path_cmp p es)) (ties_same p d.0 (sym (ap (λ (y : File). y.0) same))) ∙ ap (λ (y : File). Some y.1) same
      | inr later ↦ (
          let more = ranked (rank_of d.0 + 1) es (p, v) line.1 later in
          ap (λ b. cond b (Some d.1) (map.find path_cmp p es)) (ties_other p d.0 (λ e. omega (arith, more, ap rank_of e))) ∙ listed_found (rank_of d.0 + 1) p v es line.1 later
          )
    ]

get_load : (size : ℕ) (p : Path) → map.get (load_files size) p ≡ map.find path_cmp p (load_list size)
get_load size p = map.get-from_entries path_total (load_list size) p

pub held : (size : ℕ) → size ≤ 10000 → (p : Path) (v : List ℕ) → (map.get (load_files size) p ≡ Some v) ↔ Contains (load_list size) (p, v)
held size few p v = (
  (λ e. found_listed p v (load_list size) (sym (get_load size p) ∙ e)),
  (λ h. get_load size p ∙ listed_found 0 p v (load_list size) (load_line size few) h),
)

-- ---- how many files there are

none_before : (p : Path) (r : ℕ) (es : List File) → AreInLine r es → rank_of p < r → map.find path_cmp p es ≡ None
none_before p r [] line low = refl
none_before p r (e ∷ es) line low =
    ap (λ b. cond b (Some e.1) (map.find path_cmp p es)) (ties_other p e.0 (λ same. omega (arith, low, line.0, ap rank_of same))) ∙ none_before p (rank_of e.0 + 1) es line.1 (omega (arith, low, line.0))

in_line : (r : ℕ) (es : List File) → AreInLine r es → map.len (map.from_entries {R = path_cmp} es) ≡ length es
in_line r [] line = map.len-empty path_cmp (List ℕ)
in_line r (e ∷ es) line =
    let files = map.from_entries {R = path_cmp} es in
    let new : is_some (map.get files e.0) ≡ false = ap is_some (map.get-from_entries path_total es e.0 ∙ none_before e.0 (rank_of e.0 + 1) es line.1 (omega arith)) in
    let more : map.len (map.insert files e.0 e.1) ≡ map.len files + 1 = map.len-insert path_total files e.0 e.1 ∙ ap (λ b. cond b (map.len files) (map.len files + 1)) new in
    omega (arith, more, in_line (rank_of e.0 + 1) es line.1)

ports_long : (size k n : ℕ) → length (flat_map (port_files size) (range_with_len k n)) ≡ 3 * n
ports_long size k zero = refl
ports_long size k (suc n) = omega (arith, ports_long size (k + 1) n)

pub counted : (size : ℕ) → size ≤ 10000 → map.len (load_files size) ≡ 3 * size + 4
counted size few = omega (arith, in_line 0 (load_list size) (load_line size few), ports_long size 0 size)

-- ---- the files of a port

in_range : (size k : ℕ) → k < size → Contains (range_with_len 0 size) k
in_range size k small = (k, omega (arith, length-range_with_len 0 size), get_or-range_with_len 0 size k k small ∙ omega arith)

port_listed : (size k : ℕ) (x : File) → k < size → Contains (port_files size k) x → Contains (load_list size) x
port_listed size k x small h = Contains-append_right (project_files size) (flat_map (port_files size) (range_with_len 0 size)) x (flat_map-contains (port_files size) (range_with_len 0 size) k x (in_range size k small) h)

module _ (size k : ℕ) (few : size ≤ 10000) (small : k < size) where
  pub table_held : map.get (load_files size) (table_path k) ≡ Some (table_text k)
  table_held = (held size few (table_path k) (table_text k)).1 (port_listed size k (table_path k, table_text k) small (0, omega arith, refl))

  pub older_held : map.get (load_files size) (manifest_path k older) ≡ Some (older_manifest size k)
  older_held = (held size few (manifest_path k older) (older_manifest size k)).1 (port_listed size k (manifest_path k older, older_manifest size k) small (1, omega arith, refl))

  pub newer_held : map.get (load_files size) (manifest_path k newer) ≡ Some (newer_manifest size k)
  newer_held = (held size few (manifest_path k newer) (newer_manifest size k)).1 (port_listed size k (manifest_path k newer, newer_manifest size k) small (2, omega arith, refl))

pub no_other : (size k : ℕ) → size ≤ k → k < 10000 → map.get (load_files size) (table_path k) ≡ None
no_other size k past small =
    let named : number_in (port_name k) ≡ k = number_named k small in
    get_load size (table_path k) ∙ none_found (table_path k) (load_list size)
    (omega (arith, named), (omega (arith, named), (omega (arith, named), (omega (arith, named), ports_below size 0 size _ (omega (arith, past, small)) (omega (arith, named, past))))))

-- ---- a tree

abbrev AreAllAt : List File → Type 0
AreAllAt [] = Unit {0}
AreAllAt (e ∷ es) = (is_file_path e.0 ≡ true) × AreAllAt es

listed_at : (es : List File) (x : File) → AreAllAt es → Contains es x → is_file_path x.0 ≡ true
listed_at [] x each h = absurd (contains_nothing x h)
listed_at (e ∷ es) x each h =
    elim (contains_cases e x es h) [
      | inl same ↦ subst (λ (y : File). is_file_path y.0 ≡ true) same each.0
      | inr later ↦ listed_at es x each.1 later
    ]

ports_at : (size k n : ℕ) → AreAllAt (flat_map (port_files size) (range_with_len k n))
ports_at size k zero = tt
ports_at size k (suc n) = (refl, (refl, (refl, ports_at size (k + 1) n)))

load_at : (size : ℕ) → AreAllAt (load_list size)
load_at size = (refl, (refl, (refl, (refl, ports_at size 0 size))))

value_of : {X : Type 0} (o : Option X) → IsSome o → (x : X) × (o ≡ Some x)
value_of None some = let clash : false ≡ true = some in absurd ((cc))
value_of (Some x) some = (x, refl)

pub load_tree : (size : ℕ) → IsTree (load_files size)
load_tree size = are_tree (load_files size) (λ p some.
    let v = value_of (map.get (load_files size) p) some in
    listed_at (load_list size) (p, v.0) (load_at size) (found_listed p v.0 (load_list size) (sym (get_load size p) ∙ v.1)))
