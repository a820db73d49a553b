-- The files of the load: each path once, in one line.
use Rattle.std.proofs.Common.{◌≡◌, ◌<◌, ◌≤◌, ◌+◌, ◌-◌, ◌*◌, ◌++◌, ℕ, zero, suc, cond, List, [], ◌∷◌, length, refl, ap, sym, ◌∙◌, arith}
use Rattle.std.specs.Prelude.{Some, None, flat_map, slice_index}
use Rattle.std.specs.List.{range_with_len}
use Rattle.std.proofs.lemmas.List.{append-nil, append_assoc, map-id}
use Rattle.std.proofs.lemmas.List.FromFn.{map-range_with_len_more}
use Rattle.std.specs.FinMap as map
use Rattle.vk_spec.specs.Paths.{Path, path_cmp}
use Rattle.vk_spec.specs.States.{State}
use Rattle.vk_spec.proofs.FileLemmas.{path_total, path_same, ties_other}
use Rattle.vk_tree.specs.MemTrees.{with_file}
use Rattle.vk_gen.specs.Loads.{File, port_name, project_files, port_files, load_list, load_state, untouched}
use Rattle.vk_gen.specs.Puts.{with_files}

-- the number in a port's name
abbrev pub number_in : List ℕ → ℕ
number_in part = (slice_index part 1 - 48) * 1000 + (slice_index part 2 - 48) * 100 + (slice_index part 3 - 48) * 10 + (slice_index part 4 - 48)

pub number_named : (k : ℕ) → k < 10000 → number_in (port_name k) ≡ k
number_named k small = omega arith

-- a number for each path of the load, greater than those before it
abbrev pub rank_of : Path → ℕ
rank_of [] = 0
rank_of (x ∷ []) = 0
rank_of (x ∷ file ∷ []) = length file
rank_of (x ∷ a ∷ file ∷ []) = 30
rank_of (x ∷ a ∷ b ∷ file ∷ []) = 40
rank_of (x ∷ a ∷ b ∷ c ∷ file ∷ []) = 50 + 3 * number_in file
rank_of (x ∷ a ∷ b ∷ name ∷ version ∷ file ∷ rest) = 51 + 3 * number_in name + (slice_index version 2 - 48)

abbrev pub AreInLine : ℕ → List File → Type 0
AreInLine r [] = Unit {0}
AreInLine r (e ∷ es) = (r ≤ rank_of e.0) × AreInLine (rank_of e.0 + 1) es

abbrev pub AreBelow : ℕ → List File → Type 0
AreBelow r [] = Unit {0}
AreBelow r (e ∷ es) = (rank_of e.0 < r) × AreBelow r es

below_more : (r s : ℕ) (es : List File) → AreBelow r es → r ≤ s → AreBelow s es
below_more r s [] below more = tt
below_more r s (e ∷ es) below more = (omega (arith, below.0, more), below_more r s es below.1 more)

below_push : (r : ℕ) (es : List File) (e : File) → AreBelow r es → rank_of e.0 < r → AreBelow r (es ++ e ∷ [])
below_push r [] e below last = (last, tt)
below_push r (d ∷ es) e below last = (below.0, below_push r es e below.1 last)

-- a path of a greater rank is none of these
pub none_found : (p : Path) (es : List File) → AreBelow (rank_of p) es → map.find path_cmp p es ≡ None
none_found p [] below = refl
none_found p (e ∷ es) below =
    ap (λ b. cond b (Some e.1) (map.find path_cmp p es)) (ties_other p e.0 (λ same. omega (arith, ap rank_of same, below.0))) ∙ none_found p es below.1

-- to put them one after the other is to hold them all
built : (done es : List File) (r : ℕ) → AreBelow r done → AreInLine r es → with_files es (untouched (map.from_entries done)) ≡ untouched (map.from_entries (done ++ es))
built done [] r below line = ap (λ l. untouched (map.from_entries l)) (sym (append-nil done))
built done (e ∷ es) r below line =
    let none : map.find path_cmp e.0 done ≡ None = none_found e.0 done (below_more r (rank_of e.0) done below line.0) in
    let before : AreBelow (rank_of e.0 + 1) (done ++ e ∷ []) = below_push (rank_of e.0 + 1) done e (below_more r (rank_of e.0 + 1) done below (omega (arith, line.0))) (omega arith) in
    ap (λ f. with_files es (untouched f)) (sym (map.from_entries_push path_total path_same done e.0 e.1 none))
    ∙ built (done ++ e ∷ []) es (rank_of e.0 + 1) before line.1
    ∙ ap (λ l. untouched (map.from_entries l)) (append_assoc done (e ∷ []) es)

ports_line : (size k n r : ℕ) → k + n ≤ 10000 → r ≤ 50 + 3 * k → AreInLine r (flat_map (port_files size) (range_with_len k n))
ports_line size k zero r few low = tt
ports_line size k (suc n) r few low =
    let named : number_in (port_name k) ≡ k = number_named k (omega (arith, few)) in
    (omega (arith, named, low), (omega arith, (omega arith, ports_line size (k + 1) n _ (omega (arith, few)) (omega (arith, named)))))

pub ports_below : (size k n r : ℕ) → k + n ≤ 10000 → 50 + 3 * (k + n) ≤ r → AreBelow r (flat_map (port_files size) (range_with_len k n))
ports_below size k zero r few high = tt
ports_below size k (suc n) r few high =
    let named : number_in (port_name k) ≡ k = number_named k (omega (arith, few)) in
    (omega (arith, named, high), (omega (arith, named, high), (omega (arith, named, high), ports_below size (k + 1) n r (omega (arith, few)) (omega (arith, high)))))

pub load_line : (size : ℕ) → size ≤ 10000 → AreInLine 0 (load_list size)
load_line size few = (omega arith, (omega arith, (omega arith, (omega arith, ports_line size 0 size 41 (omega (arith, few)) (omega arith)))))

-- one list after another
pub with_files-append : (xs ys : List File) (s : State) → with_files (xs ++ ys) s ≡ with_files ys (with_files xs s)
with_files-append [] ys s = refl
with_files-append (x ∷ xs) ys s = with_files-append xs ys (with_file x.0 x.1 s)

pub all_put : (size : ℕ) → size ≤ 10000 → with_files (flat_map (port_files size) (range_with_len 0 size)) (with_files (project_files size) (untouched map.empty)) ≡ load_state size
all_put size few =
    sym (with_files-append (project_files size) (flat_map (port_files size) (range_with_len 0 size)) (untouched map.empty)) ∙ built [] (load_list size) 0 tt (load_line size few)

range_more : (k : ℕ) → range_with_len 0 (k + 1) ≡ range_with_len 0 k ++ k ∷ []
range_more k = sym (map-id (range_with_len 0 (k + 1))) ∙ map-range_with_len_more (λ x. x) 0 k k (omega arith) ∙ ap (λ l. l ++ k ∷ []) (map-id (range_with_len 0 k))

flat_map-push : {X Y : Type 0} (f : X → List Y) (xs : List X) (x : X) → flat_map f (xs ++ x ∷ []) ≡ flat_map f xs ++ f x
flat_map-push f [] x = append-nil (f x)
flat_map-push f (y ∷ xs) x = ap (λ l. f y ++ l) (flat_map-push f xs x) ∙ sym (append_assoc (f y) (flat_map f xs) (f x))

-- one port more
pub port_put : (size k : ℕ) (s : State) → with_files (port_files size k) (with_files (flat_map (port_files size) (range_with_len 0 k)) s) ≡ with_files (flat_map (port_files size) (range_with_len 0 (k + 1))) s
port_put size k s =
    sym (with_files-append (flat_map (port_files size) (range_with_len 0 k)) (port_files size k) s)
    ∙ ap (λ l. with_files l s) (sym (ap (flat_map (port_files size)) (range_more k) ∙ flat_map-push (port_files size) (range_with_len 0 k) k))
