-- The folders of a project, and what follows where nothing is wrong with a store.
use Rattle.std.proofs.Common.{◌≡◌, ◌++◌, ◌||◌, ◌+◌, ◌<◌, ◌≤◌, ℕ, Bool, true, false, cond, List, [], ◌∷◌, length, take, map, flat_map, refl, ap, sym, subst, ◌∙◌, append_assoc, arith}
use Rattle.std.specs.Prelude.{Option, Some, None, Result, Ok}
use Rattle.std.specs.List.{All, find}
use Rattle.std.proofs.lemmas.List.{take_all, take_more}
use Rattle.std.proofs.lemmas.List.Elements.{All-nil, All-cons}
use Rattle.std.proofs.lemmas.List.FromFn.{length-map-range_with_len, get_or-map-range_with_len}
use Rattle.vk_spec.specs.Earlies.{Early}
use Rattle.vk_spec.specs.Files.{Files}
use Rattle.vk_spec.specs.Paths.{Path}
use Rattle.vk_spec.specs.Reading.{◌>>=◌}
use Rattle.vk_spec.proofs.ReadingLemmas.{bind_ok}
use Rattle.vk_base.specs.Paths.{parts_of, begins, is_far_up, has_in_it, overlaps}
use Rattle.vk_base.proofs.PathLemmas.{no_begin}
use Rattle.vk_config.specs.Configs.{Config}
use Rattle.vk_config.specs.Views.{registry_view, source_view}
use Rattle.vk_config.specs.declared.registries.Registry.{Registry}
use Rattle.vk_files.specs.Readings.{is_at}
use Rattle.vk_model.specs.declared.projects.Project.{Project}
use Rattle.vk_model.specs.declared.projects.Store.{Store}
use Rattle.vk_opening.specs.Laws.{AreApart, IsFree, IsOutside, IsStored}
use Rattle.vk_opening.specs.Stores.{above, prefixes, source_folder, outer_folders, refused_if, refused_beside, apart_from, apart_by, apart, store_folders, unblocked, stored_at}

-- ---- lists of folders

-- one more of the prefixes, and all of them
pub one_above : (path p : Path) (initial places : List Path) (count : ℕ) → count < length (parts_of path) → places ≡ initial ++ take count (above path) → p ≡ take (count + 1) path → places ++ p ∷ [] ≡ initial ++ take (count + 1) (above path)
one_above path p initial places count within so_far is =
    let size = length-map-range_with_len (λ n. take (n + 1) path) 0 (length (parts_of path)) in
    let next = take_more (above path) count p (subst (λ n. count < n) (sym size) within) in
    let there = get_or-map-range_with_len (λ n. take (n + 1) path) 0 (length (parts_of path)) count count p within (omega arith) in
    ap (λ l. l ++ p ∷ []) so_far ∙ append_assoc initial (take count (above path)) (p ∷ [])
    ∙ ap (λ l. initial ++ l) (ap (λ q. take count (above path) ++ q ∷ []) (is ∙ sym there) ∙ sym next)

pub all_above : (path p : Path) (initial places : List Path) (count : ℕ) → length (parts_of path) ≤ count → places ≡ initial ++ take count (above path) → p ≡ path → places ++ p ∷ [] ≡ initial ++ prefixes path
all_above path p initial places count past so_far is =
    let size = length-map-range_with_len (λ n. take (n + 1) path) 0 (length (parts_of path)) in
    let whole = take_all count (above path) (subst (λ n. n ≤ count) (sym size) past) in
    ap (λ l. l ++ p ∷ []) (so_far ∙ ap (λ l. initial ++ l) whole) ∙ append_assoc initial (above path) (p ∷ []) ∙ ap (λ q. initial ++ (above path ++ q ∷ [])) is

-- the folders of registries by their views
pub registries_seen : (project : Path) (registries : List Registry) → flat_map (λ r. source_folder project (source_view r.source)) registries ≡ flat_map (λ r. source_folder project r.source) (map registry_view registries)
registries_seen project [] = refl
registries_seen project (r ∷ registries) = ap (λ l. source_folder project (source_view r.source) ++ l) (registries_seen project registries)

-- ---- what follows where nothing is refused

neither : (a b : Bool) → (a || b) ≡ false → (a ≡ false) × (b ≡ false)
neither true b e = (cc)
neither false b e = (refl, e)

-- a folder that hasn't a path in it doesn't begin it, and isn't far up
outside : (folder path : Path) → has_in_it folder path ≡ false → IsOutside folder path
outside folder path fails = let n = neither (begins folder path) (is_far_up folder path) fails in (no_begin folder path n.0, n.1)

no_overlap : (one other : Path) → overlaps one other ≡ false → AreApart one other
no_overlap one other fails = let n = neither (has_in_it one other) (has_in_it other one) fails in (outside one other n.0, outside other one n.1)

not_refused : (wrong : Bool) (one other : Path) → refused_if wrong one other ≡ Ok tt → wrong ≡ false
not_refused true one other e = (cc)
not_refused false one other e = refl

-- a test that finds none fails on each
none_passes : {X : Type 0} (P : X → Type 0) (test : X → Bool) (fails : (x : X) → test x ≡ false → P x) (xs : List X) → find test xs ≡ None → All P xs
none_passes P test fails [] e = All-nil P
none_passes P test fails (x ∷ xs) e = by (none_passes P test fails xs) (test x) refl e
  where
    by : (find test xs ≡ None → All P xs) → (passes : Bool) → test x ≡ passes → cond passes (Some x) (find test xs) ≡ None → All P (x ∷ xs)
    by later true is e = (cc)
    by later false is e = All-cons P x xs (fails x is) (later e)

beside_none : (folder : Path) (other : Option Path) → refused_beside folder other ≡ Ok tt → other ≡ None
beside_none folder None e = refl
beside_none folder (Some other) e = (cc)

unblocked_none : (path : Option Path) → unblocked path ≡ Ok tt → path ≡ None
unblocked_none None e = refl
unblocked_none (Some path) e = (cc)

apart_all : (folder : Path) (others : List Path) → apart_from folder others ≡ Ok tt → All (AreApart folder) others
apart_all folder others e = none_passes (AreApart folder) (overlaps folder) (no_overlap folder) others (beside_none folder (find (overlaps folder) others) e)

-- one step after the other
both_done : (one : Result (Unit {0}) Early) (next : Result (Unit {0}) Early) → (one >>= λ done. next) ≡ Ok tt → (one ≡ Ok tt) × (next ≡ Ok tt)
both_done one next e = let r = bind_ok one (λ done. next) tt e in (r.1, r.2)

pub stored_is : (project : Project) (store : Store) (config : Config) (files : Files) → stored_at project store config files ≡ Ok tt → IsStored project store config files
unfolding stored_at apart_by
stored_is project store config files e =
    let outer = outer_folders project config in
    let place = both_done (apart project store config) (unblocked (find (is_at files) (store_folders store))) e in
    let both = both_done (refused_if (overlaps store.installed store.cache) store.installed store.cache) _ place.0 in
    let installed = both_done (apart_from store.installed outer) _ both.1 in
    let cache = both_done (apart_from store.cache outer) _ installed.1 in
    let around = both_done (refused_if (has_in_it store.installed project.folder) store.installed project.folder) _ cache.1 in
    record {
      both = no_overlap store.installed store.cache (not_refused _ store.installed store.cache both.0);
      installed = apart_all store.installed outer installed.0;
      cache = apart_all store.cache outer cache.0;
      around = (outside store.installed project.folder (not_refused _ store.installed project.folder around.0), outside store.cache project.folder (not_refused _ store.cache project.folder around.1));
      free = none_passes (IsFree files) (is_at files) (λ p is. is) (store_folders store) (unblocked_none _ place.1);
    }
