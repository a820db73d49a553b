-- Files at paths of which only the last part is a file's name.
use Rattle.std.proofs.Common.{◌≡◌, ◌&&◌, ℕ, Bool, true, false, not, List, [], ◌∷◌, ◌++◌, inl, inr, ap, sym, ◌∙◌, subst}
use Rattle.std.specs.Prelude.{is_some, Option, Some, None, Result, Ok, Err, OnOk, OnErr}
use Rattle.std.specs.FinMap as map
use Rattle.vk_spec.specs.Paths.{Path, path_cmp}
use Rattle.vk_spec.specs.Files.{Files, IsTree, HasRoomFor}
use Rattle.vk_spec.specs.States.{Told, State}
use Rattle.vk_spec.proofs.FileLemmas.{same_or_other, insert_agrees, none_some}
use Rattle.vk_spec.proofs.OrderLemmas.{none_where}
use Rattle.vk_tree.specs.declared.mem_trees.MemTree.{MemTree}
use Rattle.vk_tree.specs.MemTrees.{mem_files, mem_state, with_file}
use Rattle.vk_gen.specs.Loads.{untouched}
use Rattle.vk_gen.specs.Puts.{is_file_name, is_file_path, AreAtFilePaths}

never_both : (b c : Bool) → b ≡ true → (not b && c) ≡ true → ⊥
never_both true c e f = let clash : false ≡ true = f in (cc)
never_both false c e f = let clash : false ≡ true = e in (cc)

after_not : (b c : Bool) → (not b && c) ≡ true → c ≡ true
after_not true c e = let clash : false ≡ true = e in (cc)
after_not false c e = e

-- no such path begins another one
pub none_begins : (p : Path) (part : List ℕ) (rest : Path) → is_file_path p ≡ true → is_file_path (p ++ part ∷ rest) ≡ true → ⊥
none_begins [] part rest is more = let clash : false ≡ true = is in (cc)
none_begins (x ∷ []) part rest is more = never_both (is_file_name x) (is_file_path (part ∷ rest)) is more
none_begins (x ∷ y ∷ p) part rest is more = none_begins (y ∷ p) part rest (after_not (is_file_name x) (is_file_path (y ∷ p)) is) (after_not (is_file_name x) (is_file_path (y ∷ (p ++ part ∷ rest))) more)

-- so there is room for one more
pub room_for : (p : Path) (f : Files) → is_file_path p ≡ true → AreAtFilePaths f → HasRoomFor p f
room_for p f is each = record {
  above = λ q part rest e. none_where (map.get f q) (λ some. none_begins q part rest (each q some) (subst (λ r. is_file_path r ≡ true) e is));
  below = λ part rest. none_where (map.get f (p ++ part ∷ rest)) (λ some. none_begins p part rest is (each (p ++ part ∷ rest) some));
}

-- and they are a tree
pub are_tree : (f : Files) → AreAtFilePaths f → IsTree f
are_tree f each p part rest some = none_where (map.get f (p ++ part ∷ rest)) (λ more. none_begins p part rest (each p some) (each (p ++ part ∷ rest) more))

pub none_yet : AreAtFilePaths map.empty
none_yet p some = absurd (none_some (map.get {X = List ℕ} {R = path_cmp} map.empty p) (map.get-empty path_cmp p) some)

pub one_more : (p : Path) (bytes : List ℕ) (f : Files) → is_file_path p ≡ true → AreAtFilePaths f → AreAtFilePaths (map.insert f p bytes)
one_more p bytes f is each q some =
    elim (same_or_other p q) [
      | inl e ↦ subst (λ r. is_file_path r ≡ true) e is
      | inr other ↦ each q (ap is_some (sym (insert_agrees p bytes f q other)) ∙ some)
    ]

-- the files that a state tells
abbrev told_files : Option Told → Files
told_files None = map.empty
told_files (Some told) = told.files

abbrev files_in : State → Files
files_in s = told_files s.told

-- after a put, done or not
pub after_put : {X E : Type 0} (r : Result X E) (p : Path) (bytes : List ℕ) (old new : MemTree) → is_file_path p ≡ true → AreAtFilePaths (mem_files old)
    → OnOk r (mem_state new ≡ with_file p bytes (mem_state old)) → OnErr r (mem_state new ≡ mem_state old) → AreAtFilePaths (mem_files new)
after_put (Ok x) p bytes old new is each ok err = subst AreAtFilePaths (sym (ap files_in ok)) (one_more p bytes (mem_files old) is each)
after_put (Err e) p bytes old new is each ok err = subst AreAtFilePaths (sym (ap files_in err)) each

-- in a tree without files
pub at_first : (m : MemTree) → mem_state m ≡ untouched map.empty → AreAtFilePaths (mem_files m)
at_first m new = subst AreAtFilePaths (sym (ap files_in new)) none_yet
