-- What was read is right, and a fault is told with its file.
use Rattle.std.proofs.Common.{◌≡◌, Bool, List, ℕ, refl, sym, subst}
use Rattle.std.specs.Prelude.{Option, Some, None, IfSome, Result, Ok, Err}
use Rattle.vk_spec.specs.Paths.{Path}
use Rattle.vk_spec.specs.Files.{Files}
use Rattle.vk_spec.specs.Reading.{Fails}
use Rattle.vk_spec.specs.Calls.{Answer, Made, read_of}
use Rattle.vk_spec.specs.States.{Told, State, Looks, with_asked}
use Rattle.vk_spec.proofs.CallLemmas.{looks_of}
use Rattle.vk_spec.proofs.OptionLemmas.{of_both}
use Rattle.vk_spec.proofs.StateLemmas.{told_before}
use Rattle.vk_json.specs.declared.faults.FileFault.{FileFault}
use Rattle.vk_files.specs.Kept.{Seen, Kept, seen_at, paths_of, IsOf, IsSeen, Held, ReadOnce, IsFaithful}
use Rattle.vk_files.specs.Views.{kept_at, same_path}
use Rattle.vk_files.specs.Readings.{Bad, IsFaultOf, told_at, or_told}
use Rattle.vk_files.proofs.NoteLemmas.{right_more, right_found}
use Rattle.vk_files.proofs.CacheLemmas.{path_is}

-- a fault that is told is told with its file
pub told_fails : {A P : Type 0} (told : Bad → P) (path : Path) (read : Result A FileFault) (fault : Option FileFault) (seen : Option P) → IfSome seen (IsFaultOf told path fault) → Fails fault read → Fails seen (or_told told (told_at path read))
told_fails told path read fault None is fails = tt
told_fails told path read None (Some p) is fails = (cc)
told_fails told path read (Some f) (Some p) is fails = rw fails (cc)

-- a bad file that is told as it is
pub told_itself : {A : Type 0} (read : Result A Bad) → or_told (λ bad. bad) read ≡ read
told_itself (Ok x) = refl
told_itself (Err bad) = refl

-- what was kept, and what was kept since, is right
pub still_right : {failed : Bool} {a b : Held} → ReadOnce failed a b → IfSome a.tree.told (λ t. IsOf t.files a.kept → IsOf t.files b.kept)
still_right {a = a} {b = b} r = by a.tree.told r.right
  where
    by : (told : Option Told) → IfSome told (λ t. IsOf t.files r.more) → IfSome told (λ t. IsOf t.files a.kept → IsOf t.files b.kept)
    by None right = tt
    by (Some t) right = λ old. subst (IsOf t.files) (sym r.kept) (right_more (IsSeen t.files) a.kept r.more old right)

-- what is known of the files after reading is known of those before
pub known_before : {failed : Bool} {a b : Held} (P : Files → Type 0) → ReadOnce failed a b → IfSome b.tree.told (λ t. P t.files) → IfSome a.tree.told (λ t. P t.files)
known_before P r known = told_before P (record { asked = paths_of r.more; looks = r.looks }) known

-- what is known of the files before asking for paths is known of those after it
told_after : {asked : List Path} {failed : Bool} {a b : State} (P : Files → Type 0) → Looks asked failed a b → IfSome a.told (λ t. P t.files) → IfSome b.told (λ t. P t.files)
told_after {asked = asked} {a = a} P looks known = rw looks.told (by a.told known)
  where
    by : (told : Option Told) → IfSome told (λ t. P t.files) → IfSome (with_asked asked told) (λ t. P t.files)
    by None known = tt
    by (Some t) known = known

-- what is kept stays faithful while paths are read once
pub still_faithful : {failed : Bool} {a b : Held} → ReadOnce failed a b → IsFaithful a → IsFaithful b
still_faithful {a = a} {b = b} once faithful = told_after (λ f. IsOf f b.kept) once.looks (of_both a.tree.told faithful (still_right once) (λ t old right. right old))

-- and while a file is read of which nothing is kept
pub faithful_apart : {path : Path} {limit : ℕ} {answer : Answer (List ℕ)} {a b : State} (kept : Kept) → Made (read_of path limit) answer a b → IsFaithful (record { kept = kept; tree = a }) → IsFaithful (record { kept = kept; tree = b })
faithful_apart kept made faithful = told_after (λ f. IsOf f kept) (looks_of refl made) faithful

-- what is kept of a path is what the files have there
pub seen_there : (path : Path) (seen : Seen) (files : Files) (kept : Kept) → IsOf files kept → kept_at path kept ≡ Some seen → seen ≡ seen_at path files
seen_there path seen files kept right found = right_found (IsSeen files) same_path path_is kept path seen right found
