-- A call that reads only reads; what its answer says; and what a map in memory does.
use Rattle.std.proofs.Common.{◌≡◌, ◌≤◌, subst, ◌++◌, ℕ, List, true, false, refl, sym, ap, ◌∙◌}
use Rattle.std.specs.Prelude.{max, Bool, Option, Some, None, IfSome, Ok, Err}
use Rattle.std.proofs.Math.Nat.{max-le, max-zero}
use Rattle.std.specs.FinMap as map
use Rattle.vk_spec.specs.Files.{Files}
use Rattle.vk_spec.specs.Paths.{Path}
use Rattle.vk_spec.specs.States.{Told, State, with_asked, Looks, OnlyRead, IsNarrow, OnlyListed}
use Rattle.vk_spec.specs.Standing.{disk_of, OnFiles, Entry}
use Rattle.vk_spec.specs.Calls.{Call, kind_of, read_of, piece_of, list_of, write_of, rename_of, remove_of, Output, Answer, is_failed, refuses, fails, lacks, Says, LeavesDone, LeavesFailed, Leaves, Content, ToldBecomes, noted_by, is_reading, changes_after, width_of, Made}
use Rattle.vk_spec.proofs.FileLemmas.{path_total}
use Rattle.vk_spec.proofs.StateLemmas.{read_then}

-- ---- a call that reads leaves the files

done_same : (call : Call) (f g : Files) → is_reading call ≡ true → LeavesDone call f g → g ≡ f
done_same (kind_of p) f g is h = h
done_same (read_of p limit) f g is h = h
done_same (piece_of p at most) f g is h = h
done_same (list_of p) f g is h = h
done_same (write_of p bytes) f g is h = (cc)
done_same (rename_of a b) f g is h = (cc)
done_same (remove_of p) f g is h = (cc)

failed_same : (call : Call) (f g : Files) → is_reading call ≡ true → LeavesFailed call f g → g ≡ f
failed_same (kind_of p) f g is h = h
failed_same (read_of p limit) f g is h = h
failed_same (piece_of p at most) f g is h = h
failed_same (list_of p) f g is h = h
failed_same (write_of p bytes) f g is h = (cc)
failed_same (rename_of a b) f g is h = (cc)
failed_same (remove_of p) f g is h = (cc)

leaves_same : (call : Call) (answer : Answer (Output call)) (f g : Files) → is_reading call ≡ true → Leaves call answer f g → g ≡ f
leaves_same call (Ok x) f g is h = done_same call f g is h
leaves_same call (Err (refuses r)) f g is h = h
leaves_same call (Err fails) f g is h = failed_same call f g is h
leaves_same call (Err lacks) f g is h = h

told_same : (asked : List Path) (P : Files → Files → Type 0) → ((f g : Files) → P f g → g ≡ f) → (x y : Option Told) → ToldBecomes asked P x y → y ≡ with_asked asked x
told_same asked P same None y h = h
told_same asked P same (Some t) None h = absurd h
told_same asked P same (Some t) (Some u) h =
    let one : Some u ≡ Some (record { files = t.files; log = u.log }) = ap (λ fs. Some (record { files = fs; log = u.log })) (same t.files u.files h.1) in
    one ∙ ap (λ l. Some (record { files = t.files; log = l })) h.0

-- a call that reads only looks, at the paths that are noted
pub looks_of : {call : Call} {answer : Answer (Output call)} {a b : State} → is_reading call ≡ true → Made call answer a b → Looks (noted_by call answer) (is_failed answer) a b
looks_of {call = call} {answer = answer} {a = a} {b = b} is m = record {
  told = told_same (noted_by call answer) (Content call answer) (λ f g h. leaves_same call answer f g is h.1) a.told b.told m.content;
  changes = m.changes ∙ ap (λ r. changes_after r answer a.changes) is;
  calls = m.later;
  ends = m.ends;
}

-- one call that reads
pub read_once : {call : Call} {answer : Answer (Output call)} {failed : Bool} {a b : State} → is_reading call ≡ true → Made call answer a b → is_failed answer ≡ failed → OnlyRead failed a b
read_once {call = call} {answer = answer} {a = a} {b = b} is m e = subst (λ f. OnlyRead f a b) e (record { asked = noted_by call answer; looks = looks_of is m })

-- a call gives no more bytes than it is to
pub narrow_of : {call : Call} {answer : Answer (Output call)} {a b : State} → Made call answer a b → IsNarrow (width_of call) a b
narrow_of m = record { keeps = λ width before fits. subst (λ w. w ≤ width) (sym m.widest) (max-le before fits) }

-- one that gives no bytes leaves how many one was to give
pub no_wider : (n : ℕ) → n ≡ max n 0
no_wider n = sym (max-zero n)

-- one folder is listed
pub listed_once : {path : Path} {answer : Answer (List Entry)} {failed : Bool} {a b : State} → Made (list_of path) answer a b → is_failed answer ≡ failed → OnlyListed failed a b
listed_once {a = a} {b = b} m e = subst (λ f. OnlyListed f a b) e (record { looks = looks_of refl m; narrow = narrow_of m })

-- one call more
pub read_more : {call : Call} {answer : Answer (Output call)} {failed : Bool} {a b c : State} → is_reading call ≡ true → Made call answer b c → OnlyRead false a b → is_failed answer ≡ failed → OnlyRead failed a c
read_more is m x e = read_then x (read_once is m e)

-- ---- what an answer says of the files, where they are told

content_says : (call : Call) (answer : Answer (Output call)) (x y : Option Told) → ToldBecomes (noted_by call answer) (Content call answer) x y → IfSome x (λ t. Says call answer (disk_of t.files))
content_says call answer None y h = tt
content_says call answer (Some t) None h = absurd h
content_says call answer (Some t) (Some u) h = h.1.0

pub says_of : {call : Call} {answer : Answer (Output call)} {a b : State} → Made call answer a b → OnFiles (Says call answer) a
says_of {call = call} {answer = answer} {a = a} {b = b} m = content_says call answer a.told b.told m.content

-- ---- a call that reads, put together from what it says

same_done : (call : Call) (f : Files) → is_reading call ≡ true → LeavesDone call f f
same_done (kind_of p) f is = refl
same_done (read_of p limit) f is = refl
same_done (piece_of p at most) f is = refl
same_done (list_of p) f is = refl
same_done (write_of p bytes) f is = (cc)
same_done (rename_of a b) f is = (cc)
same_done (remove_of p) f is = (cc)

same_failed : (call : Call) (f : Files) → is_reading call ≡ true → LeavesFailed call f f
same_failed (kind_of p) f is = refl
same_failed (read_of p limit) f is = refl
same_failed (piece_of p at most) f is = refl
same_failed (list_of p) f is = refl
same_failed (write_of p bytes) f is = (cc)
same_failed (rename_of a b) f is = (cc)
same_failed (remove_of p) f is = (cc)

same_left : (call : Call) (answer : Answer (Output call)) (f : Files) → is_reading call ≡ true → Leaves call answer f f
same_left call (Ok x) f is = same_done call f is
same_left call (Err (refuses r)) f is = refl
same_left call (Err fails) f is = same_failed call f is
same_left call (Err lacks) f is = refl

-- of a tree that tells its files: it goes on with the same ones, and the log has what is noted
pub content_read : (call : Call) (answer : Answer (Output call)) (f : Files) (log now : List Path) → is_reading call ≡ true → Says call answer (disk_of f) → now ≡ log ++ noted_by call answer
    → ToldBecomes (noted_by call answer) (Content call answer) (Some (record { files = f; log = log })) (Some (record { files = f; log = now }))
content_read call answer f log now is says more = (more, (says, same_left call answer f is))

-- ---- what a map in memory does is what the calls leave

pub write_leaves : (f : Files) (p : Path) (bytes : List ℕ) → LeavesDone (write_of p bytes) f (map.insert f p bytes)
write_leaves f p bytes q = map.get-insert path_total f p bytes q

pub remove_leaves : (f : Files) (p : Path) → LeavesDone (remove_of p) f (map.remove f p)
remove_leaves f p q = map.get-remove path_total f p q
