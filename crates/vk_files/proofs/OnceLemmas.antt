-- Files that are read once: one after the other.
use Rattle.std.proofs.Common.{◌≡◌, ◌<◌, Bool, false, ℕ, List, [], ◌∷◌, ◌++◌, length, refl, ap, sym, subst, ◌∙◌, arith}
use Rattle.std.proofs.lemmas.Bool.Decides.{nat_tests}
use Rattle.std.specs.Prelude.{Option, Some, None, IfSome, Err}
use Rattle.std.proofs.lemmas.List.{append-nil, append_assoc, map-append}
use Rattle.vk_spec.specs.Paths.{Path}
use Rattle.vk_spec.specs.Standing.{Disk, disk_of}
use Rattle.vk_spec.specs.Calls.{Answer, Made, Says, refuses, read_of, is_failed, noted}
use Rattle.vk_spec.proofs.CallLemmas.{looks_of, narrow_of, says_of}
use Rattle.vk_tree.specs.declared.trees.ReadFault.{ReadFault}
use Rattle.vk_tree.specs.declared.trees.ReadFault.TheVariants as read
use Rattle.vk_tree.specs.Answers.{read_refusal}
use Rattle.vk_files.specs.ReadFaults.{seen_by}
use Rattle.vk_spec.specs.States.{Told, State, Looks}
use Rattle.vk_spec.proofs.OptionLemmas.{of_each, of_both}
use Rattle.vk_spec.proofs.StateLemmas.{looks_nothing, looks_then, narrow_nothing, narrow_then, told_before}
use Rattle.vk_files.specs.Kept.{Seen, too_large, Kept, seen_in, paths_of, IsOf, IsSeen, Held, ReadOnce, most_bytes}
use Rattle.vk_files.proofs.NoteLemmas.{right_more}

pub nothing_read : (h : Held) → ReadOnce false h h
nothing_read h = record { more = []; kept = sym (append-nil h.kept); looks = looks_nothing h.tree; narrow = narrow_nothing most_bytes h.tree; right = of_each h.tree.told (λ t. tt) }

-- nothing was done, by what is kept and by the answer
pub still_read : {failed : Bool} {kept now : Kept} {s : State} → failed ≡ false → now ≡ kept → ReadOnce failed (record { kept = kept; tree = s }) (record { kept = now; tree = s })
still_read calm same = rw calm (rw same (nothing_read _))

one_right : (path : Path) (seen : Seen) (told : Option Told) → IfSome told (λ t. IsSeen t.files path seen) → IfSome told (λ t. IsOf t.files ((path, seen) ∷ []))
one_right path seen None right = tt
one_right path seen (Some t) right = (right, tt)

-- a path was asked for, and what stands there is kept
pub found_read : {path : Path} {answer : Answer (List ℕ)} {a b : State} {kept now : Kept} (seen : Seen) → Made (read_of path most_bytes) answer a b → noted path answer ≡ path ∷ [] → is_failed answer ≡ false
    → IfSome a.told (λ t. IsSeen t.files path seen) → now ≡ kept ++ (path, seen) ∷ [] → ReadOnce false (record { kept = kept; tree = a }) (record { kept = now; tree = b })
found_read {path = path} {answer = answer} {a = a} {b = b} seen r is_noted calm right is = record {
  more = (path, seen) ∷ [];
  kept = is;
  looks = subst (λ f. Looks (path ∷ []) f a b) calm (subst (λ asked. Looks asked (is_failed answer) a b) is_noted (looks_of refl r));
  narrow = narrow_of r;
  right = one_right path seen a.told right;
}

-- a path was asked for in vain
pub nothing_found : {path : Path} {answer : Answer (List ℕ)} {failed : Bool} {a b : State} {kept : Kept} → Made (read_of path most_bytes) answer a b → noted path answer ≡ [] → is_failed answer ≡ failed
    → ReadOnce failed (record { kept = kept; tree = a }) (record { kept = kept; tree = b })
nothing_found {answer = answer} {a = a} {b = b} {kept = kept} r is_noted is = record {
  more = [];
  kept = sym (append-nil kept);
  looks = subst (λ f. Looks [] f a b) is (subst (λ asked. Looks asked (is_failed answer) a b) is_noted (looks_of refl r));
  narrow = narrow_of r;
  right = of_each a.told (λ t. tt);
}

-- what was found is what the files have
seen_where : (path : Path) (answer : Answer (List ℕ)) (seen : Seen) (told : Option Told) → ((d : Disk) → Says (read_of path most_bytes) answer d → seen ≡ seen_in (d path))
    → IfSome told (λ t. Says (read_of path most_bytes) answer (disk_of t.files)) → IfSome told (λ t. IsSeen t.files path seen)
seen_where path answer seen None is says = tt
seen_where path answer seen (Some t) is says = is (disk_of t.files) says

pub seen_told : {path : Path} {answer : Answer (List ℕ)} {a b : State} (seen : Seen) → ((d : Disk) → Says (read_of path most_bytes) answer d → seen ≡ seen_in (d path))
    → Made (read_of path most_bytes) answer a b → IfSome a.told (λ t. IsSeen t.files path seen)
seen_told {path = path} {answer = answer} {a = a} seen is r = seen_where path answer seen a.told is (says_of r)

large_seen : (o : Option (List ℕ)) (bytes : List ℕ) → o ≡ Some bytes → most_bytes < length bytes → too_large ≡ seen_in o
large_seen o bytes e long = rw e grind (arith, nat_tests, long)

-- what a read that is refused says of what stands there
pub seen_by_fault : (path : Path) (d : Disk) (fault : ReadFault) → Says (read_of path most_bytes) (Err (refuses (read_refusal fault))) d → seen_by fault ≡ seen_in (d path)
seen_by_fault path d read.Missing is = rw is refl
seen_by_fault path d read.TooLarge is = large_seen (d path) is.0 is.1 is.2

both_right : (one two : Kept) (told : Option Told) → IfSome told (λ t. IsOf t.files one) → IfSome told (λ t. IsOf t.files two) → IfSome told (λ t. IsOf t.files (one ++ two))
both_right one two told x y = of_both told x y (λ t. right_more (IsSeen t.files) one two)

-- one after the other
pub once_then : {failed : Bool} {a b c : Held} → ReadOnce false a b → ReadOnce failed b c → ReadOnce failed a c
once_then {failed = failed} {a = a} {b = b} {c = c} x y = record {
  more = x.more ++ y.more;
  kept = y.kept ∙ ap (λ k. k ++ y.more) x.kept ∙ append_assoc a.kept x.more y.more;
  looks = subst (λ asked. Looks asked failed a.tree c.tree) (sym (map-append (λ e. e.0) x.more y.more)) (looks_then x.looks y.looks);
  narrow = narrow_then x.narrow y.narrow;
  right = both_right x.more y.more a.tree.told x.right (told_before (λ f. IsOf f y.more) (record { asked = paths_of x.more; looks = x.looks }) y.right);
}
