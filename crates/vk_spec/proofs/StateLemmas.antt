-- Nothing was done; one after the other.
use Rattle.std.proofs.Common.{◌≡◌, ◌≤◌, subst, ℕ, List, [], ◌++◌, true, false, ap, refl, sym, ◌∙◌, arith}
use Rattle.std.specs.Prelude.{Bool, Option, Some, None, IfSome}
use Rattle.std.proofs.lemmas.List.{append-nil, append_assoc}
use Rattle.vk_spec.specs.Counts.{MayHaveRisen, Rose}
use Rattle.vk_spec.proofs.CountLemmas.{counted_then, counted_risen, counted_rose}
use Rattle.vk_spec.specs.Paths.{Path}
use Rattle.vk_spec.specs.Files.{Files}
use Rattle.vk_spec.specs.States.{Told, State, with_asked, Ends, Looks, OnlyRead, IsNarrow, OnlyListed}

asked_none : (told : Option Told) → told ≡ with_asked [] told
asked_none None = refl
asked_none (Some t) = ap (λ log. Some (record { files = t.files; log = log })) (sym (append-nil t.log))

asked_then : (one two : List Path) (told : Option Told) → with_asked two (with_asked one told) ≡ with_asked (one ++ two) told
asked_then one two None = refl
asked_then one two (Some t) = ap (λ log. Some (record { files = t.files; log = log })) (append_assoc t.log one two)

-- nothing failed, and then one call did or not
pub ends_then : {failed : Bool} {a b c : State} → Ends false a b → Ends failed b c → Ends failed a c
ends_then one two = record {
  faults = counted_then _ _ _ _ one.faults two.faults;
  sure = two.sure ∙ one.sure;
  safe = λ s. two.safe (one.sure ∙ s);
}

pub looks_nothing : (s : State) → Looks [] false s s
looks_nothing s = record {
  told = asked_none s.told;
  changes = refl;
  calls = omega arith;
  ends = record { faults = refl; sure = refl; safe = λ _. refl };
}

pub looks_then : {failed : Bool} {one two : List Path} {a b c : State} → Looks one false a b → Looks two failed b c → Looks (one ++ two) failed a c
looks_then {one = one} {two = two} {a = a} x y = record {
  told = y.told ∙ ap (with_asked two) x.told ∙ asked_then one two a.told;
  changes = y.changes ∙ x.changes;
  calls = omega (arith, x.calls, y.calls);
  ends = ends_then x.ends y.ends;
}

-- nothing was done
pub read_nothing : (s : State) → OnlyRead false s s
read_nothing s = record { asked = []; looks = looks_nothing s }

-- one after the other
pub read_then : {failed : Bool} {a b c : State} → OnlyRead false a b → OnlyRead failed b c → OnlyRead failed a c
read_then x y = record { asked = x.asked ++ y.asked; looks = looks_then x.looks y.looks }

-- ---- how many bytes a call is to give

pub narrow_nothing : (most : ℕ) (s : State) → IsNarrow most s s
narrow_nothing most s = record { keeps = λ width before fits. before }

pub narrow_then : {most : ℕ} {a b c : State} → IsNarrow most a b → IsNarrow most b c → IsNarrow most a c
narrow_then x y = record { keeps = λ width before fits. y.keeps width (x.keeps width before fits) fits }

-- calls that give less give no more
pub narrow_more : {less most : ℕ} {a b : State} → less ≤ most → IsNarrow less a b → IsNarrow most a b
narrow_more fewer x = record { keeps = λ width before fits. x.keeps width before (omega (arith, fewer, fits)) }

pub listed_nothing : (s : State) → OnlyListed false s s
listed_nothing s = record { looks = looks_nothing s; narrow = narrow_nothing 0 s }

pub listed_then : {failed : Bool} {a b c : State} → OnlyListed false a b → OnlyListed failed b c → OnlyListed failed a c
listed_then x y = record { looks = looks_then x.looks y.looks; narrow = narrow_then x.narrow y.narrow }

-- listing is reading
pub listed_reads : {failed : Bool} {a b : State} → OnlyListed failed a b → OnlyRead failed a b
listed_reads x = record { asked = []; looks = x.looks }

-- ---- what a run says

-- what a run that only reads says of its failures
pub risen_where : {failed : Bool} {a b : State} → OnlyRead failed a b → failed ≡ true → MayHaveRisen a.faults b.faults
risen_where r e = counted_risen _ _ r.looks.ends.faults e

pub fails_where : {failed : Bool} {a b : State} → OnlyRead failed a b → Rose a.faults b.faults → failed ≡ true
fails_where r rose = counted_rose _ _ r.looks.ends.faults rose

files_kept : (P : Files → Type 0) (asked : List Path) (x y : Option Told) → y ≡ with_asked asked x → IfSome y (λ t. P t.files) → IfSome x (λ t. P t.files)
files_kept P asked None y e h = tt
files_kept P asked (Some t) y e h = subst (λ (o : Option Told). IfSome o (λ u. P u.files)) e h

-- what is known of the files after a run that only read is known of those before
pub told_before : {failed : Bool} {a b : State} (P : Files → Type 0) → OnlyRead failed a b → IfSome b.told (λ t. P t.files) → IfSome a.told (λ t. P t.files)
told_before {a = a} {b = b} P r h = files_kept P r.asked a.told b.told r.looks.told h
