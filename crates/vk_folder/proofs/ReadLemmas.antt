-- Only paths of a kind were asked for: one after the other, and of a wider kind.
use Rattle.std.proofs.Common.{◌≡◌, inl, inr, [], ◌∷◌, ◌++◌, true, false, ap, sym, ◌∙◌, subst}
use Rattle.std.proofs.lemmas.List.{append-nil, append_assoc}
use Rattle.std.proofs.lemmas.List.Elements.{Contains-append_cases}
use Rattle.std.specs.Prelude.{Bool, Ok, Err}
use Rattle.std.specs.List.{Contains}
use Rattle.vk_spec.specs.Paths.{Path, Begins}
use Rattle.vk_spec.specs.States.{State, OnlyListed}
use Rattle.vk_spec.specs.Calls.{Call, Output, Answer, refuses, fails, lacks, is_failed, is_reading, noted, noted_by, Made}
use Rattle.vk_spec.proofs.CallLemmas.{looks_of}
use Rattle.vk_spec.proofs.ListLemmas.{contains_nothing, contains_cases}
use Rattle.vk_spec.proofs.StateLemmas.{looks_nothing, looks_then}
use Rattle.vk_folder.specs.Folders.{ReadsOnly}

-- nothing was done
pub reads_nothing : {May : Path → Type 0} (s : State) → ReadsOnly May false s s
reads_nothing s = record { only = record { asked = []; looks = looks_nothing s }; within = λ path at. absurd (contains_nothing path at) }

-- folders were listed
pub reads_listed : {May : Path → Type 0} {failed : Bool} {a b : State} → OnlyListed failed a b → ReadsOnly May failed a b
reads_listed x = record { only = record { asked = []; looks = x.looks }; within = λ path at. absurd (contains_nothing path at) }

-- one after the other
pub reads_then : {May : Path → Type 0} {failed : Bool} {a b c : State} → ReadsOnly May false a b → ReadsOnly May failed b c → ReadsOnly May failed a c
reads_then x y = record {
  only = record { asked = x.only.asked ++ y.only.asked; looks = looks_then x.only.looks y.only.looks };
  within = λ path at. elim (Contains-append_cases x.only.asked y.only.asked path at) [ inl one ↦ x.within path one | inr two ↦ y.within path two ];
}

-- paths of a kind are of any wider one
pub reads_wider : {May Might : Path → Type 0} {failed : Bool} {a b : State} → ((path : Path) → May path → Might path) → ReadsOnly May failed a b → ReadsOnly Might failed a b
reads_wider wider x = record { only = x.only; within = λ path at. wider path (x.within path at) }

-- one call that reads
pub reads_once : {May : Path → Type 0} {call : Call} {answer : Answer (Output call)} {failed : Bool} {a b : State} → is_reading call ≡ true → Made call answer a b → is_failed answer ≡ failed
    → ((path : Path) → Contains (noted_by call answer) path → May path) → ReadsOnly May failed a b
reads_once {May = May} {call = call} {answer = answer} {a = a} {b = b} is m e within =
    subst (λ f. ReadsOnly May f a b) e (record { only = record { asked = noted_by call answer; looks = looks_of is m }; within = within })

-- ---- paths that one begins

pub begins_then : (a : Path) {b c : Path} → Begins a b → Begins b c → Begins a c
begins_then a one two = (one.0 ++ two.0, two.1 ∙ ap (λ l. l ++ two.0) one.1 ∙ append_assoc a one.0 two.0)

only_own : (path other : Path) → Contains (path ∷ []) other → Begins path other
only_own path other at = elim (contains_cases path other [] at) [
  | inl same ↦ ([], sym same ∙ sym (append-nil path))
  | inr none ↦ absurd (contains_nothing other none)
]

-- a call at one path notes no other
pub own_noted : {A : Type 0} (path : Path) (answer : Answer A) (other : Path) → Contains (noted path answer) other → Begins path other
own_noted path (Ok x) other at = only_own path other at
own_noted path (Err (refuses r)) other at = only_own path other at
own_noted path (Err fails) other at = absurd (contains_nothing other at)
own_noted path (Err lacks) other at = absurd (contains_nothing other at)
