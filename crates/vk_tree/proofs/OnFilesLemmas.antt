-- What is known of the files where they are told, and after a run that only read.
use Rattle.std.proofs.Common.{subst, sym, List}
use Rattle.std.specs.Prelude.{Option, Some, None, IfSome, Bool}
use Rattle.vk_spec.specs.Paths.{Path}
use Rattle.vk_spec.specs.States.{Told, State, with_asked, OnlyRead}
use Rattle.vk_spec.specs.Standing.{Disk, disk_of, OnFiles}

if_then : (P Q : Disk → Type 0) (x : Option Told) → ((d : Disk) → P d → Q d) → IfSome x (λ t. P (disk_of t.files)) → IfSome x (λ t. Q (disk_of t.files))
if_then P Q None f h = tt
if_then P Q (Some t) f h = f (disk_of t.files) h

if_both : (P Q : Disk → Type 0) (x : Option Told) → IfSome x (λ t. P (disk_of t.files)) → IfSome x (λ t. Q (disk_of t.files)) → IfSome x (λ t. P (disk_of t.files) × Q (disk_of t.files))
if_both P Q None h k = tt
if_both P Q (Some t) h k = (h, k)

on_same : (P : Disk → Type 0) (asked : List Path) (x : Option Told) → IfSome x (λ t. P (disk_of t.files)) → IfSome (with_asked asked x) (λ t. P (disk_of t.files))
on_same P asked None h = tt
on_same P asked (Some t) h = h

back_same : (P : Disk → Type 0) (asked : List Path) (x : Option Told) → IfSome (with_asked asked x) (λ t. P (disk_of t.files)) → IfSome x (λ t. P (disk_of t.files))
back_same P asked None h = tt
back_same P asked (Some t) h = h

pub files_then : (P Q : Disk → Type 0) (s : State) → ((d : Disk) → P d → Q d) → OnFiles P s → OnFiles Q s
files_then P Q s f h = if_then P Q s.told f h

pub files_both : (P Q : Disk → Type 0) (s : State) → OnFiles P s → OnFiles Q s → OnFiles (λ d. P d × Q d) s
files_both P Q s h k = if_both P Q s.told h k

pub files_two : (P Q R : Disk → Type 0) (s : State) → ((d : Disk) → P d → Q d → R d) → OnFiles P s → OnFiles Q s → OnFiles R s
files_two P Q R s f h k = files_then (λ d. P d × Q d) R s (λ d x. f d x.0 x.1) (files_both P Q s h k)

pub files_on : (P : Disk → Type 0) {failed : Bool} {a b : State} → OnlyRead failed a b → OnFiles P a → OnFiles P b
files_on P {a = a} r h = subst (λ (o : Option Told). IfSome o (λ t. P (disk_of t.files))) (sym r.looks.told) (on_same P r.asked a.told h)

pub files_back : (P : Disk → Type 0) {failed : Bool} {a b : State} → OnlyRead failed a b → OnFiles P b → OnFiles P a
files_back P {a = a} r h = back_same P r.asked a.told (subst (λ (o : Option Told). IfSome o (λ t. P (disk_of t.files))) r.looks.told h)
