-- What one agent alone does: where it only reads the files stay, and what is kept by more is kept by less.
use Rattle.std.proofs.Common.{◌≡◌, sym, ◌∙◌, subst}
use Rattle.vk_spec.specs.Files.{Files}
use Rattle.vk_spec.specs.Standing.{Disk, disk_of}
use Rattle.vk_spec.specs.Calls.{Call, kind_of, read_of, piece_of, list_of, write_of, rename_of, remove_of, Says, CanMake, LeavesFailed}
use Rattle.vk_tree.specs.Trees.{IsTreeDisk}
use Rattle.vk_protocol.specs.Keeps.{Alone, Keeps}
use Rattle.vk_protocol.specs.Protocols.{answer_of, Protocol, ends, asks}
use Rattle.vk_protocol.specs.Runs.{AsksOnly, Reads, Tells}
use Rattle.vk_make.proofs.SeveralReads.{read_left}

can_read : (call : Call) (d : Disk) → Reads call → CanMake call d
can_read (kind_of p) d h = tt
can_read (read_of p limit) d h = tt
can_read (piece_of p at most) d h = tt
can_read (list_of p) d h = tt
can_read (write_of p bytes) d h = (cc)
can_read (rename_of p q) d h = (cc)
can_read (remove_of p) d h = (cc)

read_failed : (call : Call) (f g : Files) → Reads call → LeavesFailed call f g → g ≡ f
read_failed (kind_of p) f g h left = left
read_failed (read_of p limit) f g h left = left
read_failed (piece_of p at most) f g h left = left
read_failed (list_of p) f g h left = left
read_failed (write_of p bytes) f g h left = (cc)
read_failed (rename_of p q) f g h left = (cc)
read_failed (remove_of p) f g h left = (cc)

-- where nobody else changes the files, and this holds after each call
abbrev pub KeepsAlone : {A : Type 0} → (Files → Type 0) → (A → Files → Type 0) → Protocol A → Files → Type 0
KeepsAlone Holds P p f = Keeps (Alone Holds) (λ g h. Holds h) P p f

-- the files stay, and it comes to what they tell
pub reads_alone : {A : Type 0} (I : Files → Type 0) (P : A → Type 0) (p : Protocol A) (f : Files) → AsksOnly Reads p → Tells P p (disk_of f) → KeepsAlone I (λ x g. P x × (g ≡ f)) p f
reads_alone I P (ends x) f reads tells = λ g later. (tells, later.1)
reads_alone I P (asks call k) f reads tells = λ g later. (
  can_read call (disk_of g) reads.0,
  (λ h left tree. subst I (sym (read_failed call g h reads.0 left ∙ later.1)) later.0),
  (λ reply h does tree.
      (let same : h ≡ f = read_left call reply g h reads.0 does.leaves ∙ later.1 in (
        subst I (sym same) later.0,
        subst (λ i. KeepsAlone I (λ x g. P x × (g ≡ f)) (k reply) i) (sym same)
            (reads_alone I P (k reply) f (reads.1 reply)
            (tells reply (record { says = subst (λ i. Says call (answer_of call reply) (disk_of i)) later.1 does.says; small = does.small; tree = subst (λ i. IsTreeDisk (disk_of i)) same tree }))),
      ))),
)

-- what is kept says something else too
pub keeps_as : {A : Type 0} (I J : Files → Type 0) (P : A → Files → Type 0) (p : Protocol A) (f : Files) → ((g : Files) → I g → J g) → I f → KeepsAlone I P p f → KeepsAlone J P p f
keeps_as I J P (ends x) f more holds keeps = λ g later. keeps g (holds, later.1)
keeps_as I J P (asks call k) f more holds keeps = λ g later.
    (let step = keeps g (holds, later.1) in (
      step.0,
      (λ h left tree. more h (step.1 h left tree)),
      (λ reply h does tree. (let one = step.2 reply h does tree in (more h one.0, keeps_as I J P (k reply) h more one.0 one.1))),
    ))
