-- What only reads does nothing to a shared cache, and reads what stays.
use Rattle.std.proofs.Common.{◌≡◌, sym, ◌∙◌, subst, ℕ, List}
use Rattle.std.specs.Prelude.{Ok, Err, IsSome}
use Rattle.vk_spec.specs.Paths.{Path}
use Rattle.vk_spec.specs.Files.{Files}
use Rattle.vk_spec.specs.Standing.{Disk, disk_of, under, Same, Stands}
use Rattle.vk_spec.specs.Calls.{Call, kind_of, read_of, piece_of, list_of, write_of, rename_of, remove_of, CanMake, LeavesFailed, Leaves}
use Rattle.vk_tree.specs.Trees.{IsTreeDisk}
use Rattle.vk_protocol.specs.Below.{ReadsBelow}
use Rattle.vk_protocol.specs.Keeps.{Keeps}
use Rattle.vk_protocol.specs.Protocols.{Reply, answer_of, Protocol, ends, asks}
use Rattle.vk_protocol.specs.Runs.{AsksOnly, Reads, Tells}
use Rattle.vk_protocol.proofs.BelowLemmas.{reads_below, says_same}
use Rattle.vk_publish.specs.Shared.{Pair, named_at, Effect, Later}
use Rattle.vk_publish.proofs.SharedLemmas.{nothing_done}

can_read : (call : Call) (d : Disk) → Reads call → CanMake call d
can_read (kind_of p) d h = tt
can_read (read_of p limit) d h = tt
can_read (piece_of p at most) d h = tt
can_read (list_of p) d h = tt
can_read (write_of p bytes) d h = (cc)
can_read (rename_of p q) d h = (cc)
can_read (remove_of p) d h = (cc)

read_failed : (call : Call) (f g : Files) → Reads call → LeavesFailed call f g → g ≡ f
read_failed (kind_of p) f g h left = left
read_failed (read_of p limit) f g h left = left
read_failed (piece_of p at most) f g h left = left
read_failed (list_of p) f g h left = left
read_failed (write_of p bytes) f g h left = (cc)
read_failed (rename_of p q) f g h left = (cc)
read_failed (remove_of p) f g h left = (cc)

pub read_left : (call : Call) (reply : Reply call) (f g : Files) → Reads call → Leaves call (answer_of call reply) f g → g ≡ f
read_left (kind_of p) (Ok x) f g h left = left
read_left (read_of p limit) (Ok x) f g h left = left
read_left (piece_of p at most) (Ok x) f g h left = left
read_left (list_of p) (Ok x) f g h left = left
read_left (write_of p bytes) (Ok x) f g h left = (cc)
read_left (rename_of p q) (Ok x) f g h left = (cc)
read_left (remove_of p) (Ok x) f g h left = (cc)
read_left call (Err r) f g h left = left

pub stands_still : (p : Path) (d e : Disk) → Same (under p d) (under p e) → Stands d p → Stands e p
stands_still p d e same s = (s.0, subst (λ o. IsSome o) (sym (same s.0)) s.1)

module _ (all : List Pair) (cache : Path) (agent : List ℕ) where
  abbrev pub IsKept : {A : Type 0} → (A → Files → Type 0) → Protocol A → Files → Type 0
  IsKept P p f = Keeps (Later all cache agent) (λ f g. Effect all cache agent (disk_of f) (disk_of g)) P p f

  -- whatever it ends with
  pub reads_kept : {A : Type 0} (p : Protocol A) (f : Files) → AsksOnly Reads p → IsKept (λ x g. Unit {0}) p f
  reads_kept (ends x) f reads = λ g later. tt
  reads_kept (asks call k) f reads = λ g later. (
    can_read call (disk_of g) reads.0,
    (λ h left tree. nothing_done all cache agent g h (read_failed call g h reads.0 left)),
    (λ reply h does tree. (nothing_done all cache agent g h (read_left call reply g h reads.0 does.leaves), reads_kept (k reply) h (reads.1 reply))),
  )

  -- what stands at an entry stays, so reading it comes to what it says now
  pub view_kept : {A : Type 0} (name : List ℕ) (P : A → Type 0) (p : Protocol A) (d : Disk) (f : Files) → IsTreeDisk d → Same (under (named_at cache name) d) (under (named_at cache name) (disk_of f)) → Stands (disk_of f) (named_at cache name)
      → AsksOnly (ReadsBelow (named_at cache name)) p → Tells P p d → IsKept (λ x g. P x) p f
  view_kept name P (ends x) d f tree same stands only tells = λ g later. tells
  view_kept name P (asks call k) d f tree same stands only tells = λ g later.
      (let still = later.others.kept name stands in
      let view : Same (under (named_at cache name) d) (under (named_at cache name) (disk_of g)) = λ r. still r ∙ same r in
      let stands_g = stands_still (named_at cache name) (disk_of f) (disk_of g) still stands in
      let reads = reads_below (named_at cache name) call only.0 in (
        can_read call (disk_of g) reads,
        (λ h left tree_h. nothing_done all cache agent g h (read_failed call g h reads left)),
        (λ reply h does tree_h.
            (let none = read_left call reply g h reads does.leaves in (
              nothing_done all cache agent g h none,
              view_kept name P (k reply) d h tree
                  (subst (λ i. Same (under (named_at cache name) d) (under (named_at cache name) (disk_of i))) (sym none) view)
                  (subst (λ i. Stands (disk_of i) (named_at cache name)) (sym none) stands_g)
                  (only.1 reply)
                  (tells reply (record { says = says_same (named_at cache name) d (disk_of g) view call reply only.0 does.says; small = does.small; tree = tree })),
            ))),
      ))
