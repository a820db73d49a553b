-- A call of a tree in memory, put together from what each part of it did.
use Rattle.std.proofs.Common.{◌≡◌, ◌≤◌, ◌++◌, inl, inr, ℕ, List, true, false, refl, ap, sym, ◌∙◌, subst}
use Rattle.std.proofs.lemmas.List.{append-nil}
use Rattle.std.specs.Prelude.{Bool, Ok, Err}
use Rattle.std.specs.FinMap as map
use Rattle.vk_spec.specs.Counts.{Counted, counted_up}
use Rattle.vk_spec.specs.Paths.{Path}
use Rattle.vk_spec.specs.Files.{Files, IsTree, HasRoomFor}
use Rattle.vk_spec.specs.Standing.{disk_of, Else}
use Rattle.vk_spec.specs.Calls.{Call, Output, Answer, fails, is_failed, noted_by, changes_after, is_reading, IsSmall, Content, CanMake, width_of, write_of, Made}
use Rattle.vk_spec.proofs.CallLemmas.{write_leaves}
use Rattle.vk_spec.proofs.FileLemmas.{insert_agrees}
use Rattle.vk_spec.proofs.OrderLemmas.{none_where}
use Rattle.vk_base.specs.Schedules.{is_calm}
use Rattle.vk_tree.specs.declared.mem_trees.MemTree.{MemTree}
use Rattle.vk_tree.specs.MemTrees.{mem_state, called, IsHalfPut}

-- a call that was counted first, when it was told whether it fails
pub made : (call : Call) (answer : Answer (Output call)) (m k n : MemTree) (failed : Bool)
    → k ≡ called (width_of call) m → Counted failed m.faults k.faults → (is_calm m.schedule ≡ true → failed ≡ false) → m.schedule.calls ≤ k.schedule.calls → IsTree m.files
    → is_failed answer ≡ failed → n.schedule ≡ k.schedule → n.faults ≡ k.faults → n.widest ≡ k.widest → IsTree n.files → n.log ≡ m.log ++ noted_by call answer
    → n.changes ≡ changes_after (is_reading call) answer m.changes → IsSmall call answer → Content call answer m.files n.files → Made call answer (mem_state m) (mem_state n)
made call answer m k n failed e counted calm later tree same_failed same_schedule same_faults same_widest tree_after log changes small content =
    let schedule = same_schedule ∙ ap (λ x. x.schedule) e in
    record {
      content = (log, content);
      small = small;
      tree = tree;
      tree_after = tree_after;
      changes = changes;
      calls = ap (λ s. s.calls) schedule;
      widest = same_widest ∙ ap (λ x. x.widest) e;
      later = subst (λ s. m.schedule.calls ≤ s.calls) (sym same_schedule) later;
      ends = record {
        faults = subst (Counted (is_failed answer) m.faults) (sym same_faults) (subst (λ b. Counted b m.faults k.faults) (sym same_failed) counted);
        sure = ap is_calm schedule;
        safe = λ is. same_failed ∙ calm is;
      };
    }

-- one that failed, and changed nothing
pub failed_call : (call : Call) (m k : MemTree) (failed : Bool)
    → k ≡ called (width_of call) m → Counted failed m.faults k.faults → (is_calm m.schedule ≡ true → failed ≡ false) → m.schedule.calls ≤ k.schedule.calls → IsTree m.files
    → failed ≡ true → m.log ≡ m.log ++ noted_by call (Err fails) → m.changes ≡ changes_after {A = Output call} (is_reading call) (Err fails) m.changes → IsSmall call (Err fails) → Content call (Err fails) m.files m.files
    → Made call (Err fails) (mem_state m) (mem_state k)
failed_call call m k failed e counted calm later tree is log changes small content =
    let kept : k.files ≡ m.files = ap (λ x. x.files) e in
    made call (Err fails) m k k failed e counted calm later tree (sym is) refl refl refl (subst IsTree (sym kept) tree) (ap (λ x. x.log) e ∙ log) (ap (λ x. x.changes) e ∙ changes) small (subst (Content call (Err fails) m.files) (sym kept) content)

-- a write that may be made has room
pub room_where : (path : Path) (bytes : List ℕ) (f : Files) → CanMake (write_of path bytes) (disk_of f) → HasRoomFor path f
room_where path bytes f can = record { above = can.0; below = λ part rest. none_where (disk_of f _) (λ some. can.1 (part, rest, some)) }

half_leaves : (path : Path) (bytes : List ℕ) (f g : Files) → IsHalfPut path bytes f g → Else (λ q. q ≡ path) (disk_of f) (disk_of g)
half_leaves path bytes f g (inl put) q other = ap (λ h. map.get h q) put ∙ insert_agrees path _ f q (λ e. other (sym e))
half_leaves path bytes f g (inr same) q other = ap (λ h. map.get h q) same

pub half_written : (path : Path) (bytes : List ℕ) (m k : MemTree) (g : Files) (failed : Bool)
    → k ≡ called 0 m → Counted failed m.faults k.faults → (is_calm m.schedule ≡ true → failed ≡ false) → m.schedule.calls ≤ k.schedule.calls → IsTree m.files
    → failed ≡ true → IsTree g → IsHalfPut path bytes k.files g → Made (write_of path bytes) (Err fails) (mem_state m) (mem_state (record k { files = g }))
half_written path bytes m k g failed e counted calm later tree is tree_after half =
    made (write_of path bytes) (Err fails) m k (record k { files = g }) failed e counted calm later tree (sym is) refl refl refl tree_after
    (ap (λ x. x.log) e ∙ sym (append-nil m.log)) (ap (λ x. x.changes) e) tt (tt, half_leaves path bytes m.files g (subst (λ f. IsHalfPut path bytes f g) (ap (λ x. x.files) e) half))

pub written : (path : Path) (bytes : List ℕ) (m k : MemTree) (g : Files) (changes : ℕ) (failed : Bool)
    → k ≡ called 0 m → Counted failed m.faults k.faults → (is_calm m.schedule ≡ true → failed ≡ false) → m.schedule.calls ≤ k.schedule.calls → IsTree m.files
    → failed ≡ false → IsTree g → g ≡ map.insert k.files path bytes → changes ≡ counted_up k.changes → Made (write_of path bytes) (Ok tt) (mem_state m) (mem_state (record k { files = g; changes = changes }))
written path bytes m k g changes failed e counted calm later tree is tree_after put counts =
    made (write_of path bytes) (Ok tt) m k (record k { files = g; changes = changes }) failed e counted calm later tree (sym is) refl refl refl tree_after
    (ap (λ x. x.log) e ∙ sym (append-nil m.log)) (counts ∙ ap (λ x. counted_up x.changes) e) tt
    (tt, λ q. ap (λ h. map.get h q) (put ∙ ap (λ x. map.insert x.files path bytes) e) ∙ write_leaves m.files path bytes q)
