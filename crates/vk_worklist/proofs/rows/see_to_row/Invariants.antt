use Rattle.std.proofs.Common.{◌≡◌, ◌≤◌, ◌<◌, ◌+◌, ◌-◌, ℕ, List, length}
use Rattle.std.specs.Prelude.{zip}
use Rattle.vk_worklist.specs.Rows.{needs_of, floors_of}
use Rattle.vk_worklist.proofs.rows.see_to_row.Given as goal

abbrev pub invariant-loop-alloc : goal.invariant-loop-alloc
invariant-loop-alloc l = record {
  few : (most : ℕ) → length l.initial.rows.items ≤ most → l.place < most → length l.rows.items ≤ most;
  needs : (seats : List (List ℕ)) (p : List ℕ) → needs_of (zip seats l.rows.items) p ≡ needs_of (zip seats l.initial.rows.items) p;
  floors : (seats : List (List ℕ)) (p : List ℕ) → floors_of (zip seats l.rows.items) p ≡ floors_of (zip seats l.initial.rows.items) p;
}

abbrev pub decreases-loop-alloc : goal.decreases-loop-alloc
decreases-loop-alloc l = (l.place + 1) - length l.rows.items
