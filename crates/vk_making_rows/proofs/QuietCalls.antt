-- What is known of a call is known of it where the files aren't told.
use Rattle.std.proofs.Common.{ℕ, List, refl, Ok, Err}
use Rattle.vk_spec.specs.Paths.{Path}
use Rattle.vk_spec.specs.States.{State}
use Rattle.vk_spec.specs.Calls.{Answer, Call, Fault, Kind, Made, Output, Refusal, fails, lacks, kind_of, refuses, rename_of, write_of}
use Rattle.vk_making_rows.specs.QuietTrees.{untold}

pub quiet : (call : Call) (answer : Answer (Output call)) (s t : State) → Made call answer s t → Made call answer (untold s) (untold t)
quiet call answer s t made = record {
  content = refl;
  small = made.small;
  tree = tt;
  tree_after = tt;
  changes = made.changes;
  calls = made.calls;
  later = made.later;
  widest = made.widest;
  ends = record { faults = made.ends.faults; sure = made.ends.sure; safe = made.ends.safe };
}

-- a kind was asked for in place of a write, which is out of memory, or failed
pub no_write : (path : Path) (bytes : List ℕ) (kind : Kind) (s t : State) → Made (kind_of path) (Ok kind) s t → Made (write_of path bytes) (Err lacks) (untold s) (untold t)
no_write path bytes kind s t made = record {
  content = refl;
  small = tt;
  tree = tt;
  tree_after = tt;
  changes = made.changes;
  calls = made.calls;
  later = made.later;
  widest = made.widest;
  ends = record { faults = made.ends.faults; sure = made.ends.sure; safe = made.ends.safe };
}

pub write_ends : (path : Path) (bytes : List ℕ) (e : Fault) (s t : State) → Made (kind_of path) (Err e) s t → Made (write_of path bytes) (Err e) (untold s) (untold t)
write_ends path bytes e s t made = record {
  content = refl;
  small = tt;
  tree = tt;
  tree_after = tt;
  changes = made.changes;
  calls = made.calls;
  later = made.later;
  widest = made.widest;
  ends = record { faults = made.ends.faults; sure = made.ends.sure; safe = made.ends.safe };
}

-- and in place of a move, which is refused, or failed
pub no_move : (from to : Path) (kind : Kind) (r : Refusal) (s t : State) → Made (kind_of from) (Ok kind) s t → Made (rename_of from to) (Err (refuses r)) (untold s) (untold t)
no_move from to kind r s t made = record {
  content = refl;
  small = tt;
  tree = tt;
  tree_after = tt;
  changes = made.changes;
  calls = made.calls;
  later = made.later;
  widest = made.widest;
  ends = record { faults = made.ends.faults; sure = made.ends.sure; safe = made.ends.safe };
}

pub move_ends : (from to : Path) (e : Fault) (s t : State) → Made (kind_of from) (Err e) s t → Made (rename_of from to) (Err e) (untold s) (untold t)
move_ends from to e s t made = record {
  content = refl;
  small = tt;
  tree = tt;
  tree_after = tt;
  changes = made.changes;
  calls = made.calls;
  later = made.later;
  widest = made.widest;
  ends = record { faults = made.ends.faults; sure = made.ends.sure; safe = made.ends.safe };
}
