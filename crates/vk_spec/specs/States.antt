-- What is known of a tree of files, and what a caller that only reads leaves.
use Rattle.std.specs.Prelude.{◌≡◌, ◌≤◌, ◌++◌, ℕ, Bool, true, false, List, [], Option, Some, None}
use Rattle.vk_spec.specs.Counts.{Counted}
use Rattle.vk_spec.specs.Paths.{Path}
use Rattle.vk_spec.specs.Files.{Files}

-- what a tree tells: its files, and the paths that it was asked to read
pub record Told : Type 0 where
  pub files : Files
  pub log : List Path

pub record State : Type 0 where
  -- what it holds, where it tells it
  pub told : Option Told
  -- how many writes, renames and removals succeeded
  pub changes : ℕ
  -- how many calls failed
  pub faults : ℕ
  -- how many calls were made
  pub calls : ℕ
  -- the most bytes that one call was to give
  pub widest : ℕ
  -- no call is to fail
  pub sure : Bool

-- the files are the same, and these paths were asked for besides
abbrev pub with_asked : List Path → Option Told → Option Told
with_asked asked None = None
with_asked asked (Some t) = Some (record { files = t.files; log = t.log ++ asked })

-- nothing failed, or at least one call did; a tree that is sure has none that fails
pub record Ends (failed : Bool) (before after : State) : Type 0 where
  pub faults : Counted failed before.faults after.faults
  pub sure : after.sure ≡ before.sure
  pub safe : before.sure ≡ true → failed ≡ false

-- these paths were asked for, and nothing else was done
pub record Looks (asked : List Path) (failed : Bool) (before after : State) : Type 0 where
  pub told : after.told ≡ with_asked asked before.told
  pub changes : after.changes ≡ before.changes
  pub calls : before.calls ≤ after.calls
  pub ends : Ends failed before after

-- some paths were asked for, and nothing else was done
pub record OnlyRead (failed : Bool) (before after : State) : Type 0 where
  pub asked : List Path
  pub looks : Looks asked failed before after

-- no call was to give more bytes than this, or than one before
pub record IsNarrow (most : ℕ) (before after : State) : Type 0 where
  pub keeps : (width : ℕ) → before.widest ≤ width → most ≤ width → after.widest ≤ width

-- folders were listed, and nothing else was done
pub record OnlyListed (failed : Bool) (before after : State) : Type 0 where
  pub looks : Looks [] failed before after
  pub narrow : IsNarrow 0 before after
