-- The calls of a tree as one relation: what each asks, what its answer says, and what it leaves.
use Rattle.std.specs.Prelude.{◌≡◌, ◌≤◌, ◌<◌, ◌⊎◌, ◌++◌, [], ◌∷◌, ℕ, List, length, take, drop, max, Bool, true, false, Option, Some, None, IfSome, Result, Ok, Err}
use Rattle.vk_spec.specs.Counts.{counted_up}
use Rattle.vk_spec.specs.Paths.{Path, Begins}
use Rattle.vk_spec.specs.Files.{Files, IsTree}
use Rattle.vk_spec.specs.States.{Told, State, Ends}
use Rattle.vk_spec.specs.Standing.{Disk, disk_of, under, bare, put, drop_at, Same, Else, IsFile, IsFolder, Stands, Entry, AreEntries, IsListing}

-- ---- what a call asks and answers

pub data Call : Type 0 where
  kind_of : Path → Call
  -- the path, and the limit
  read_of : Path → ℕ → Call
  -- the path, where the piece begins, and how long it may be
  piece_of : Path → ℕ → ℕ → Call
  list_of : Path → Call
  write_of : Path → List ℕ → Call
  rename_of : Path → Path → Call
  remove_of : Path → Call

pub data Kind : Type 0 where
  is_file : Kind
  is_folder : Kind
  is_absent : Kind

-- what a call gives where it is done
abbrev pub Output : Call → Type 0
Output (kind_of p) = Kind
Output (read_of p limit) = List ℕ
Output (piece_of p at most) = List ℕ
Output (list_of p) = List Entry
Output (write_of p bytes) = Unit {0}
Output (rename_of p q) = Unit {0}
Output (remove_of p) = Unit {0}

-- what a call says of what stands there, in place of its output
pub data Refusal : Type 0 where
  missing : Refusal
  too_large : Refusal
  exists : Refusal
  many : Refusal

-- why a call wasn't done: what stands there, a failure of the tree, or out of memory
pub data Fault : Type 0 where
  refuses : Refusal → Fault
  fails : Fault
  lacks : Fault

abbrev pub Answer : Type 0 → Type 0
Answer A = Result A Fault

-- the tree failed; a refusal and out of memory are no failure
abbrev pub stops : Fault → Bool
stops (refuses r) = false
stops fails = true
stops lacks = false

abbrev pub is_failed : {A : Type 0} → Answer A → Bool
is_failed (Ok x) = false
is_failed (Err e) = stops e

-- ---- what it says of the files, and what it leaves

-- the most entries of one folder
abbrev pub most_entries : ℕ
most_entries = 100000

abbrev pub KindIs : Disk → Path → Kind → Type 0
KindIs d p is_file = IsFile d p
KindIs d p is_folder = IsFolder d p
KindIs d p is_absent = Same bare (under p d)

-- what the output says of the files before
abbrev pub IsOutput : (call : Call) → Output call → Disk → Type 0
IsOutput (kind_of p) kind d = KindIs d p kind
IsOutput (read_of p limit) bytes d = d p ≡ Some bytes
IsOutput (piece_of p at most) bytes d = (all : List ℕ) × (d p ≡ Some all) × (bytes ≡ take most (drop at all))
IsOutput (list_of p) entries d = IsListing d p entries × IsFolder d p
IsOutput (write_of p bytes) done d = Unit {0}
IsOutput (rename_of a b) done d = Stands d a × (Stands d b → ⊥)
IsOutput (remove_of p) done d = IsFile d p

-- when a call is refused, by the files before
abbrev pub Refuses : Call → Refusal → Disk → Type 0
Refuses (kind_of p) r d = ⊥
Refuses (read_of p limit) missing d = d p ≡ None
Refuses (read_of p limit) too_large d = (bytes : List ℕ) × (d p ≡ Some bytes) × (limit < length bytes)
Refuses (read_of p limit) exists d = ⊥
Refuses (read_of p limit) many d = ⊥
Refuses (piece_of p at most) missing d = d p ≡ None
Refuses (piece_of p at most) too_large d = ⊥
Refuses (piece_of p at most) exists d = ⊥
Refuses (piece_of p at most) many d = ⊥
Refuses (list_of p) missing d = IsFolder d p → ⊥
Refuses (list_of p) many d = (entries : List Entry) × AreEntries d p entries × (most_entries < length entries)
Refuses (list_of p) too_large d = ⊥
Refuses (list_of p) exists d = ⊥
Refuses (write_of p bytes) r d = ⊥
Refuses (rename_of a b) missing d = Stands d a → ⊥
Refuses (rename_of a b) exists d = Stands d a × Stands d b
Refuses (rename_of a b) too_large d = ⊥
Refuses (rename_of a b) many d = ⊥
Refuses (remove_of p) missing d = d p ≡ None
Refuses (remove_of p) too_large d = ⊥
Refuses (remove_of p) exists d = ⊥
Refuses (remove_of p) many d = ⊥

-- what an answer says of the files before
abbrev pub Says : (call : Call) → Answer (Output call) → Disk → Type 0
Says call (Ok x) d = IsOutput call x d
Says call (Err (refuses r)) d = Refuses call r d
Says call (Err fails) d = Unit {0}
Says call (Err lacks) d = Unit {0}

-- what stood at or below the one path then stands at or below the other
pub record Moves (a b : Path) (d e : Disk) : Type 0 where
  pub lands : Same (under a d) (under b e)
  pub leaves : Same bare (under a e)
  pub others : Else (λ p. Begins a p ⊎ Begins b p) d e

-- what a call that is done leaves; one that reads leaves the very files
abbrev pub LeavesDone : Call → Files → Files → Type 0
LeavesDone (kind_of p) f g = g ≡ f
LeavesDone (read_of p limit) f g = g ≡ f
LeavesDone (piece_of p at most) f g = g ≡ f
LeavesDone (list_of p) f g = g ≡ f
LeavesDone (write_of p bytes) f g = Same (put p bytes (disk_of f)) (disk_of g)
LeavesDone (rename_of a b) f g = Moves a b (disk_of f) (disk_of g)
LeavesDone (remove_of p) f g = Same (drop_at p (disk_of f)) (disk_of g)

-- what a call that failed leaves: a write may leave anything at its path
abbrev pub LeavesFailed : Call → Files → Files → Type 0
LeavesFailed (kind_of p) f g = g ≡ f
LeavesFailed (read_of p limit) f g = g ≡ f
LeavesFailed (piece_of p at most) f g = g ≡ f
LeavesFailed (list_of p) f g = g ≡ f
LeavesFailed (write_of p bytes) f g = Else (λ q. q ≡ p) (disk_of f) (disk_of g)
LeavesFailed (rename_of a b) f g = g ≡ f
LeavesFailed (remove_of p) f g = g ≡ f

abbrev pub Leaves : (call : Call) → Answer (Output call) → Files → Files → Type 0
Leaves call (Ok x) f g = LeavesDone call f g
Leaves call (Err (refuses r)) f g = g ≡ f
Leaves call (Err fails) f g = LeavesFailed call f g
Leaves call (Err lacks) f g = g ≡ f

-- ---- a call that was made

abbrev pub is_reading : Call → Bool
is_reading (kind_of p) = true
is_reading (read_of p limit) = true
is_reading (piece_of p at most) = true
is_reading (list_of p) = true
is_reading (write_of p bytes) = false
is_reading (rename_of p q) = false
is_reading (remove_of p) = false

-- the log notes a path where a read told what stands there
abbrev pub noted : {A : Type 0} → Path → Answer A → List Path
noted path (Ok x) = path ∷ []
noted path (Err (refuses r)) = path ∷ []
noted path (Err fails) = []
noted path (Err lacks) = []

abbrev pub noted_by : (call : Call) → Answer (Output call) → List Path
noted_by (kind_of p) answer = []
noted_by (read_of p limit) answer = noted p answer
noted_by (piece_of p at most) answer = noted p answer
noted_by (list_of p) answer = []
noted_by (write_of p bytes) answer = []
noted_by (rename_of p q) answer = []
noted_by (remove_of p) answer = []

-- a change that is done counts once
abbrev pub changes_after : {A : Type 0} → Bool → Answer A → ℕ → ℕ
changes_after true answer n = n
changes_after false (Ok x) n = counted_up n
changes_after false (Err e) n = n

-- where the tree tells its files and its log: the one goes by what is done, the other by what is noted
abbrev pub ToldBecomes : List Path → (Files → Files → Type 0) → Option Told → Option Told → Type 0
ToldBecomes asked P None after = after ≡ None
ToldBecomes asked P (Some t) None = ⊥
ToldBecomes asked P (Some t) (Some u) = (u.log ≡ t.log ++ asked) × P t.files u.files

abbrev pub NoLonger : {A : Type 0} → ℕ → Answer (List A) → Type 0
NoLonger limit (Ok xs) = length xs ≤ limit
NoLonger limit (Err e) = Unit {0}

-- how much an answer holds, whether or not the files are told
abbrev pub IsSmall : (call : Call) → Answer (Output call) → Type 0
IsSmall (kind_of p) answer = Unit {0}
IsSmall (read_of p limit) answer = NoLonger limit answer
IsSmall (piece_of p at most) answer = NoLonger most answer
IsSmall (list_of p) answer = NoLonger most_entries answer
IsSmall (write_of p bytes) answer = Unit {0}
IsSmall (rename_of p q) answer = Unit {0}
IsSmall (remove_of p) answer = Unit {0}

-- how many bytes a call is to give at most
abbrev pub width_of : Call → ℕ
width_of (kind_of p) = 0
width_of (read_of p limit) = limit
width_of (piece_of p at most) = most
width_of (list_of p) = 0
width_of (write_of p bytes) = 0
width_of (rename_of p q) = 0
width_of (remove_of p) = 0

-- where it is told, no file lies below a file
abbrev pub IsTreeWhereTold : State → Type 0
IsTreeWhereTold s = IfSome s.told (λ t. IsTree t.files)

abbrev pub Content : (call : Call) → Answer (Output call) → Files → Files → Type 0
Content call answer f g = Says call answer (disk_of f) × Leaves call answer f g

-- the call was made, with this answer
pub record Made (call : Call) (answer : Answer (Output call)) (before after : State) : Type 0 where
  pub content : ToldBecomes (noted_by call answer) (Content call answer) before.told after.told
  pub small : IsSmall call answer
  pub tree : IsTreeWhereTold before
  pub tree_after : IsTreeWhereTold after
  pub changes : after.changes ≡ changes_after (is_reading call) answer before.changes
  pub calls : after.calls ≡ counted_up before.calls
  pub later : before.calls ≤ after.calls
  pub widest : after.widest ≡ max before.widest (width_of call)
  pub ends : Ends (is_failed answer) before after

-- ---- what a caller has to see to

-- no file stands above the path
abbrev pub IsBareAbove : Disk → Path → Type 0
IsBareAbove d p = (q : Path) (part : List ℕ) (rest : Path) → p ≡ q ++ part ∷ rest → d q ≡ None

-- a file is written where none stands above or below; a rename goes neither into nor out of its own folder
abbrev pub CanMake : Call → Disk → Type 0
CanMake (kind_of p) d = Unit {0}
CanMake (read_of p limit) d = Unit {0}
CanMake (piece_of p at most) d = Unit {0}
CanMake (list_of p) d = Unit {0}
CanMake (write_of p bytes) d = IsBareAbove d p × (IsFolder d p → ⊥)
CanMake (rename_of a b) d = IsBareAbove d b × (Begins a b → ⊥) × (Begins b a → ⊥)
CanMake (remove_of p) d = Unit {0}

-- which paths a call may change
abbrev pub Touches : Call → Path → Type 0
Touches (kind_of p) q = ⊥
Touches (read_of p limit) q = ⊥
Touches (piece_of p at most) q = ⊥
Touches (list_of p) q = ⊥
Touches (write_of p bytes) q = q ≡ p
Touches (rename_of a b) q = Begins a q ⊎ Begins b q
Touches (remove_of p) q = q ≡ p
