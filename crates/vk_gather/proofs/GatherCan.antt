-- What a gathering asks next may be asked of any files, since all that it asks is read.
use Rattle.std.proofs.Common.{zero, suc, ℕ, [], ◌∷◌, ◌++◌, List, true, false, refl}
use Rattle.std.specs.Prelude.{Bool, Result, Ok, Err, reverse}
use Rattle.vk_spec.specs.Paths.{Path}
use Rattle.vk_spec.specs.States.{State}
use Rattle.vk_spec.specs.Standing.{OnFiles}
use Rattle.vk_protocol.specs.Protocols.{ends, each, on_ok}
use Rattle.vk_protocol.specs.Runs.{AsksOnly, CanAsk, CanRunOn, Reads}
use Rattle.vk_protocol.proofs.ProtocolLemmas.{only_each, only_ok, only_then}
use Rattle.vk_protocol.proofs.RunLemmas.{can_first, reads_can_on}
use Rattle.vk_walk.specs.Walks as walks
use Rattle.vk_walk.specs.WalkProtocol.{listed, walk_at}
use Rattle.vk_walk.specs.WalkMachine as walking
use Rattle.vk_walk.specs.WalkMachine.{walk_later, walk_means, walk_todo}
use Rattle.vk_walk.specs.declared.walks.Pending.{Pending}
use Rattle.vk_walk.specs.declared.walks.Walk.{Walk}
use Rattle.vk_walk.specs.declared.walks.WalkNow.{WalkNow}
use Rattle.vk_walk.specs.declared.walks.WalkNow.TheVariants.{Lists, Done, Over}
use Rattle.vk_gather.specs.Gathers.{Gathered, file_told, files_in, read_found, read_one, seen_in}
use Rattle.vk_gather.specs.FilesToGather.{FilesToGather}
use Rattle.vk_gather.specs.GatherMachine.{at_file, gather_means, now_means}
use Rattle.vk_gather.specs.declared.gathering.GatherNow.{GatherNow}
use Rattle.vk_gather.specs.declared.gathering.GatherNow.TheVariants as now
use Rattle.vk_gather.specs.declared.gathering.Gathering.{Gathering}
use Rattle.vk_gather.proofs.GatherAsks.{gather_reads}

-- ---- a walk that has come so far

at_reads : (most left : ℕ) (path : Path) (is : Bool) (found : List Path) → AsksOnly Reads (walk_at most left path is found)
at_reads most left path false found = tt
at_reads most zero path true found = tt
at_reads most (suc left) path true found = (
  refl,
  λ reply. only_ok Reads (λ es. each (λ e found. walk_at most left (path ++ e.name ∷ []) e.folder found) es found) (listed reply)
      (λ es. only_each Reads (λ e found. walk_at most left (path ++ e.name ∷ []) e.folder found) es found (λ e t. at_reads most left (path ++ e.name ∷ []) e.folder t)),
)

todo_reads : (most : ℕ) (todo : List Pending) (r : Result (List Path) walks.Limit) → AsksOnly Reads (on_ok (walk_todo most todo) r)
todo_reads most todo r = only_ok Reads (walk_todo most todo) r (λ found. only_each Reads (walk_later most) (reverse todo) found (λ p t. at_reads most p.left p.path p.folder t))

now_reads : (most : ℕ) (at : WalkNow) (found : List Path) (todo : List Pending) → AsksOnly Reads (walking.now_means most at found todo)
now_reads most (Lists path left) found todo = only_then Reads (walk_at most (suc left) path true found) (on_ok (walk_todo most todo)) (at_reads most (suc left) path true found) (todo_reads most todo)
now_reads most Done found todo = tt
now_reads most (Over limit) found todo = tt

walk_reads : (w : Walk) → AsksOnly Reads (walk_means w)
unfolding walk_means
walk_reads w = now_reads w.files w.at w.found w.todo

-- ---- a gathering that has come so far

module _ (most : ℕ) (folder : Path) where
  files_read : (paths : List Path) (g : Gathered) → AsksOnly Reads (each (read_one most folder) paths g)
  files_read paths g = only_each Reads (read_one most folder) paths g (λ seen t. (refl, λ reply. tt))

  found_reads : (r : Result (List Path) walks.Limit) → AsksOnly Reads (read_found most folder r)
  found_reads (Ok found) = only_then Reads (each (read_one most folder) (seen_in folder found) (record { files = []; room = most })) (λ r. ends (files_in r)) (files_read (seen_in folder found) (record { files = []; room = most })) (λ r. tt)
  found_reads (Err limit) = tt

  file_reads : (l : FilesToGather) → AsksOnly Reads (at_file most folder l)
  file_reads l = (
    refl,
    λ reply. only_then Reads (on_ok (each (read_one most folder) l.later) (file_told most l.next l.so_far reply)) (λ r. ends (files_in r))
        (only_ok Reads (each (read_one most folder) l.later) (file_told most l.next l.so_far reply) (files_read l.later)) (λ r. tt),
  )

  state_reads : (at : GatherNow) → AsksOnly Reads (now_means most folder at)
  state_reads now.Start = gather_reads most folder
  state_reads (now.Walks walk) = only_then Reads (walk_means walk) (read_found most folder) (walk_reads walk) found_reads
  state_reads (now.Files left) = file_reads left
  state_reads (now.Ended r) = tt

-- each call that is left only reads
pub left_reads : (g : Gathering) → AsksOnly Reads (gather_means g)
unfolding gather_means
left_reads g = state_reads g.most g.folder g.at

-- so all that is left may be run
pub gather_can_on : (g : Gathering) (s : State) → CanRunOn (gather_means g) s
gather_can_on g s = reads_can_on (gather_means g) s (left_reads g)

-- and the next call made, whatever the files are
pub gather_can : (g : Gathering) (s : State) → OnFiles (CanAsk (gather_means g)) s
gather_can g s = can_first (gather_means g) s (gather_can_on g s)
