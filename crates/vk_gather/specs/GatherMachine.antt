-- What is left of a gathering that has come so far.
use Rattle.std.specs.Prelude.{◌++◌, ◌-◌, [], ◌∷◌, length, Bool, true, false, ℕ, List, Result}
use Rattle.vk_spec.specs.Paths.{Path}
use Rattle.vk_spec.specs.Calls.{read_of, Refusal}
use Rattle.vk_base.specs.Paths.{parts_of}
use Rattle.vk_base.specs.declared.limits.Limit.{Limit}
use Rattle.vk_protocol.specs.Protocols.{Protocol, ends, asks, on_ok, each, ◌>>=◌}
use Rattle.vk_walk.specs.WalkMachine.{walk_means}
use Rattle.vk_walk.specs.declared.walks.Walk.{Walk}
use Rattle.vk_entry.specs.Packages.{File}
use Rattle.vk_gather.specs.Gathers.{Gathered, file_told, files_in, gather_of, read_found, read_one}
use Rattle.vk_gather.specs.FilesToGather.{FilesToGather}
use Rattle.vk_gather.specs.declared.gathering.GatherNow.{GatherNow}
use Rattle.vk_gather.specs.declared.gathering.GatherNow.TheVariants as now
use Rattle.vk_gather.specs.declared.gathering.Gathering.{Gathering}

-- the files that are left, and what follows
abbrev pub files_left : ℕ → Path → List Path → Gathered → Protocol (Result (List File) Limit)
files_left most folder paths g = each (read_one most folder) paths g >>= λ r. ends (files_in r)

-- one file more
abbrev pub with_one : Path → List ℕ → Gathered → Gathered
with_one path bytes g = record { files = g.files ++ record { path = path; bytes = bytes } ∷ []; room = g.room - length bytes }

-- what the reply to the reading of the next one leads to
abbrev pub after_file : ℕ → Path → FilesToGather → Result (List ℕ) Refusal → Protocol (Result (List File) Limit)
after_file most folder l reply = on_ok (each (read_one most folder) l.later) (file_told most l.next l.so_far reply) >>= λ r. ends (files_in r)

abbrev pub at_file : ℕ → Path → FilesToGather → Protocol (Result (List File) Limit)
at_file most folder l = asks (read_of (folder ++ parts_of l.next) l.so_far.room) (after_file most folder l)

-- the walk that is left, and what follows
abbrev pub walk_left : ℕ → Path → Walk → Protocol (Result (List File) Limit)
walk_left most folder walk = walk_means walk >>= read_found most folder

abbrev pub now_means : ℕ → Path → GatherNow → Protocol (Result (List File) Limit)
now_means most folder now.Start = gather_of most folder
now_means most folder (now.Walks walk) = walk_left most folder walk
now_means most folder (now.Files left) = at_file most folder left
now_means most folder (now.Ended r) = ends r

-- whether it may be to make a call
abbrev pub may_ask : GatherNow → Bool
may_ask now.Start = true
may_ask (now.Walks walk) = true
may_ask (now.Files left) = true
may_ask (now.Ended r) = false

unfoldable pub gather_means : Gathering → Protocol (Result (List File) Limit)
gather_means g = now_means g.most g.folder g.at
