-- A gathering only reads, at its folder and below it.
use Rattle.std.proofs.Common.{[], ℕ, List, refl, sym, subst}
use Rattle.std.specs.Prelude.{Result, Ok, Err}
use Rattle.vk_spec.specs.Paths.{Path}
use Rattle.vk_spec.specs.Calls.{Call}
use Rattle.vk_base.specs.Paths.{parts_of}
use Rattle.vk_walk.specs.Walks as walks
use Rattle.vk_walk.specs.Walked.{walk_limits}
use Rattle.vk_walk.specs.WalkProtocol.{ListsIn, walk_of}
use Rattle.vk_walk.proofs.WalkAsks.{walk_lists}
use Rattle.vk_protocol.specs.Below.{ReadsBelow}
use Rattle.vk_protocol.specs.Protocols.{ends, each}
use Rattle.vk_protocol.specs.Runs.{AsksOnly, Reads}
use Rattle.vk_protocol.proofs.BelowLemmas.{reads_below}
use Rattle.vk_protocol.proofs.ProtocolLemmas.{only_then, only_each, only_more}
use Rattle.vk_gather.specs.Gathers.{Gathered, read_one, read_found, files_in, seen_in, gather_of}

module _ (most : ℕ) (folder : Path) where
  lists_below : (call : Call) → ListsIn folder call → ReadsBelow folder call
  lists_below call lists = subst (ReadsBelow folder) (sym lists.2) lists.1

  abbrev start : ℕ → Gathered
  start most = record { files = []; room = most }

  found_below : (r : Result (List Path) walks.Limit) → AsksOnly (ReadsBelow folder) (read_found most folder r)
  found_below (Ok found) = only_then (ReadsBelow folder) (each (read_one most folder) (seen_in folder found) (start most)) (λ r. ends (files_in r))
      (only_each (ReadsBelow folder) (read_one most folder) (seen_in folder found) (start most) (λ seen g. ((parts_of seen, refl), λ reply. tt)))
      (λ r. tt)
  found_below (Err limit) = tt

  pub gather_below : AsksOnly (ReadsBelow folder) (gather_of most folder)
  unfolding gather_of
  gather_below = only_then (ReadsBelow folder) (walk_of walk_limits folder) (read_found most folder)
      (only_more (ListsIn folder) (ReadsBelow folder) (walk_of walk_limits folder) lists_below (walk_lists walk_limits folder)) found_below

  pub gather_reads : AsksOnly Reads (gather_of most folder)
  gather_reads = only_more (ReadsBelow folder) Reads (gather_of most folder) (reads_below folder) gather_below
