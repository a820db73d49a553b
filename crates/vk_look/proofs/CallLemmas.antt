-- Which calls a look makes.
use Rattle.std.proofs.Common.{[], ℕ, List, refl, sym, subst}
use Rattle.std.specs.Prelude.{Option, Some, None, Result, Ok, Err}
use Rattle.std.specs.Str.{bytes_eq}
use Rattle.std.proofs.lemmas.List.{append-nil}
use Rattle.sha2.specs.Sha256.{sha256}
use Rattle.vk_spec.specs.Paths.{Path}
use Rattle.vk_spec.specs.Calls.{Call, Kind, is_file, is_folder, is_absent, Refusal}
use Rattle.vk_walk.specs.Walks.{Limit}
use Rattle.vk_walk.specs.Walked.{walk_limits}
use Rattle.vk_protocol.specs.Protocols.{ends, each}
use Rattle.vk_protocol.specs.Runs.{AsksOnly, Reads}
use Rattle.vk_protocol.proofs.ProtocolLemmas.{only_more, only_then, only_each}
use Rattle.vk_walk.specs.WalkProtocol.{ListsIn, walk_of}
use Rattle.vk_walk.proofs.WalkAsks.{walk_lists}
use Rattle.vk_entry.specs.Contents.{Content}
use Rattle.vk_look.specs.LookIs.{Wanted, places_of}
use Rattle.vk_look.specs.Looks.{damaged, look_of, look_stands, look_kept, look_contents, look_listed, look_compared, look_found, look_files, list_told, look_file, keeps, no_files, looked}
use Rattle.vk_protocol.specs.Below.{ReadsBelow}
use Rattle.vk_look.specs.LookCalls.{AsksFirst}
use Rattle.vk_entry.specs.Differences.{difference_of}
use Rattle.vk_entry.specs.declared.differences.Difference.{Difference}
use Rattle.vk_look.specs.declared.answers.Harm.TheVariants.{Text}
use Rattle.vk_look.proofs.PlaceTests.{if_case}
use Rattle.vk_protocol.proofs.BelowLemmas.{reads_below}

-- listing is reading
lists_below : (place : Path) (call : Call) → ListsIn place call → ReadsBelow place call
lists_below place call lists = subst (ReadsBelow place) (sym lists.2) lists.1

entry_below : (place : Path) → AsksOnly (ReadsBelow place) (walk_of walk_limits place)
entry_below place = only_more (ListsIn place) (ReadsBelow place) (walk_of walk_limits place) (lists_below place) (walk_lists walk_limits place)

module _ (w : Wanted) where
  files_below : (kept : List ℕ) (cs : List Content) → AsksOnly (ReadsBelow w.entry) (look_files w kept cs)
  files_below kept cs = only_then (ReadsBelow w.entry) (each (look_file w.entry) cs (no_files (keeps w kept cs))) (λ r. ends (looked w kept r))
      (only_each (ReadsBelow w.entry) (look_file w.entry) cs (no_files (keeps w kept cs)) (λ c files. ((_, refl), λ reply. tt))) (λ r. tt)

  compared_below : (kept : List ℕ) (cs : List Content) (o : Option Difference) → AsksOnly (ReadsBelow w.entry) (look_compared w kept cs o)
  compared_below kept cs (Some harm) = tt
  compared_below kept cs None = files_below kept cs

  found_below : (kept : List ℕ) (cs : List Content) (r : Result (List Path) Limit) → AsksOnly (ReadsBelow w.entry) (look_found w kept cs r)
  found_below kept cs (Err l) = tt
  found_below kept cs (Ok found) = compared_below kept cs (difference_of found (places_of w.entry cs))

  listed_below : (kept : List ℕ) (o : Option (List Content)) → AsksOnly (ReadsBelow w.entry) (look_listed w kept o)
  listed_below kept None = tt
  listed_below kept (Some cs) = only_then (ReadsBelow w.entry) (walk_of walk_limits w.entry) (look_found w kept cs) (entry_below w.entry) (found_below kept cs)

  kept_below : (r : Result (List ℕ) Refusal) → AsksOnly (ReadsBelow w.entry) (look_kept w r)
  kept_below (Err r) = tt
  kept_below (Ok kept) = if_case (AsksOnly (ReadsBelow w.entry)) (bytes_eq (sha256 kept) w.hash) (look_contents w kept) (damaged Text) (λ e. ((_, refl), λ reply. listed_below kept (list_told reply))) (λ e. tt)

  stands_below : (r : Result Kind Refusal) → AsksOnly (ReadsBelow w.entry) (look_stands w r)
  stands_below (Ok is_file) = tt
  stands_below (Ok is_folder) = ((_, refl), λ reply. kept_below reply)
  stands_below (Ok is_absent) = tt
  stands_below (Err r) = tt

  pub look_below : AsksOnly (ReadsBelow w.entry) (look_of w)
  unfolding look_of
  look_below = (([], sym (append-nil w.entry)), λ reply. stands_below reply)

  pub look_reads : AsksOnly Reads (look_of w)
  look_reads = only_more (ReadsBelow w.entry) Reads (look_of w) (reads_below w.entry) look_below

  pub look_first : AsksFirst w.entry (look_of w)
  unfolding look_of
  look_first = record { next = look_stands w; first = refl; nothing = tt; refused = λ r. tt }
