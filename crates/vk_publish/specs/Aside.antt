-- How an entry is set aside, call by call.
use Rattle.std.specs.Prelude.{ℕ, List, Result, Ok, Err}
use Rattle.vk_spec.specs.Paths.{Path}
use Rattle.vk_spec.specs.Calls.{list_of, rename_of, Refusal, missing, too_large, exists, many}
use Rattle.vk_base.specs.declared.limits.Limit.{Limit}
use Rattle.vk_base.specs.declared.limits.Limit.TheVariants as limit
use Rattle.vk_protocol.specs.Protocols.{Protocol, ends, asks, on_ok}
use Rattle.vk_places.specs.Places.{entry_at, damaged_of, damaged_at}
use Rattle.vk_publish.specs.Names.{free_of}
use Rattle.vk_publish.specs.declared.answers.Moved.{Moved}
use Rattle.vk_publish.specs.declared.answers.Moved.TheVariants.{Done, Gone, Taken}

abbrev pub moved_by : Result (Unit {0}) Refusal → Moved
moved_by (Ok u) = Done
moved_by (Err missing) = Gone
moved_by (Err too_large) = Gone
moved_by (Err exists) = Taken
moved_by (Err many) = Gone

abbrev pub move_out : Path → Path → Protocol (Result Moved Limit)
move_out from to = asks (rename_of from to) (λ reply. ends (Ok (moved_by reply)))

-- what was set aside is listed; then the entry becomes the agent's first free name there
unfoldable pub aside_of : Path → List ℕ → List ℕ → Protocol (Result Moved Limit)
aside_of cache agent digest =
    asks (list_of (damaged_of cache)) (λ reply. on_ok (λ n. move_out (entry_at cache digest) (damaged_at cache agent n)) (free_of limit.Damaged agent reply))
