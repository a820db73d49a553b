-- How an entry is published, call by call.
use Rattle.std.specs.Prelude.{◌++◌, ℕ, List, Result, Ok, Err}
use Rattle.vk_spec.specs.Paths.{Path}
use Rattle.vk_spec.specs.Calls.{list_of, write_of, rename_of, Refusal, missing, too_large, exists, many}
use Rattle.vk_base.specs.declared.limits.Limit.{Limit}
use Rattle.vk_base.specs.declared.limits.Limit.TheVariants as limit
use Rattle.vk_protocol.specs.Protocols.{Protocol, ends, asks, on_ok, each, ◌>>=◌}
use Rattle.vk_places.specs.Places.{entry_at, tmp_of, tmp_at}
use Rattle.vk_publish.specs.Names.{free_of}
use Rattle.vk_publish.specs.Entries.{Placed}
use Rattle.vk_publish.specs.declared.answers.Published.{Published}
use Rattle.vk_publish.specs.declared.answers.Published.TheVariants.{Now, Already, Gone}

abbrev pub published_by : Result (Unit {0}) Refusal → Published
published_by (Ok u) = Now
published_by (Err missing) = Gone
published_by (Err too_large) = Gone
published_by (Err exists) = Already
published_by (Err many) = Gone

abbrev pub write_one : Path → Placed → Unit {0} → Protocol (Result (Unit {0}) Limit)
write_one at file u = asks (write_of (at ++ file.0) file.1) (λ reply. ends (Ok tt))

abbrev pub move_in : Path → Path → Unit {0} → Protocol (Result Published Limit)
move_in from to u = asks (rename_of from to) (λ reply. ends (Ok (published_by reply)))

-- each file is written below one path, which then becomes the other
abbrev pub write_all : Path → List Placed → Path → Protocol (Result Published Limit)
write_all at files to = each (write_one at) files tt >>= on_ok (move_in at to)

-- what is being made is listed; then the files are written below the agent's first free name, which becomes the entry
unfoldable pub publish_of : Path → List ℕ → List ℕ → List Placed → Protocol (Result Published Limit)
publish_of cache agent digest files =
    asks (list_of (tmp_of cache)) (λ reply. on_ok (λ n. write_all (tmp_at cache agent n) files (entry_at cache digest)) (free_of limit.Tmp agent reply))
