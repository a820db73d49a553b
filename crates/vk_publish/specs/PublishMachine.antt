-- What is left of a publishing that has come so far.
use Rattle.std.specs.Prelude.{◌++◌, [], ◌∷◌, ℕ, List, map, drop, Result, Ok, Err}
use Rattle.vk_spec.specs.Calls.{Call, write_of}
use Rattle.vk_base.specs.declared.limits.Limit.{Limit}
use Rattle.vk_protocol.specs.Protocols.{Protocol, ends, on_ok}
use Rattle.vk_places.specs.Places.{entry_at, tmp_at, text_at}
use Rattle.vk_publish.specs.Entries.{Placed, placed_file, last_files, entry_files}
use Rattle.vk_publish.specs.Publish.{write_all, publish_of}
use Rattle.vk_publish.specs.declared.answers.Published.{Published}
use Rattle.vk_publish.specs.declared.jobs.PublishJob.{PublishJob}
use Rattle.vk_publish.specs.declared.publishing.PublishNow.{PublishNow}
use Rattle.vk_publish.specs.declared.publishing.PublishNow.TheVariants as next
use Rattle.vk_publish.specs.declared.publishing.Publishing.{Publishing}

abbrev pub files_of : PublishJob → List Placed
files_of job = entry_files job.text.now job.built.now

abbrev pub whole_of : PublishJob → Protocol (Result Published Limit)
whole_of job = publish_of job.target.cache.now job.target.agent.now job.target.digest.now.bytes (files_of job)

-- these are written below the name with this number, which then becomes the entry
abbrev pub write_left : PublishJob → ℕ → List Placed → Protocol (Result Published Limit)
write_left job n files = write_all (tmp_at job.target.cache.now job.target.agent.now n) files (entry_at job.target.cache.now job.target.digest.now.bytes)

-- one of them is written
abbrev pub write_call : PublishJob → ℕ → Placed → Call
write_call job n file = write_of (tmp_at job.target.cache.now job.target.agent.now n ++ file.0) file.1

-- the files of the package from one on, and then the rest
abbrev pub files_left : PublishJob → ℕ → ℕ → Protocol (Result Published Limit)
files_left job n k = write_left job n (map placed_file (drop k job.built.now) ++ last_files job.text.now job.built.now)

-- what follows the choice of a number
abbrev pub goes_on : PublishJob → Result ℕ Limit → Protocol (Result Published Limit)
goes_on job r = on_ok (λ n. write_left job n (files_of job)) r

unfoldable pub publish_left : PublishJob → PublishNow → Protocol (Result Published Limit)
publish_left job next.Lists = whole_of job
publish_left job (next.Files n k) = files_left job n k
publish_left job (next.Text n) = write_left job n ((text_at [], job.text.now) ∷ [])
publish_left job (next.Moves n) = write_left job n []
publish_left job (next.Ended published) = ends (Ok published)
publish_left job (next.Over over) = ends (Err over)

abbrev pub publish_means : Publishing → Protocol (Result Published Limit)
publish_means p = publish_left p.job p.at
