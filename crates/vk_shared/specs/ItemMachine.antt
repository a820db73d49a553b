-- What is left of the making of one package that has come so far.
use Rattle.std.specs.Prelude.{◌≤◌, ◌+◌, ◌++◌, [], ◌∷◌, ℕ, List, drop, map, Result, Ok, Err}
use Rattle.vk_base.specs.declared.limits.Limit.{Limit}
use Rattle.vk_protocol.specs.Protocols.{Protocol, ends, ◌>>=◌}
use Rattle.vk_places.specs.Places.{entry_at, tmp_at, damaged_at, text_at}
use Rattle.vk_entry.specs.Packages.{File}
use Rattle.vk_gather.specs.GatherMachine.{gather_means}
use Rattle.vk_looking.specs.LookMachine.{now_means}
use Rattle.vk_publish.specs.Aside.{aside_of, move_out}
use Rattle.vk_publish.specs.Entries.{entry_files, last_files, placed_file}
use Rattle.vk_publish.specs.Publish.{publish_of, write_all}
use Rattle.vk_publish.specs.declared.answers.Moved.{Moved}
use Rattle.vk_publish.specs.declared.answers.Published.{Published}
use Rattle.vk_publish.specs.declared.asides.AsideNow.{AsideNow}
use Rattle.vk_publish.specs.declared.asides.AsideNow.TheVariants as aside
use Rattle.vk_publish.specs.declared.publishing.PublishNow.{PublishNow}
use Rattle.vk_publish.specs.declared.publishing.PublishNow.TheVariants as publish
use Rattle.vk_make.specs.Makes.{Supplies, Work, Item, OneMade, wanted_for, looked, moved, gathered, supplied, published}
use Rattle.vk_shared.specs.Tasks.{task_view}
use Rattle.vk_shared.specs.Stocks.{made_view}
use Rattle.vk_shared.specs.declared.items.ItemJob.{ItemJob}
use Rattle.vk_shared.specs.declared.items.ItemNow.{ItemNow}
use Rattle.vk_shared.specs.declared.items.ItemNow.TheVariants as now
use Rattle.vk_shared.specs.declared.items.ItemNext.{ItemNext}
use Rattle.vk_shared.specs.declared.items.ItemNext.TheVariants as next

-- whatever is supplied
abbrev pub job_work : Supplies → ItemJob → Work
job_work s job = record { cache = job.cache.now; agent = job.agent.now; most = job.most; supplies = s }

abbrev pub job_item : ItemJob → Item
job_item job = record { task = task_view job.task.now; place = job.place; room = job.room }

-- what is left of setting the entry aside
abbrev pub aside_now : Work → Item → AsideNow → Protocol (Result Moved Limit)
aside_now w i aside.Lists = aside_of w.cache w.agent i.task.digest
aside_now w i (aside.Moves n) = move_out (entry_at w.cache i.task.digest) (damaged_at w.cache w.agent n)
aside_now w i (aside.Ended m) = ends (Ok m)
aside_now w i (aside.Over over) = ends (Err over)

-- what is left of publishing a package
abbrev pub publish_now : Work → Item → List File → PublishNow → Protocol (Result Published Limit)
publish_now w i built publish.Lists = publish_of w.cache w.agent i.task.digest (entry_files i.task.text built)
publish_now w i built (publish.Files n k) = write_all (tmp_at w.cache w.agent n) (map placed_file (drop k built) ++ last_files i.task.text built) (entry_at w.cache i.task.digest)
publish_now w i built (publish.Text n) = write_all (tmp_at w.cache w.agent n) ((text_at [], i.task.text) ∷ []) (entry_at w.cache i.task.digest)
publish_now w i built (publish.Moves n) = write_all (tmp_at w.cache w.agent n) [] (entry_at w.cache i.task.digest)
publish_now w i built (publish.Ended p) = ends (Ok p)
publish_now w i built (publish.Over over) = ends (Err over)

-- what is left of the item
abbrev pub item_left : Work → Item → ItemNow → Protocol OneMade
item_left w i (now.Looks at) = now_means (wanted_for w i) at >>= looked w i
item_left w i (now.SetsAside harm at) = aside_now w i at >>= moved w i harm
item_left w i (now.Gathers mark gathering) = gather_means gathering >>= gathered w i mark
item_left w i (now.Publishes mark built at) = publish_now w i built at >>= λ r. ends (published mark built r)

-- what is left behind a call: more of it, a package that is to be supplied, the package, or none
abbrev pub next_left : Work → Item → ItemNext → Protocol OneMade
next_left w i (next.Goes at) = item_left w i at
next_left w i (next.Waits mark folder) = supplied w i mark (w.supplies i.place folder)
next_left w i (next.Made made) = ends (Ok (made_view made))
next_left w i (next.Ends why) = ends (Err why)

-- the first place whose item may still come to wait: one that is published waits no more
abbrev pub after_waiting : ℕ → ItemNow → ℕ
after_waiting place (now.Looks at) = place
after_waiting place (now.SetsAside harm at) = place
after_waiting place (now.Gathers mark gathering) = place
after_waiting place (now.Publishes mark built at) = place + 1

abbrev pub next_waits : ℕ → ItemNext → ℕ
next_waits place (next.Goes at) = after_waiting place at
next_waits place (next.Waits mark folder) = place
next_waits place (next.Made made) = place + 1
next_waits place (next.Ends why) = place + 1

-- no item waits that has waited
abbrev pub IsNoEarlier : ItemNow → ItemNext → Type 0
IsNoEarlier at n = (place : ℕ) → after_waiting place at ≤ next_waits place n
