use Rattle.std.proofs.Common.{◌≡◌, [], drop, map}
use Rattle.vk_version.specs.AskViews.{ask_view}
use Rattle.vk_catalogue.specs.SoundPages.{distinct_after, asks_in}
use Rattle.vk_catalogue.proofs.sound_pages.are_distinct.Given as goal

abbrev pub invariant-loop-row : goal.invariant-loop-row
invariant-loop-row l = distinct_after (map ask_view l.seen.keys) (asks_in (drop l.row-index l.rows)) ≡ distinct_after [] (asks_in l.rows)
