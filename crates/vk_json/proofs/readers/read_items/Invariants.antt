use Rattle.std.proofs.Common.{◌≡◌, map}
use Rattle.vk_json.specs.Values.{view}
use Rattle.vk_spec.specs.Reading.{read_each}
use Rattle.vk_spec.proofs.ReadingLemmas.{with_front, left_from}
use Rattle.vk_json.specs.Readings.{item_at}
use Rattle.vk_json.proofs.readers.read_items.Given as goal

abbrev pub invariant-loop-n : goal.invariant-loop-n
invariant-loop-n g l =
    with_front (map g.R.Reader.plain l.read) (left_from (item_at (g.R.Reader.reads l.reader)) l.n (map view l.values))
    ≡ read_each (item_at (g.R.Reader.reads l.reader)) 0 (map view l.values)
