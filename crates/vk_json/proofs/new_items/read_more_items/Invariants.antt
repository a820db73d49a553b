use Rattle.std.proofs.Common.{◌≡◌, map, drop}
use Rattle.vk_json.specs.Values.{view}
use Rattle.vk_spec.specs.Reading.{read_after}
use Rattle.vk_json.specs.NewItems.{new_item_at}
use Rattle.vk_json.proofs.new_items.read_more_items.Given as goal

abbrev pub invariant-loop-n : goal.invariant-loop-n
invariant-loop-n g l =
    let f = new_item_at g.R.NewItemReader.key_of (g.R.NewItemReader.reads l.reader) in
    (read_after f (map g.R.NewItemReader.plain l.read) l.n (drop l.n (map view l.values))
    ≡ read_after f (map g.R.NewItemReader.plain l.initial.read) 0 (map view l.values))
    × (map g.R.NewItemReader.plain_key l.keys.keys
    ≡ map g.R.NewItemReader.key_of (map g.R.NewItemReader.plain l.read))
