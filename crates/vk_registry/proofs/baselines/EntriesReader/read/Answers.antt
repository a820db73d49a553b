use Rattle.std.proofs.Common.{map, ap}
use Rattle.std.specs.Prelude.{Ok, option_map}
use Rattle.vk_json.specs.Values.{view}
use Rattle.vk_registry.specs.Baselines.{entries_at}
use Rattle.vk_registry.specs.BaselineViews.{entry_view}
use Rattle.vk_registry.proofs.EntryLemmas.{read_in_order, kept_is}
use Rattle.vk_registry.proofs.baselines.EntriesReader.read.Goals as goal

pub invariant_of-result : goal.invariant_of-result
invariant_of-result c =
    rw (← kept_is c.in_ok-found.found c.in_ok-entries.entries c.in_ok-entries.ensures)
    (read_in_order (view c.args.value.now) (map (option_map entry_view) c.in_ok-found.found)
    c.in_ok-found.ensures.read c.in_ok-found.ensures.order)

pub returns : goal.returns
unfolding entries_at
returns c =
    rw c.in_ok-found.ensures.read
    (ap Ok (kept_is c.in_ok-found.found c.in_ok-entries.entries c.in_ok-entries.ensures))
