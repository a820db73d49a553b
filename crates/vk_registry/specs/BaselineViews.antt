-- What contracts see of a baseline: its entries as plain data.
use Rattle.vk_version.specs.AskViews.{ask_view}
use Rattle.vk_registry.specs.Baselines as plain
use Rattle.vk_registry.specs.declared.baselines.BaselineEntry.{BaselineEntry}

abbrev pub entry_view : BaselineEntry → plain.Entry
entry_view entry = record { port = entry.port; ask = ask_view entry.ask }
