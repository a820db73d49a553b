use Rattle.std.specs.Prelude.{string_bytes}
use Rattle.vk_gen.specs.Loads.{baseline_entry}
use Rattle.vk_gen.proofs.ListTexts.{one_text_more}
use Rattle.vk_gen.proofs.texts.baseline_entries.Goals as goal

pub loop-port-preserved : goal.loop-port-preserved
loop-port-preserved c = rw (c.in_ok-push.ensures.items) (one_text_more string_bytes baseline_entry c.loop-port.entries.items _ c.loop-port.port c.loop-port.invariant c.in_ok-baseline_entry.ensures)
