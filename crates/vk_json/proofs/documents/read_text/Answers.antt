use Rattle.std.proofs.Common.{ap}
use Rattle.json.specs.Value.{value_view}
use Rattle.vk_spec.specs.Reading.{or_fault}
use Rattle.vk_json.specs.declared.faults.Why.TheVariants as why
use Rattle.vk_json.specs.Places.{here}
use Rattle.vk_json.proofs.OptionLemmas.{if_none}
use Rattle.vk_json.proofs.DocumentLemmas.{text_read}
use Rattle.vk_json.proofs.documents.read_text.Goals as goal

pub returns : goal.returns
returns c =
    let last = if_none c.next.result _ _ c.if-is_some.ensures c.next.ensures.value in
    ap (or_fault (here why.Json)) (text_read c.args.text.now (value_view c.in-Ok.value) c.read.new.reader (rw c.in_ok-reader.ensures.ok at c.in-Ok.ensures.ok) last.0 c.if-not-are_in_range.ensures)
