use Rattle.vk_abi_text.specs.Views.{source_view}
use Rattle.vk_abi_text.proofs.PutLemmas.{put_five}
use Rattle.vk_abi_text.proofs.writing.put_singles.Goals as goal

pub returns-clause-lines : goal.returns-clause-lines
returns-clause-lines c =
    put_five c.put-5.result (source_view c.args.source.now) c.in_ok-builder_line.field-0 c.in_ok-native_line.field-0 c.in_ok-port_line.field-0 c.in_ok-triplet.triplet c.in_ok-version_line.field-0
    c.args.lines.now.keys c.put.new.lines.keys c.put-2.new.lines.keys c.put-3.new.lines.keys c.put-4.new.lines.keys c.put-5.new.lines.keys
    c.in_ok-builder_line.ensures.line c.in_ok-native_line.ensures c.in_ok-port_line.ensures.line c.in_ok-triplet.ensures.line c.in_ok-version_line.ensures.line
    c.in_ok-put.ensures c.in_ok-put-2.ensures c.in_ok-put-3.ensures c.in_ok-put-4.ensures c.put-5.ensures
