use Rattle.std.proofs.Common.{map, sym, subst}
use Rattle.vk_spec.specs.Reading.{Gives, read_each}
use Rattle.vk_base.specs.Stops.{fault_in}
use Rattle.vk_json.specs.Readings.{member_at}
use Rattle.vk_json.proofs.WrittenLemmas.{written_in_order}
use Rattle.vk_json.proofs.readers.read_object.Goals as goal

pub returns-then-ascends : goal.returns-then-ascends
returns-then-ascends g c =
    let f = member_at (g.R.MemberReader.reads c.args.reader.now) in
    let in_order = written_in_order c.args.object.now (c.ascends.ensures c.if-ascends.true) in
    subst (λ pairs. Gives (map g.R.MemberReader.plain) fault_in c.read_written.result (read_each (λ _. f) 0 pairs)) (sym in_order) c.read_written.ensures
