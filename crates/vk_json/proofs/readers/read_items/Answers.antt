use Rattle.std.proofs.Common.{map}
use Rattle.std.proofs.lemmas.Result.{err_from_is_err_and}
use Rattle.vk_json.specs.Values.{view}
use Rattle.vk_spec.specs.Reading.{read_each}
use Rattle.vk_spec.proofs.ReadingLemmas.{goes_on_by, ends_by, is_done_by}
use Rattle.vk_base.specs.Stops.{fault_in}
use Rattle.vk_json.specs.Readings.{item_at}
use Rattle.vk_json.proofs.readers.read_items.Goals as goal

pub returns-in_err-item : goal.returns-in_err-item
returns-in_err-item g c =
    let p = err_from_is_err_and c.from_residual-in_err-item.result c.from_residual-in_err-item.ensures.1 in
    let f = item_at (g.R.Reader.reads c.args.reader.now) in
    rw (p.1, p.2)
    (ends_by view g.R.Reader.plain f (fault_in c.in_err-item.field-0.0) c.loop-n.read c.loop-n.n c.args.values.now c.index-values-n.result (read_each f 0 (map view c.args.values.now)) c.loop-n-test.true c.index-values-n.is c.in_err-item.ensures c.loop-n.invariant)

pub loop-n-preserved : goal.loop-n-preserved
loop-n-preserved g c =
    let f = item_at (g.R.Reader.reads c.args.reader.now) in
    rw c.in_ok-push.ensures.ok
    (goes_on_by view g.R.Reader.plain f c.loop-n.read c.in_ok-item.item c.loop-n.n c.args.values.now c.index-values-n.result (read_each f 0 (map view c.args.values.now)) c.loop-n-test.true c.index-values-n.is c.in_ok-item.ensures c.loop-n.invariant)

pub returns : goal.returns
returns g c =
    let f = item_at (g.R.Reader.reads c.args.reader.now) in
    is_done_by view g.R.Reader.plain f c.loop-n.read c.loop-n.n c.args.values.now (read_each f 0 (map view c.args.values.now)) c.loop-n-test.false c.loop-n.invariant
