use Rattle.std.proofs.Common.{map}
use Rattle.std.proofs.lemmas.Result.{err_from_is_err_and}
use Rattle.vk_json.specs.Values.{view}
use Rattle.vk_spec.specs.Reading.{read_after}
use Rattle.vk_spec.proofs.ReadingLemmas.{after_goes_on, after_ends, after_is_done}
use Rattle.vk_base.specs.Stops.{fault_in}
use Rattle.vk_json.specs.NewItems.{new_item_at}
use Rattle.vk_json.proofs.NewItemLemmas.{keys_grow}
use Rattle.vk_json.proofs.new_items.read_more_items.Goals as goal

pub returns-in_err-item-clause-read : goal.returns-in_err-item-clause-read
returns-in_err-item-clause-read g c =
    let p = err_from_is_err_and c.from_residual.result c.from_residual.ensures.1 in
    let f = new_item_at g.R.NewItemReader.key_of (g.R.NewItemReader.reads c.args.reader.now) in
    rw (p.1, p.2)
    (after_ends view g.R.NewItemReader.plain f (fault_in c.in_err-item.field-0.0) c.loop-n.read
    c.loop-n.n c.args.values.now c.index-values-n.result
    (read_after f (map g.R.NewItemReader.plain c.args.read.now) 0 (map view c.args.values.now)) c.loop-n-test.true c.index-values-n.is
    (rw c.loop-n.invariant.1 at c.in_err-item.ensures.read) c.loop-n.invariant.0)

pub loop-n-preserved : goal.loop-n-preserved
loop-n-preserved g c =
    let f = new_item_at g.R.NewItemReader.key_of (g.R.NewItemReader.reads c.args.reader.now) in
    rw c.in_ok-push.ensures.ok (
      after_goes_on view g.R.NewItemReader.plain f c.loop-n.read c.in_ok-item.item c.loop-n.n
          c.args.values.now c.index-values-n.result
          (read_after f (map g.R.NewItemReader.plain c.args.read.now) 0 (map view c.args.values.now)) c.loop-n-test.true c.index-values-n.is
          (rw c.loop-n.invariant.1 at c.in_ok-item.ensures.read) c.loop-n.invariant.0,
      keys_grow g.R.NewItemReader.plain g.R.NewItemReader.key_of c.loop-n.read c.in_ok-item.item
          c.loop-n.invariant.1 c.in_ok-item.ensures.noted,
    )

pub returns-clause-read : goal.returns-clause-read
returns-clause-read g c =
    let f = new_item_at g.R.NewItemReader.key_of (g.R.NewItemReader.reads c.args.reader.now) in
    after_is_done view g.R.NewItemReader.plain f c.loop-n.read c.loop-n.n c.args.values.now
    (read_after f (map g.R.NewItemReader.plain c.args.read.now) 0 (map view c.args.values.now)) c.loop-n-test.false c.loop-n.invariant.0
