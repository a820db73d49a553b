use Rattle.std.proofs.lemmas.Result.{err_from_is_err_and}
use Rattle.vk_base.specs.Stops.{fault_in}
use Rattle.vk_triplet.specs.Views.{parts_in}
use Rattle.vk_triplet.proofs.ReadLemmas.{leaves_more, leaves_none, leaves_fault}
use Rattle.vk_triplet.proofs.triplets.read_lines.Goals as goal

pub returns-in_err-said : goal.returns-in_err-said
returns-in_err-said c =
    let p = err_from_is_err_and c.from_residual.result c.from_residual.ensures.1 in
    rw (p.1, p.2)
    (leaves_fault c.args.text.now c.lines.vars c.lines.n c.lines.left.now c.cut_line.result.0.now (parts_in c.cut_line.result.1)
    (fault_in c.in_err-said.field-0.0) c.lines.invariant.read c.cut_line.ensures.whole c.in_err-said.ensures)

pub returns-in-None : goal.returns-in-None
returns-in-None c =
    let whole = rw c.in-None.is at c.cut_line.ensures.whole in
    rw c.in_ok-keep.ensures
    (leaves_none c.args.text.now c.lines.vars c.lines.n c.lines.left.now c.cut_line.result.0.now _ c.lines.invariant.read whole c.in_ok-said.ensures)

pub lines-preserved : goal.lines-preserved
lines-preserved c =
    let whole = rw c.in-Some.is at c.cut_line.ensures.whole in
    let shorter = rw c.in-Some.is at c.cut_line.ensures.shorter in
    record {
      text = rw c.in-Some.is at c.cut_line.ensures.text;
      read = rw c.in_ok-keep.ensures
          (leaves_more c.args.text.now c.lines.vars c.lines.n c.lines.left.now c.cut_line.result.0.now c.in-Some.more.now _ c.lines.invariant.read whole shorter c.in_ok-said.ensures);
    }
