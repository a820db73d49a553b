use Rattle.std.proofs.Common.{ap, ◌∙◌, arith}
use Rattle.std.specs.Prelude.{zip}
use Rattle.vk_worklist.specs.Rows.{needs_in, floors_in, needs_of, floors_of}
use Rattle.vk_worklist.proofs.RowLemmas.{row_more, few_more}
use Rattle.vk_worklist.proofs.rows.see_to_row.Goals as goal

pub loop-alloc-preserved : goal.loop-alloc-preserved
loop-alloc-preserved c = record {
  few = λ most long below. few_more c.loop-alloc.rows.items c.push.new.self.items c.empty_row.result c.args.place most c.in_ok-push.ensures.items (omega (arith, c.loop-alloc-test.true, c.len.ensures)) below;
  needs = λ seats p. ap (λ rows. needs_of (zip seats rows) p) c.in_ok-push.ensures.items ∙ row_more needs_in c.empty_row.result c.empty_row.ensures.needs seats c.loop-alloc.rows.items p ∙ c.loop-alloc.invariant.needs seats p;
  floors = λ seats p. ap (λ rows. floors_of (zip seats rows) p) c.in_ok-push.ensures.items ∙ row_more floors_in c.empty_row.result c.empty_row.ensures.floors seats c.loop-alloc.rows.items p ∙ c.loop-alloc.invariant.floors seats p;
}
