use Rattle.vk_files.specs.Readings.{is_at}
use Rattle.vk_files.proofs.FirstLemmas.{none_yet, none_more, first_found, first_stopped, none_found, left_from, nothing_left, of_files}
use Rattle.vk_files.proofs.archives.Archive.first.Goals as goal

pub loop-path-init : goal.loop-path-init
loop-path-init g c = none_yet

pub returns-in_err-is_at : goal.returns-in_err-is_at
returns-in_err-is_at g c =
    of_files is_at c.args.paths.now (first_stopped {seen = λ q. q.now} (left_from c.loop-path.path-index c.args.paths.now c.path-item.result c.loop-path-test.true c.path-item.is) c.loop-path.invariant c.in_err-is_at.ensures c.from_residual.ensures.1)

pub returns-then-branch : goal.returns-then-branch
returns-then-branch g c =
    of_files is_at c.args.paths.now (first_found {seen = λ q. q.now} (left_from c.loop-path.path-index c.args.paths.now c.path-item.result c.loop-path-test.true c.path-item.is) c.loop-path.invariant (rw c.if-branch.true at c.in_ok-is_at.ensures))

pub loop-path-preserved : goal.loop-path-preserved
loop-path-preserved g c = none_more (left_from c.loop-path.path-index c.args.paths.now c.path-item.result c.loop-path-test.true c.path-item.is) c.loop-path.invariant (rw c.if-branch.false at c.in_ok-is_at.ensures)

pub returns : goal.returns
returns g c = of_files is_at c.args.paths.now (none_found {seen = λ q. q.now} (nothing_left c.loop-path.path-index c.args.paths.now c.loop-path-test.false) c.loop-path.invariant)
