use Rattle.std.proofs.Common.{subst}
use Rattle.vk_base.specs.Paths.{IsFrom}
use Rattle.vk_walk.proofs.SeenLemmas.{next_seen, next_elsewhere}
use Rattle.vk_walk.proofs.walking.seen_from.Goals.{in-Some+in_ok-push, in_default}
use Rattle.vk_walk.proofs.walking.seen_from.Goals as goal

pub loop-path-preserved : goal.loop-path-preserved
loop-path-preserved c = elim c.match-branch-2.branch [
  | in-Some+in_ok-push w ↦ rw (w.seen-is, w.in_ok-push.ensures.ok)
      (next_seen c.args.folder.now c.path-item.result w.in-Some.path c.args.paths.now c.loop-path.seen c.loop-path.path-index c.loop-path-test.true c.path-item.is
      (subst (IsFrom c.args.folder.now c.path-item.result) w.in-Some.is c.in_ok-path.ensures) c.loop-path.invariant)
  | in_default w ↦ rw (w.seen-is)
      (next_elsewhere c.args.folder.now c.path-item.result c.args.paths.now c.loop-path.seen c.loop-path.path-index c.loop-path-test.true c.path-item.is
      (subst (IsFrom c.args.folder.now c.path-item.result) w.in_default.is c.in_ok-path.ensures) c.loop-path.invariant)
]
