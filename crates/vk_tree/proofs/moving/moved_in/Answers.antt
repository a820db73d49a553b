use Rattle.std.proofs.Common.{◌≡◌, [], rules, sym, ◌∙◌}
use Rattle.std.proofs.lemmas.List.{append-nil}
use Rattle.vk_tree.proofs.MovingLemmas.{move_none, one_moved}
use Rattle.vk_tree.proofs.moving.moved_in.Goals as goal

pub loop-path-init : goal.loop-path-init
loop-path-init c = ([], sym c.iter-left.ensures.rest ∙ sym (append-nil c.iter-left.result), rw (c.new-moved.ensures.empty) (move_none c.args.from.now c.args.to.now))

pub loop-path-preserved : goal.loop-path-preserved
loop-path-preserved c =
    let same : c.in_ok-bytes.bytes ≡ c.in-Some.bytes.now = (search rules) in
    one_moved c.args.files.now.entries c.loop-path.left c.next_back.new.self c.loop-path.invariant.0 c.loop-path.moved.entries c.insert.new.self.entries c.args.from.now c.args.to.now c.in-Some.path.now c.in_ok-path.path c.in-Some.bytes.now c.in_ok-bytes.bytes
    c.loop-path.invariant.1 c.in-Some.ensures.steps c.iter-left.ensures.found c.requires.can c.requires.free c.in_ok-path.ensures same c.in_ok-insert.ensures.updates.0 c.loop-path.invariant.2
