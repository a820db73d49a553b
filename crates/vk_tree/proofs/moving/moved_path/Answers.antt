use Rattle.std.proofs.Common.{subst}
use Rattle.vk_base.specs.Paths.{IsFrom}
use Rattle.vk_tree.proofs.PartLemmas.{few_steps, moved_to}
use Rattle.vk_tree.proofs.moving.moved_path.Goals as goal

pub join-requires : goal.join-requires
join-requires c =
    few_steps c.args.from.now c.args.to.now c.args.path.now c.in-Some.below c.known.ensures (subst (IsFrom c.args.from.now c.args.path.now) c.in-Some.is c.in_ok-below.ensures)

pub returns-in-Some : goal.returns-in-Some
returns-in-Some c =
    moved_to c.args.from.now c.args.to.now c.args.path.now c.in-Some.below c.join.result c.known.ensures (subst (IsFrom c.args.from.now c.args.path.now) c.in-Some.is c.in_ok-below.ensures) c.join.ensures
