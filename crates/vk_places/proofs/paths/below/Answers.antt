use Rattle.std.proofs.Common.{subst}
use Rattle.vk_base.specs.Paths.{IsFrom}
use Rattle.vk_places.proofs.PlaceLemmas.{few_steps, joined_below}
use Rattle.vk_places.proofs.paths.below.Goals as goal

pub join-requires : goal.join-requires
join-requires c = few_steps c.args.folder.now c.in_ok-start.start c.args.path.now c.in-Some.seen c.known.ensures (subst (IsFrom c.in_ok-start.start c.args.path.now) c.in-Some.is c.in_ok-seen.ensures)

pub returns : goal.returns
returns c = joined_below c.args.folder.now c.in_ok-start.start c.args.path.now c.in-Some.seen c.join.result c.known.ensures c.known-2.ensures c.in_ok-start.ensures (subst (IsFrom c.in_ok-start.start c.args.path.now) c.in-Some.is c.in_ok-seen.ensures) c.join.ensures
