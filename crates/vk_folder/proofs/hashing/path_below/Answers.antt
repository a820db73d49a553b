use Rattle.std.proofs.Common.{◌∙◌, ap, sym, subst, arith}
use Rattle.std.specs.Prelude.{Some}
use Rattle.vk_spec.specs.Paths.{Begins}
use Rattle.vk_folder.proofs.PathLemmas.{few_steps, seen_at, joined_below}
use Rattle.vk_folder.proofs.hashing.path_below.Goals as goal

pub join-requires : goal.join-requires
join-requires c =
    few_steps c.args.folder.now c.args.seen.now c.known.ensures (omega (arith, c.steps_up.ensures, c.if-steps_up-gt0.false))

pub returns-clause-below : goal.returns-clause-below
returns-clause-below c = λ rest is. ap Some (c.in_ok-join.ensures ∙ seen_at c.args.folder.now c.args.seen.now rest c.known.ensures is)

pub returns-clause-within : goal.returns-clause-within
returns-clause-within c = subst (Begins c.args.folder.now) (sym c.in_ok-join.ensures) (joined_below c.args.folder.now c.args.seen.now c.known.ensures c.known-2.ensures (sym c.is_rooted.ensures ∙ c.if-is_rooted.false) (omega (arith, c.steps_up.ensures, c.if-steps_up-gt0.false)))
