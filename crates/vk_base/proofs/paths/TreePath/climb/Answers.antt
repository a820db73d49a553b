use Rattle.std.proofs.Common.{◌≡◌, ◌≤◌, ◌+◌, subst, sym, ap, ◌∙◌, arith}
use Rattle.vk_base.specs.Paths.{ups_of, climbed}
use Rattle.vk_base.proofs.PathLemmas.{ups_of-key, climbed-key, climb_ups, path_from}
use Rattle.vk_base.proofs.paths.TreePath.climb.Goals as goal

pub ups_left-self-inside-requires-clause-small : goal.ups_left-self-inside-requires-clause-small
ups_left-self-inside-requires-clause-small c =
    let ups : ups_of c.args.self.now ≡ c.self.inside.ups = ap ups_of (sym c.self.view_is) ∙ ups_of-key c.self.inside.rooted c.self.inside.ups c.self.inside.parts c.self.invariant.root in
    omega (arith, ups, c.requires)

pub returns-clause-place : goal.returns-clause-place
returns-clause-place c =
    rw (c.ups_left-self-inside.ensures.place, c.pop.ensures, c.len.ensures)
    (sym (climbed-key c.self.inside.rooted c.self.inside.ups c.self.inside.parts 1 c.self.invariant.root) ∙ ap (λ k. climbed k 1) c.self.view_is)

pub returns-clause-ups : goal.returns-clause-ups
returns-clause-ups c =
    subst (λ k. ups_of k ≤ ups_of c.args.self.now + 1) (sym (returns-clause-place c))
    (climb_ups c.args.self.now (path_from c.self.inside.rooted c.self.inside.ups c.self.inside.parts c.args.self.now c.self.view_is c.self.invariant))
