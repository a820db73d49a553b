use Rattle.std.proofs.Common.{◌≡◌, ◌++◌, false, sym, ap, ◌∙◌, arith}
use Rattle.vk_base.specs.Paths.{climbed, is_rooted, parts_of}
use Rattle.vk_base.proofs.PathLemmas.{rooted-fields, ups-fields, climbed-key, joined_down}
use Rattle.vk_base.proofs.paths.TreePath.join.Goals as goal

pub ups_left-requires-clause-small : goal.ups_left-requires-clause-small
ups_left-requires-clause-small c =
    let here = ups-fields c.self.inside.rooted c.self.inside.ups c.self.inside.parts c.args.self.now c.self.view_is c.self.invariant.root in
    let more = ups-fields c.more.inside.rooted c.more.inside.ups c.more.inside.parts c.args.more.now c.more.view_is c.more.invariant.root in
    omega (arith, here, more, c.requires)

pub returns : goal.returns
returns c =
    let steps = c.more.inside.ups in
    let plain : is_rooted c.args.more.now ≡ false = sym (rooted-fields c.more.inside.rooted steps c.more.inside.parts c.args.more.now c.more.view_is) ∙ c.if-more.false in
    let ups = ups-fields c.more.inside.rooted steps c.more.inside.parts c.args.more.now c.more.view_is c.more.invariant.root in
    rw (c.ups_left.ensures.place, c.in_ok-join.ensures, c.len.ensures)
    (
    ap (λ k. k ++ c.more.inside.parts) (sym (climbed-key c.self.inside.rooted c.self.inside.ups c.self.inside.parts steps c.self.invariant.root) ∙ ap (λ k. climbed k steps) c.self.view_is)
    ∙ ap (λ ps. climbed c.args.self.now steps ++ ps) (ap parts_of c.more.view_is)
    ∙ sym (joined_down c.args.self.now c.args.more.now steps plain (sym ups))
    )
