use Rattle.std.proofs.Common.{◌∷◌, ap, ◌∙◌}
use Rattle.vk_spec.specs.Paths.{anchor}
use Rattle.vk_base.specs.Paths.{is_rooted, ups_of, parts_of}
use Rattle.vk_base.proofs.PathLemmas.{key_again, path_from}
use Rattle.vk_base.proofs.paths.TreePath.parts.Goals as goal

pub returns-clause-key : goal.returns-clause-key
returns-clause-key c =
    ap (λ l. anchor (is_rooted c.args.self.now) (ups_of c.args.self.now) ∷ l) (c.iter.ensures ∙ ap parts_of c.self.view_is)
    ∙ key_again c.args.self.now (path_from c.self.inside.rooted c.self.inside.ups c.self.inside.parts c.args.self.now c.self.view_is c.self.invariant)

pub returns-clause-path : goal.returns-clause-path
returns-clause-path c = path_from c.self.inside.rooted c.self.inside.ups c.self.inside.parts c.args.self.now c.self.view_is c.self.invariant
