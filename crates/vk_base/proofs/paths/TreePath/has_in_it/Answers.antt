use Rattle.std.proofs.Common.{◌||◌, ◌∙◌, ap, sym}
use Rattle.vk_base.specs.Paths.{is_far_up}
use Rattle.vk_base.proofs.PathLemmas.{begins_is}
use Rattle.vk_base.proofs.paths.TreePath.has_in_it.Goals as goal

pub returns-then-begins : goal.returns-then-begins
returns-then-begins c =
    c.if-begins.true
    ∙ ap (λ b. b || is_far_up c.args.self.now c.args.path.now) (sym c.if-begins.true ∙ begins_is c.begins.result c.args.self.now c.args.path.now c.begins.ensures)

pub returns-else-begins : goal.returns-else-begins
returns-else-begins c =
    c.is_far_up.ensures
    ∙ ap (λ b. b || is_far_up c.args.self.now c.args.path.now) (sym c.if-begins.false ∙ begins_is c.begins.result c.args.self.now c.args.path.now c.begins.ensures)
