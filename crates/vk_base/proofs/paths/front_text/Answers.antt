use Rattle.std.proofs.Common.{◌≡◌, subst}
use Rattle.std.specs.Prelude.{IfOk}
use Rattle.vk_base.proofs.PathLemmas.{front-unrooted}
use Rattle.vk_base.proofs.paths.front_text.Goals as goal

pub returns : goal.returns
returns c = rw c.if-rooted.false (subst (λ f. IfOk c.steps_text.result (λ t. t ≡ f)) (front-unrooted c.args.ups) c.steps_text.ensures)
