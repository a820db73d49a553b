use Rattle.std.proofs.Common.{◌≡◌, subst}
use Rattle.std.specs.Prelude.{IfSome}
use Rattle.vk_model.specs.WrongViews.{given_view, given_said}
use Rattle.vk_close.proofs.KnownLemmas.{pinned_known}
use Rattle.vk_close.proofs.known.ask_port.Goals as goal

pub returns-in-Ok-clause-pinned : goal.returns-in-Ok-clause-pinned
returns-in-Ok-clause-pinned g c =
    let told : IfSome (g.C.Catalogue.state c.args.cat.now).pages (λ pages. given_said c.in_ok-given.field-0 ≡ (pages c.args.port.now).given) = c.in_ok-given.ensures.told in
    pinned_known c.known_given.result (g.C.Catalogue.state c.args.cat.now) c.args.overrides.now c.args.port.now (given_view c.in-Ok.given) c.known_given.ensures.pinned
    (subst (λ r. IfSome (g.C.Catalogue.state c.args.cat.now).pages (λ pages. given_said r ≡ (pages c.args.port.now).given)) c.in-Ok.is told)
