use Rattle.std.proofs.Common.{◌∙◌, ap}
use Rattle.std.specs.Prelude.{Some, None, option_map}
use Rattle.vk_version.specs.AskViews.{ask_view}
use Rattle.vk_root.proofs.OverrideLemmas.{set_at}
use Rattle.vk_root.proofs.overrides.Overrides.ask_for.Goals as goal

pub returns-in_err-place : goal.returns-in_err-place
returns-in_err-place c = rw (c.from_residual.ensures, ← c.self.view_is) (set_at c.self.inside.list c.self.inside.places.entries c.args.port.now None c.self.invariant c.in_err-place.ensures.value)

pub returns-in_err-get : goal.returns-in_err-get
returns-in_err-get c = rw (c.from_residual-in_err-get.ensures, ← c.self.view_is)
    (ap (option_map (λ o. ask_view o.ask)) c.in_err-get.ensures ∙ set_at c.self.inside.list c.self.inside.places.entries c.args.port.now (Some c.in_ok-place.place.now) c.self.invariant c.in_ok-place.ensures.value)

pub returns : goal.returns
returns c = rw (← c.self.view_is)
    (ap (option_map (λ o. ask_view o.ask)) c.in_ok-get.ensures ∙ set_at c.self.inside.list c.self.inside.places.entries c.args.port.now (Some c.in_ok-place.place.now) c.self.invariant c.in_ok-place.ensures.value)
