use Rattle.vk_close.proofs.KnownLemmas.{pinned_here}
use Rattle.vk_close.proofs.steps.is_pinned.Goals as goal

pub returns-clause-pinned : goal.returns-clause-pinned
returns-clause-pinned g c =
    pinned_here c.args.overrides.now c.see_to_port.new.ports.entries c.args.port.now c.known_at.result.now (c.known_at.ensures c.args.port.now c.in_ok-place.ensures.there) (g.C.Catalogue.state c.args.cat.now).pages c.in_ok-place.ensures.known
