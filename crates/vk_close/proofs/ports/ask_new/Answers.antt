use Rattle.std.proofs.Common.{refl}
use Rattle.vk_close.proofs.KnownLemmas.{put_known}
use Rattle.vk_close.proofs.ports.ask_new.Goals as goal

pub returns-clause-known : goal.returns-clause-known
returns-clause-known g c =
    put_known (g.C.Catalogue.state c.args.cat.now).pages c.args.overrides.now c.args.port.now c.args.port.now c.in_ok-known.known c.args.ports.now.entries c.keep.new.ports.entries refl
    c.in_ok-keep.ensures.put c.requires.known c.in_ok-known.ensures.given c.in_ok-known.ensures.base c.in_ok-known.ensures.pinned c.in_ok-known.ensures.sound
