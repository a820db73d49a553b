use Rattle.vk_close.proofs.known.known_given.Goals as goal

pub returns-clause-pinned : goal.returns-clause-pinned
returns-clause-pinned g c = λ overrides. c.is_pinned_given-pinned.ensures overrides c.args.port.now
