use Rattle.std.proofs.Common.{ap, ◌∙◌}
use Rattle.std.proofs.Output.{has_written_of_eq}
use Rattle.vk_base.specs.Tokens.{token_of}
use Rattle.vk_entry.proofs.DigestLemmas.{digest_token}
use Rattle.vk_entry.proofs.digests.DigestTextDisplay.fmt.Goals as goal

pub returns-clause-writes : goal.returns-clause-writes
returns-clause-writes g c = λ plain fine.
    has_written_of_eq _ _ _ _ _
    (ap token_of (c.as_slice.ensures ∙ c.hex-digits.ensures) ∙ digest_token c.args.self.now.0.now.bytes c.known.ensures.bytes)
    (c.fmt.ensures.writes plain fine)
