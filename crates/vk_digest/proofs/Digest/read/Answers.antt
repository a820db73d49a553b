use Rattle.std.proofs.Common.{sym}
use Rattle.vk_digest.proofs.Texts.{no_text, other_text}
use Rattle.vk_digest.proofs.Digest.read.Goals as goal

pub returns-in-Ok-clause-none : goal.returns-in-Ok-clause-none
returns-in-Ok-clause-none c = λ none. other_text c.args.text.now c.in-Ok.bytes (rw c.in-Ok.is at (sym c.from_hex.ensures)) (c.with_text.ensures.none none)

pub returns-in-Err-clause-none : goal.returns-in-Err-clause-none
returns-in-Err-clause-none c = λ none. no_text c.args.text.now c.in-Err.field-0 (rw c.in-Err.is at (sym c.from_hex.ensures))
