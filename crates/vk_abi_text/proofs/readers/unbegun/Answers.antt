use Rattle.std.proofs.Common.{refl}
use Rattle.vk_abi_text.specs.Readings.{by_heading_end}
use Rattle.vk_abi_text.proofs.ReadLemmas.{none_refused}
use Rattle.vk_abi_text.proofs.readers.unbegun.Goals as goal

pub returns-then-is_heading : goal.returns-then-is_heading
returns-then-is_heading c = by_heading_end refl (c.is_heading.ensures.0 c.if-is_heading.true)

pub returns : goal.returns
returns c = none_refused c.args.bytes.now c.requires (λ e. let other = c.if-is_heading.false in let same = c.is_heading.ensures.1 e in (cc))
