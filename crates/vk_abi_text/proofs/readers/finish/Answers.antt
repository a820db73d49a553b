use Rattle.std.proofs.Common.{subst}
use Rattle.vk_abi_text.specs.Adding.{Led, gathering_view}
use Rattle.vk_abi_text.proofs.ReadLemmas.{ends_refused, led_unended, nothing_left, some_left}
use Rattle.vk_abi_text.proofs.readers.finish.Goals as goal

pub returns-then-is_empty : goal.returns-then-is_empty
returns-then-is_empty c bytes led =
    c.whole.ensures bytes c.args.last.now (subst (λ l. Led bytes (gathering_view c.args.gathering) c.args.last.now l c.args.number) (nothing_left c.args.left.now c.if-is_empty.ensures) led)

pub returns : goal.returns
returns c bytes led =
    ends_refused bytes c.in_ok-refusal.field-0 c.refused.result c.refused.ensures
    (led_unended bytes (gathering_view c.args.gathering) c.args.last.now c.args.left.now c.args.number c.in_ok-refusal.field-0 led c.requires.none (some_left c.args.left.now c.if-is_empty.ensures) c.in_ok-refusal.ensures)
