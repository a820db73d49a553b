use Rattle.vk_abi_text.specs.Adding.{gathering_view}
use Rattle.vk_abi_text.specs.Views.{input_view}
use Rattle.vk_abi_text.proofs.ReadLemmas.{ends_refused, led_lacking, led_read}
use Rattle.vk_abi_text.proofs.readers.whole.Goals as goal

pub returns-in-Some : goal.returns-in-Some
returns-in-Some c bytes last led = led_read bytes (gathering_view c.args.gathering) last c.args.number (input_view c.in-Some.input) led c.in-Some.ensures

pub returns-in-None : goal.returns-in-None
returns-in-None c bytes last led =
    ends_refused bytes c.args.number c.refused.result c.refused.ensures (led_lacking bytes (gathering_view c.args.gathering) last c.args.number led c.in-None.ensures)
