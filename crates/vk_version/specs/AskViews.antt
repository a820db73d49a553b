-- What contracts see of an ask.
use Rattle.vk_spec.specs.Versions as plain
use Rattle.vk_version.specs.declared.asks.Ask.{Ask}

abbrev pub ask_view : Ask → plain.Ask
ask_view a = record { text = a.text; port = a.port }
