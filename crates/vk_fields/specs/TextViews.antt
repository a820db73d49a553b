-- What contracts see of an ask as it is written: plain data.
use Rattle.vk_version.specs.AskViews.{ask_view}
use Rattle.vk_fields.specs.Texts as plain
use Rattle.vk_fields.specs.declared.texts.WrittenAsk.{WrittenAsk}

abbrev pub written_view : WrittenAsk → plain.WrittenAsk
written_view w = record { ask = ask_view w.ask; numbered = w.numbered }
