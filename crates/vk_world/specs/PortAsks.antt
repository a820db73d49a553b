-- A port, and what is asked for of it.
use Rattle.std.specs.Prelude.{◌&&◌, Bool, bytes_eq}
use Rattle.vk_spec.specs.Versions.{same_ask}
use Rattle.vk_version.specs.AskViews.{ask_view}
use Rattle.vk_world.specs.declared.port_asks.PortAsk.{PortAsk}

-- whether the ports are one, and what is asked for of them too
abbrev pub same_asked : PortAsk → PortAsk → Bool
same_asked one other = bytes_eq one.port other.port && same_ask (ask_view one.ask) (ask_view other.ask)
