-- What is left of a setting aside that has come so far.
use Rattle.std.specs.Prelude.{ℕ, Result, Ok, Err}
use Rattle.vk_base.specs.declared.limits.Limit.{Limit}
use Rattle.vk_protocol.specs.Protocols.{Protocol, ends}
use Rattle.vk_places.specs.Places.{entry_at, damaged_at}
use Rattle.vk_publish.specs.Aside.{move_out, aside_of}
use Rattle.vk_publish.specs.declared.answers.Moved.{Moved}
use Rattle.vk_publish.specs.declared.jobs.Target.{Target}
use Rattle.vk_publish.specs.declared.asides.Aside.{Aside}
use Rattle.vk_publish.specs.declared.asides.AsideNow.{AsideNow}
use Rattle.vk_publish.specs.declared.asides.AsideNow.TheVariants as next

abbrev pub aside_whole : Target → Protocol (Result Moved Limit)
aside_whole target = aside_of target.cache.now target.agent.now target.digest.now.bytes

-- the entry is moved to the name with this number
abbrev pub move_left : Target → ℕ → Protocol (Result Moved Limit)
move_left target n = move_out (entry_at target.cache.now target.digest.now.bytes) (damaged_at target.cache.now target.agent.now n)

unfoldable pub aside_left : Target → AsideNow → Protocol (Result Moved Limit)
aside_left target next.Lists = aside_whole target
aside_left target (next.Moves n) = move_left target n
aside_left target (next.Ended moved) = ends (Ok moved)
aside_left target (next.Over over) = ends (Err over)

abbrev pub aside_means : Aside → Protocol (Result Moved Limit)
aside_means a = aside_left a.target a.at
