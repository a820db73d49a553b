-- What floors ask of ports, each with the line that says so.
use Rattle.std.specs.Prelude.{◌≡◌, ◌++◌, ℕ, List, map, filter_map, Option, Some, None, option_map, option_to_list, bytes_eq, if◌then◌else◌}
use Rattle.std.specs.List.{Contains}
use Rattle.vk_spec.specs.Versions.{Ask}
use Rattle.vk_version.specs.AskViews.{ask_view}
use Rattle.vk_resolution.specs.Asking.{Fact, need, floor, visit}
use Rattle.vk_resolution.specs.Reasons.{fact_at}
use Rattle.vk_choices.specs.declared.asks.Asked.{Asked}
use Rattle.vk_choices.specs.Rows.{Rows, listed_of, NoneIsEmpty}

-- an ask with a line
pub record AskOnLine : Type 0 where
  pub ask : Ask
  pub line : ℕ

abbrev pub asked_view : Asked → AskOnLine
asked_view a = record { ask = ask_view a.ask.now; line = a.line }

abbrev pub ask_on : ℕ → Ask → AskOnLine
ask_on n a = record { ask = a; line = n }

-- what is asked of a port
abbrev pub asks_at : Rows Asked → List ℕ → List AskOnLine
asks_at rows p = map asked_view (listed_of rows p)

-- what a fact asks of a port as a floor
abbrev pub ask_in : List ℕ → Fact → Option Ask
ask_in p (need who f) = None
ask_in p (floor q a) = if bytes_eq q p then Some a else None
ask_in p (visit i f a) = None

-- what the fact on a line asks of a port is there besides
pub record IsNoted (x : Fact) (n : ℕ) (old new : Rows Asked) : Type 0 where
  pub asks : (p : List ℕ) → asks_at new p ≡ asks_at old p ++ option_to_list (option_map (ask_on n) (ask_in p x))
  pub some : NoneIsEmpty old → NoneIsEmpty new

-- the rows have what these facts ask, each with its line
pub record HaveAsks (facts : List Fact) (rows : Rows Asked) : Type 0 where
  pub asks : (p : List ℕ) → map (λ a. a.ask) (asks_at rows p) ≡ filter_map (ask_in p) facts
  pub lines : (p : List ℕ) (a : AskOnLine) → Contains (asks_at rows p) a → fact_at facts a.line ≡ Some (floor p a.ask)
  pub some : NoneIsEmpty rows
