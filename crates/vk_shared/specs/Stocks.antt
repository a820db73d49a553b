-- What was made so far, as the code has it.
use Rattle.std.specs.Prelude.{◌≡◌, ◌++◌, ◌-◌, ℕ, List, Option, Some, None, nat_le, if◌then◌else◌}
use Rattle.vk_entry.specs.Packages.{File}
use Rattle.vk_make.specs.Makes.{MadeItem, size_of}
use Rattle.vk_shared.specs.declared.stocks.MadePackage.{MadePackage}

abbrev pub made_view : MadePackage → MadeItem
made_view m = record { mark = m.mark; files = m.built }

-- how much room is left behind files, if there is room for them
abbrev pub room_for : List File → ℕ → Option ℕ
room_for files room = if nat_le (size_of files) room then Some (room - size_of files) else None

-- more may have come behind them
abbrev pub GrowsTo : List (List File) → List (List File) → Type 0
GrowsTo before after = (more : List (List File)) × (after ≡ before ++ more)
