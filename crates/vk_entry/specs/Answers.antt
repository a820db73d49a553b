-- What reading a contents list answers.
use Rattle.std.specs.Prelude.{◌≡◌, ℕ, List, map, Option, Some, None, Result, Ok, Err}
use Rattle.vk_base.specs.declared.stops.Unread.{Unread}
use Rattle.vk_base.specs.declared.stops.Unread.TheVariants as unread
use Rattle.vk_entry.specs.Contents.{Content}
use Rattle.vk_entry.specs.ContentViews.{content_view}
use Rattle.vk_entry.specs.ContentLists.{IsList, IsRefused}
use Rattle.vk_entry.specs.declared.contents.ContentLine.{ContentLine}
use Rattle.vk_entry.specs.declared.reading.EntryFault.{EntryFault}

abbrev pub Reading : Type 0
Reading = Result (List ContentLine) (Unread EntryFault)

-- what reading answers: the files of which the bytes are the list, or what is wrong with them
abbrev pub Ends : List ℕ → Reading → Type 0
Ends bytes (Ok lines) = IsList bytes (map content_view lines)
Ends bytes (Err (unread.Fault fault)) = IsRefused bytes fault
Ends bytes (Err (unread.Memory memory)) = Unit {0}

-- these files, unless memory ran out
abbrev pub IsThese : List Content → Reading → Type 0
IsThese cs (Ok lines) = map content_view lines ≡ cs
IsThese cs (Err (unread.Fault fault)) = ⊥
IsThese cs (Err (unread.Memory memory)) = Unit {0}

-- what reading answers, by the function on the bytes: its files, or a fault where it has none
abbrev pub IsTold : Option (List Content) → Reading → Type 0
IsTold told (Ok lines) = told ≡ Some (map content_view lines)
IsTold told (Err (unread.Fault fault)) = told ≡ None
IsTold told (Err (unread.Memory memory)) = Unit {0}
