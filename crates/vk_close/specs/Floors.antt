-- What a floor is looked up for: whether its version is visited, and that nothing is wrong with it.
use Rattle.std.specs.Prelude.{Bool, true, false, not, ◌&&◌, Option, Some, None, is_some}
use Rattle.vk_spec.specs.Versions.{Version, Ask, ask_of, same_ask, same_version}
use Rattle.vk_spec.specs.Pages.{Given, overlay, override, baseline}
use Rattle.vk_version.specs.Orders.{at_most}

abbrev pub is_below : Version → Version → Bool
is_below v w = at_most v w && not (same_version v w)

-- the version of a floor isn't below the given one, and both are there
abbrev pub not_below : Option Version → Option Version → Bool
not_below None found = false
not_below (Some given) None = false
not_below (Some given) (Some found) = not (is_below found given)

-- what is looked up of a table: nothing of an overlay's
abbrev pub found_by : Option Given → Option Version → Option Version
found_by None listed = None
found_by (Some (overlay v)) listed = None
found_by (Some (override b)) listed = listed
found_by (Some (baseline b)) listed = listed

-- the floor is that of the version that a baseline gives
abbrev pub is_base : Option Given → Ask → Bool
is_base None a = false
is_base (Some (overlay v)) a = false
is_base (Some (override b)) a = false
is_base (Some (baseline b)) a = same_ask a b

-- whether a floor's version is visited, by what is given, by the given version and by its own in the table
abbrev pub visited_by : Option Given → Option Version → Ask → Option Version → Bool
visited_by None base a found = false
visited_by (Some (overlay v)) base a found = same_ask a (ask_of v)
visited_by (Some (override b)) base a found = same_ask a b && is_some found
visited_by (Some (baseline b)) base a found = not_below base found

-- a floor lies in the table of a port that has one
abbrev pub is_clear : Option Given → Option Version → Bool
is_clear None found = true
is_clear (Some (overlay v)) found = true
is_clear (Some (override b)) found = is_some found
is_clear (Some (baseline b)) found = is_some found
