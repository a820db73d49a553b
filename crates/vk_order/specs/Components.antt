-- Components: numbers of places that never fall from what is needed to who needs it.
use Rattle.std.specs.Prelude.{◌≡◌, ◌+◌, ◌<◌, ◌≤◌, ℕ, List, length, Option, unwrap_or}
use Rattle.std.specs.List.{All, Contains, sum}
use Rattle.vk_order.specs.Needs.{listed_at, known_at}
use Rattle.vk_order.specs.declared.components.Climb.{Climb}

-- the number of a place's component, 0 where it has none
abbrev pub component_at : List (Option ℕ) → ℕ → ℕ
component_at components k = unwrap_or (known_at components k) 0

-- all of these are in lower components
abbrev pub AreLower : List ℕ → List (Option ℕ) → ℕ → Type 0
AreLower named components limit = (n : ℕ) → Contains named n → component_at components n < limit

-- nothing that a place needs is in a higher component
pub record AreComponents (needs : List (List ℕ)) (components : List (Option ℕ)) : Type 0 where
  pub long : length components ≡ length needs
  pub rise : (k n : ℕ) → Contains (listed_at needs k) n → component_at components n ≤ component_at components k

-- all that a place needs is in lower components
abbrev pub StandsAbove : List (List ℕ) → List (Option ℕ) → ℕ → Type 0
StandsAbove needs components k = AreLower (listed_at needs k) components (component_at components k)

-- a climb over so many places
pub record IsClimb (count : ℕ) (climb : Climb) : Type 0 where
  pub left : length climb.left.items ≡ count
  pub seen : length climb.seen.items ≡ count
  pub path : All (λ k. k < count) climb.path.items
  pub done : All (λ k. k < count) climb.done.items

-- how many steps a climb has left at most
abbrev pub steps_of : Climb → ℕ
steps_of climb = sum climb.left.items + sum climb.left.items + length climb.path.items
