-- The pages of a catalogue in memory.
use Rattle.std.specs.Prelude.{◌≡◌, ℕ, List, [], map, Option, Some, None, Err, bytes_eq}
use Rattle.std.specs.Map.{lookup}
use Rattle.vk_spec.specs.Pages as plain
use Rattle.vk_spec.specs.Catalogues.{IsPage}
use Rattle.vk_spec.specs.Conditions.{Condition}
use Rattle.vk_catalogue.specs.PageViews.{held_view}
use Rattle.vk_catalogue.specs.declared.shelves.Held.{Held}

-- ports with what is known of each, in the order in which it was put
abbrev pub Shelved : Type 0 → Type 0
Shelved X = List (List ℕ × X)

-- the page of a port without one: no registry serves it
abbrev pub no_page : plain.Page Condition
no_page = record { given = Err plain.no_registry; rows = [] }

abbrev pub page_or_none : Option (plain.Page Condition) → plain.Page Condition
page_or_none None = no_page
page_or_none (Some page) = page

-- the page of a port among those that were put
abbrev pub page_among : Shelved (plain.Page Condition) → List ℕ → plain.Page Condition
page_among put port = page_or_none (lookup (bytes_eq port) put)

-- what is held of a port
abbrev pub held_for : Shelved Held → List ℕ → Option Held
held_for held port = lookup (bytes_eq port) held

abbrev pub pages_of : Shelved Held → Shelved (plain.Page Condition)
pages_of held = map (λ e. (e.0, held_view e.1)) held

-- the page of a port by what is held
abbrev pub page_on : Shelved Held → List ℕ → plain.Page Condition
page_on held = page_among (pages_of held)

-- what a page that is put keeps: its port has none yet
pub record IsPageFor (port : List ℕ) (page : plain.Page Condition) (put : Shelved (plain.Page Condition)) : Type 0 where
  pub new : lookup (bytes_eq port) put ≡ None
  pub sound : IsPage page
