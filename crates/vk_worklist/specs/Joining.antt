-- What a need or a floor brings up together with those of its port that were taken up before it.
use Rattle.std.specs.Prelude.{ℕ, List, [], ◌∷◌, flat_map, Option, Some, None}
use Rattle.vk_spec.specs.Versions.{Ask}
use Rattle.vk_spec.specs.Settings.{Instance}
use Rattle.vk_resolution.specs.Settings.{root, inst}
use Rattle.vk_resolution.specs.Asking.{Fact, need, floor, visit}
use Rattle.vk_resolution.specs.Consequences.{by_two}
use Rattle.vk_resolution.specs.Reasons.{Reason, fact_at}
use Rattle.vk_worklist.specs.Rows.{needs_of, floors_of}
use Rattle.vk_worklist.specs.declared.rows.Row.{Row}

-- the visit of a need and of a floor that stands on a line
abbrev pub to_visit : Instance → List ℕ → ℕ → ℕ → Option Fact → List Reason
to_visit i f line m None = []
to_visit i f line m (Some (need who g)) = []
to_visit i f line m (Some (floor q a)) = record { fact = visit i f a; cause = by_two line m } ∷ []
to_visit i f line m (Some (visit j g a)) = []

-- the visit of a floor and of a need that stands on a line
abbrev pub at_need : Ask → ℕ → ℕ → Option Fact → List Reason
at_need a line m None = []
at_need a line m (Some (need (root t) f)) = []
at_need a line m (Some (need (inst i) f)) = record { fact = visit i f a; cause = by_two m line } ∷ []
at_need a line m (Some (floor q b)) = []
at_need a line m (Some (visit j g b)) = []

-- what the fact of a line brings up together with those of the rows
abbrev pub joined : List Fact → List (List ℕ × Row) → ℕ → Fact → List Reason
joined lines ports line (need (root t) f) = []
joined lines ports line (need (inst i) f) = flat_map (λ m. to_visit i f line m (fact_at lines m)) (floors_of ports i.port)
joined lines ports line (floor p a) = flat_map (λ m. at_need a line m (fact_at lines m)) (needs_of ports p)
joined lines ports line (visit i f a) = []
