-- Items of a value as a list.
use Rattle.std.proofs.Common.{◌≡◌, List, [], ◌∷◌, map, refl, ap}
use Rattle.std.specs.declared.alloc.Global.{Global}
use Rattle.json.specs.Value.{items_view}
use Rattle.json.specs.declared.value.Value.{Value}
use Rattle.vk_json.specs.Looks.{list_of}
use Rattle.vk_json.specs.Values.{view, items_data}

pub items_listed : (vs : List (Value Global)) → list_of (items_data (items_view vs)) ≡ map view vs
items_listed [] = refl
items_listed (v ∷ vs) = ap (λ ds. view v ∷ ds) (items_listed vs)
