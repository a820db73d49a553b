-- How closely patterns take a port, as numbers that the search compares.
use Rattle.std.specs.Prelude.{◌+◌, ℕ, List, [], ◌∷◌, length, take, max, Option, Some, None, nat_le}
use Rattle.std.specs.Prelude.{if◌then◌else◌}
use Rattle.std.specs.Str.{bytes_eq}
use Rattle.vk_config.specs.Configs.{Pattern, exact, starting, Registry, Config}
use Rattle.vk_config.specs.Serving.{patterns_of, has_default}

-- the length of the beginning; one more than that of any for the name itself
abbrev pub closeness : List ℕ → Pattern → Option ℕ
closeness port (exact name) = if bytes_eq name port then Some (length port + 1) else None
closeness port (starting text) =
    if bytes_eq text (take (length text) port) then Some (length text) else None

-- the greater of two
abbrev pub closer : Option ℕ → Option ℕ → Option ℕ
closer None next = next
closer (Some found) None = Some found
closer (Some found) (Some next) = Some (max found next)

-- that of the closest pattern, after those that were looked at
abbrev pub closest_from : List ℕ → Option ℕ → List Pattern → Option ℕ
closest_from port found [] = found
closest_from port found (pattern ∷ patterns) =
    closest_from port (closer found (closeness port pattern)) patterns

abbrev pub closest : List ℕ → List Pattern → Option ℕ
closest port patterns = closest_from port None patterns

-- a place, and how close it is
pub record Found : Type 0 where
  pub place : ℕ
  pub closeness : ℕ

-- the closer of two, and the first where they are equally close
abbrev pub closer_place : Option Found → ℕ → Option ℕ → Option Found
closer_place found place None = found
closer_place None place (Some next) = Some (record { place = place; closeness = next })
closer_place (Some found) place (Some next) =
    if nat_le next found.closeness then Some found else Some
    (record { place = place; closeness = next })

abbrev pub closest_place : List ℕ → Option Found → ℕ → List Registry → Option Found
closest_place port found n [] = found
closest_place port found n (registry ∷ registries) =
    closest_place port (closer_place found n (closest port (patterns_of registry)))
    (n + 1) registries

-- the default registry, if it serves ports
abbrev pub default_place : Config → Option ℕ
default_place config = if has_default config then Some (length config.registries) else None

abbrev pub place_or : Option ℕ → Option Found → Option ℕ
place_or default None = default
place_or default (Some found) = Some found.place

-- the registry that a port comes from
abbrev pub place_of : Config → List ℕ → Option ℕ
place_of config port = place_or (default_place config) (closest_place port None 0 config.registries)
