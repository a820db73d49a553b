-- The versions that a root sets, and where each stands among them.
use Rattle.std.specs.Prelude.{◌≡◌, ℕ, Bool, List, Option, option_map, bytes_eq}
use Rattle.std.specs.List.{find, position}
use Rattle.std.specs.Map.{lookup}
use Rattle.vk_spec.specs.Versions.{Ask}
use Rattle.vk_spec.specs.Manifests.{Override}

-- an override is for this port
abbrev pub is_for : List ℕ → Override → Bool
is_for port o = bytes_eq o.name port

-- for each port, the place of the first override for it
abbrev pub ArePlaces : List Override → List (List ℕ × ℕ) → Type 0
ArePlaces overrides places = (port : List ℕ) → lookup (bytes_eq port) places ≡ position (is_for port) overrides

-- what a root manifest sets for the port
abbrev pub override_for : List Override → List ℕ → Option Ask
override_for overrides port = option_map (λ o. o.ask) (find (is_for port) overrides)
