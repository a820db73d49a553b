-- The first registry that has a pattern.
use Rattle.std.specs.Prelude.{◌≡◌, ◌<◌, ◌≤◌, ℕ, Bool, false, List, length, take}
use Rattle.std.specs.Prelude.{Option, Some, None, bytes_eq}
use Rattle.std.specs.List.{list_any, position_from}
use Rattle.vk_config.specs.Configs.{Pattern, exact, starting, Registry}
use Rattle.vk_config.specs.Serving.{patterns_of}

-- what is kept for each text, if anything is
abbrev pub Places : Type 0
Places = List ℕ → Option ℕ

-- what is kept for each pattern
abbrev pub PatternPlaces : Type 0
PatternPlaces = Pattern → Option ℕ

-- names are kept apart from beginnings
abbrev pub at_pattern : Places → Places → PatternPlaces
at_pattern names beginnings (exact name) = names name
at_pattern names beginnings (starting text) = beginnings text

abbrev pub is_same : Pattern → Pattern → Bool
is_same (exact name) (exact other) = bytes_eq name other
is_same (exact name) (starting other) = false
is_same (starting text) (exact other) = false
is_same (starting text) (starting other) = bytes_eq text other

-- a registry serves ports by this pattern
abbrev pub has_pattern : Pattern → Registry → Bool
has_pattern pattern registry = list_any (is_same pattern) (patterns_of registry)

-- the place of the first registry that does
abbrev pub first_with : List Registry → PatternPlaces
first_with registries pattern = position_from (has_pattern pattern) 0 registries

-- no beginning of the port that is longer than this is kept
abbrev pub NoLonger : PatternPlaces → List ℕ → ℕ → Type 0
NoLonger places port size = (n : ℕ) → size < n → n ≤ length port
    → places (starting (take n port)) ≡ None

-- the place that is kept for the longest beginning of the port that has one
pub record IsLongest (places : PatternPlaces) (port : List ℕ) (place : ℕ) : Type 0 where
  pub size : ℕ
  pub within : size ≤ length port
  pub at : places (starting (take size port)) ≡ Some place
  pub longest : NoLonger places port size

-- none has one
abbrev pub NoneBegins : PatternPlaces → List ℕ → Type 0
NoneBegins places port = (n : ℕ) → n ≤ length port → places (starting (take n port)) ≡ None
