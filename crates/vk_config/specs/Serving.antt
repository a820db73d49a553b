-- Which registry a port comes from.
use Rattle.std.specs.Prelude.{◌≡◌, ◌<◌, ◌++◌, ℕ, Bool, true, false, List, [], length, slice_get}
use Rattle.std.specs.Prelude.{Option, Some, None, if◌then◌else◌}
use Rattle.std.specs.List.{Contains}
use Rattle.vk_config.specs.Configs.{Pattern, exact, starting, Source, filesystem, git, builtin}
use Rattle.vk_config.specs.Configs.{artifact, Registry, Config}

-- a pattern takes a port: its name is the port's, or begins it
abbrev pub Takes : Pattern → List ℕ → Type 0
Takes (exact name) port = name ≡ port
Takes (starting text) port = (rest : List ℕ) × (port ≡ text ++ rest)

-- a name beats every beginning, and a longer beginning a shorter one
abbrev pub Beats : Pattern → Pattern → Type 0
Beats (exact name) (exact other) = ⊥
Beats (exact name) (starting other) = Unit {0}
Beats (starting text) (exact other) = ⊥
Beats (starting text) (starting other) = length other < length text

-- an artifact registry serves no port; any other does, also one that the program can't read
abbrev pub serves_ports : Source → Bool
serves_ports (filesystem path baseline) = true
serves_ports git = true
serves_ports builtin = true
serves_ports artifact = false

-- the patterns by which a registry serves ports
abbrev pub patterns_of : Registry → List Pattern
patterns_of registry = if serves_ports registry.source then registry.packages else []

-- the registry at this place serves ports, and has a pattern that takes this one
pub record HasPattern (registries : List Registry) (port : List ℕ) (place : ℕ)
    (pattern : Pattern) : Type 0 where
  pub registry : Registry
  pub stands : slice_get registries place ≡ Some registry
  pub listed : Contains (patterns_of registry) pattern
  pub takes : Takes pattern port

-- no pattern that takes the port beats this one, which stands in the first registry with one so
-- good
pub record IsBest (registries : List Registry) (port : List ℕ) (place : ℕ) : Type 0 where
  pub pattern : Pattern
  pub has : HasPattern registries port place pattern
  pub unbeaten : (other : ℕ) (rival : Pattern) → HasPattern registries port other rival
      → Beats rival pattern → ⊥
  pub first : (other : ℕ) (rival : Pattern) → other < place → HasPattern registries port other rival
      → Beats pattern rival

-- no pattern takes the port
abbrev pub NoneTakes : List Registry → List ℕ → Type 0
NoneTakes registries port = (place : ℕ) (pattern : Pattern)
    → HasPattern registries port place pattern → ⊥

-- the same of one that may be missing
abbrev pub serves_any : Option Source → Bool
serves_any None = false
serves_any (Some source) = serves_ports source

-- there is a default registry, and it serves ports
abbrev pub has_default : Config → Bool
has_default config = serves_any config.default

-- the port comes from the registry at this place; their number is the default registry
pub data IsServedAt (config : Config) (port : List ℕ) : ℕ → Type 0 where
  by_pattern : (place : ℕ) → IsBest config.registries port place → IsServedAt config port place
  by_default : NoneTakes config.registries port → has_default config ≡ true
      → IsServedAt config port (length config.registries)

-- the port comes from none
pub record IsUnserved (config : Config) (port : List ℕ) : Type 0 where
  pub taken : NoneTakes config.registries port
  pub default : has_default config ≡ false
