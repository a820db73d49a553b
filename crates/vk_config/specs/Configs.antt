-- A configuration as plain data.
use Rattle.std.specs.Prelude.{ℕ, List, [], Option, None}
use Rattle.vk_spec.specs.Paths.{Path}

-- which ports a registry has: the one of this name, or all whose names begin so
pub data Pattern : Type 0 where
  exact : List ℕ → Pattern
  starting : List ℕ → Pattern

-- where a registry has its ports from
pub data Source : Type 0 where
  -- a folder, and the name of the baseline that counts
  filesystem : Path → List ℕ → Source
  git : Source
  builtin : Source
  artifact : Source

-- of an artifact registry no patterns are read
pub record Registry : Type 0 where
  pub source : Source
  pub packages : List Pattern

pub record Config : Type 0 where
  pub registries : List Registry
  -- where a port comes from that no pattern takes
  pub default : Option Source
  pub overlay_ports : List Path
  pub overlay_triplets : List Path

-- a project that configures nothing
abbrev pub no_config : Config
no_config = record { registries = []; default = None; overlay_ports = []; overlay_triplets = [] }

-- what a root manifest has of it
pub data Embedded : Type 0 where
  nothing : Embedded
  one : Config → Embedded
  two : Embedded
