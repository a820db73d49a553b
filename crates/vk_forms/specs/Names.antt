-- The names that may stand in a line.
use Rattle.std.specs.Prelude.{ℕ, List, Option, Some, None, codes}
use Rattle.vk_base.specs.Names.{IsName, port_rule, word_rule}
use Rattle.vk_base.specs.Tokens.{token_of}
use Rattle.vk_spec.specs.Settings.{Instance}
use Rattle.vk_resolution.specs.Settings.{Who, root, inst}

-- a port, or `.` for the root
abbrev pub port_or_root : Option (List ℕ) → List ℕ
port_or_root None = codes "."
port_or_root (Some p) = token_of p

abbrev pub IsPortIfAny : Option (List ℕ) → Type 0
IsPortIfAny None = Unit {0}
IsPortIfAny (Some p) = IsName port_rule p

-- who a port and a triplet are
abbrev pub who_of : Option (List ℕ) → List ℕ → Who
who_of None triplet = root triplet
who_of (Some p) triplet = inst (record { port = p; triplet = triplet })

abbrev pub IsRightInstance : Instance → Type 0
IsRightInstance i = IsName port_rule i.port × IsName word_rule i.triplet

abbrev pub IsRightWho : Who → Type 0
IsRightWho (root triplet) = IsName word_rule triplet
IsRightWho (inst i) = IsRightInstance i

abbrev pub instance_of : List ℕ → List ℕ → Instance
instance_of port triplet = record { port = port; triplet = triplet }
