-- Where the files of a registry in a folder stand.
use Rattle.std.specs.Prelude.{◌++◌, ℕ, List, [], ◌∷◌, take, codes}
use Rattle.vk_spec.specs.Paths.{Path}

-- the folder of a port in a folder of ports
abbrev pub port_folder : Path → List ℕ → Path
port_folder folder port = folder ++ port ∷ []

abbrev pub baseline_path : Path → Path
baseline_path registry = registry ++ codes "versions" ∷ codes "baseline.json" ∷ []

-- the versions file of a port, in a folder named for its first byte
abbrev pub table_path : List ℕ → Path → Path
table_path port registry = registry ++ codes "versions" ∷ (take 1 port ++ codes "-") ∷ (port ++ codes ".json") ∷ []
