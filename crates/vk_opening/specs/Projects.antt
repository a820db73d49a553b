-- Where the files of a project stand.
use Rattle.std.specs.Prelude.{◌++◌, ℕ, List, [], ◌∷◌, codes, map}
use Rattle.vk_spec.specs.Paths.{Path}
use Rattle.vk_base.specs.Paths.{joined}

-- the manifest in a folder, and the configuration
abbrev pub manifest_path : Path → Path
manifest_path folder = folder ++ codes "vcpkg.json" ∷ []

abbrev pub config_path : Path → Path
config_path folder = folder ++ codes "vcpkg-configuration.json" ∷ []

-- the file of a triplet in a folder of triplets
abbrev pub triplet_path : List ℕ → Path → Path
triplet_path name folder = folder ++ (name ++ codes ".cmake") ∷ []

-- folders that the words name, then those of the configuration, which are taken from the project's folder
abbrev pub folders_of : Path → List Path → List Path → List Path
folders_of project words configured = words ++ map (joined project) configured
