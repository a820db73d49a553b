-- The load of a size: so many ports, numbered from 0, in a registry beside the project. Each has
-- the versions 1.0, which is the baseline, and 1.1, and asks for the next one.
use Rattle.std.specs.Prelude.{◌==◌, ◌+◌, ◌*◌, ◌/◌, ◌%◌, ◌++◌, ℕ, true, false, nat_lt, List, [], ◌∷◌, map, filter, flat_map, codes, if◌then◌else◌, Some}
use Rattle.std.specs.List.{range_with_len}
use Rattle.std.specs.FinMap as map
use Rattle.vk_spec.specs.Paths.{Path, anchor}
use Rattle.vk_spec.specs.Files.{Files}
use Rattle.vk_spec.specs.States.{State}
use Rattle.vk_gen.specs.Json.{quoted, member, object, array}

-- ---- names

-- a number below 10,000 in four digits
abbrev pub four_digits : ℕ → List ℕ
four_digits n = (48 + n / 1000) ∷ (48 + n / 100 % 10) ∷ (48 + n / 10 % 10) ∷ (48 + n % 10) ∷ []

-- the name of the port with a number: `p0000`, `p0001`, and so on
abbrev pub port_name : ℕ → List ℕ
port_name k = codes "p" ++ four_digits k

-- the older version, and the newer one
abbrev pub older : List ℕ
older = codes "1.0"

abbrev pub newer : List ℕ
newer = codes "1.1"

-- ---- what a manifest asks for

-- a port, whatever its version
abbrev pub asks_for : ℕ → List ℕ
asks_for k = quoted (port_name k)

-- a port at its newer version, or above
abbrev pub asks_for_newer : ℕ → List ℕ
asks_for_newer k = object (member (codes "name") (quoted (port_name k)) ∷ member (codes "version>=") (quoted newer) ∷ [])

-- of these ports, those that the load has
abbrev pub in_load : ℕ → List ℕ → List ℕ
in_load size ports = filter (λ k. nat_lt k size) ports

-- the older version of a port asks for the next port and, but for that of port 0, for one about
-- twice as far; the newer version asks for the next port at its newer version
abbrev pub older_asks : ℕ → ℕ → List (List ℕ)
older_asks size k = map asks_for (in_load size ((k + 1) ∷ (if k == 0 then [] else (2 * k + 1) ∷ [])))

abbrev pub newer_asks : ℕ → ℕ → List (List ℕ)
newer_asks size k = map asks_for_newer (in_load size ((k + 1) ∷ []))

-- ---- the texts of the files

-- the project asks for port 0 at its newer version
abbrev pub root_manifest : List ℕ
root_manifest = object (member (codes "dependencies") (array (asks_for_newer 0 ∷ [])) ∷ [])

-- all ports come from the registry
abbrev pub configuration : List ℕ
configuration = object (member (codes "default-registry") (object (member (codes "kind") (quoted (codes "filesystem")) ∷ member (codes "path") (quoted (codes "reg")) ∷ [])) ∷ [])

abbrev pub stock_triplet : List ℕ
stock_triplet = codes "set(VCPKG_TARGET_ARCHITECTURE x64)\nset(VCPKG_CRT_LINKAGE dynamic)\nset(VCPKG_LIBRARY_LINKAGE static)\n\nset(VCPKG_CMAKE_SYSTEM_NAME Linux)\n"

-- each port's baseline is its older version
abbrev pub baseline_entry : ℕ → List ℕ
baseline_entry k = member (port_name k) (object (member (codes "baseline") (quoted older) ∷ []))

unfoldable pub baseline_text : ℕ → List ℕ
baseline_text size = object (member (codes "default") (object (map baseline_entry (range_with_len 0 size))) ∷ [])

-- a version of a port, and the folder where it stands
abbrev pub table_row : ℕ → List ℕ → List ℕ
table_row k version = object (member (codes "version") (quoted version) ∷ member (codes "path") (quoted (codes "$/ports/" ++ port_name k ++ codes "/" ++ version)) ∷ [])

unfoldable pub table_text : ℕ → List ℕ
table_text k = object (member (codes "versions") (array (table_row k older ∷ table_row k newer ∷ [])) ∷ [])

-- the manifest of a version of a port, with the list of what it asks for
abbrev pub manifest_text : ℕ → List ℕ → List ℕ → List ℕ
manifest_text k version asks = object (member (codes "name") (quoted (port_name k)) ∷ member (codes "version") (quoted version) ∷ member (codes "dependencies") asks ∷ [])

unfoldable pub older_manifest : ℕ → ℕ → List ℕ
older_manifest size k = manifest_text k older (array (older_asks size k))

unfoldable pub newer_manifest : ℕ → ℕ → List ℕ
newer_manifest size k = manifest_text k newer (array (newer_asks size k))

-- ---- where they stand

-- the path of these parts
abbrev pub at : List (List ℕ) → Path
at parts = anchor false 0 ∷ parts

abbrev pub root_path : Path
root_path = at (codes "vcpkg.json" ∷ [])

abbrev pub configuration_path : Path
configuration_path = at (codes "vcpkg-configuration.json" ∷ [])

abbrev pub triplet_path : Path
triplet_path = at (codes "triplets" ∷ codes "x64-linux.cmake" ∷ [])

abbrev pub baseline_path : Path
baseline_path = at (codes "reg" ∷ codes "versions" ∷ codes "baseline.json" ∷ [])

abbrev pub table_path : ℕ → Path
table_path k = at (codes "reg" ∷ codes "versions" ∷ codes "p-" ∷ (port_name k ++ codes ".json") ∷ [])

abbrev pub manifest_path : ℕ → List ℕ → Path
manifest_path k version = at (codes "reg" ∷ codes "ports" ∷ port_name k ∷ version ∷ codes "vcpkg.json" ∷ [])

-- ---- all of it

-- a path, and the bytes that stand there
abbrev pub File : Type 0
File = Path × List ℕ

abbrev pub project_files : ℕ → List File
project_files size =
    (root_path, root_manifest)
    ∷ (configuration_path, configuration)
    ∷ (triplet_path, stock_triplet)
    ∷ (baseline_path, baseline_text size)
    ∷ []

abbrev pub port_files : ℕ → ℕ → List File
port_files size k = (table_path k, table_text k) ∷ (manifest_path k older, older_manifest size k) ∷ (manifest_path k newer, newer_manifest size k) ∷ []

abbrev pub load_list : ℕ → List File
load_list size = project_files size ++ flat_map (port_files size) (range_with_len 0 size)

abbrev pub load_files : ℕ → Files
load_files size = map.from_entries (load_list size)

-- a tree in memory that holds these files, to which nothing was done and of which no call is to
-- fail
abbrev pub untouched : Files → State
untouched files = record { told = Some (record { files = files; log = [] }); changes = 0; faults = 0; calls = 0; widest = 0; sure = true }

abbrev pub load_state : ℕ → State
load_state size = untouched (load_files size)
