-- The layout of a cache: `abi2` has its entries, `tmp` what is being made, and `damaged` what was set aside.
use Rattle.std.specs.Prelude.{◌+◌, ◌/◌, ◌%◌, ◌++◌, [], ◌∷◌, ℕ, List, codes}
use Rattle.hex.specs.Hex.{encode_lower}
use Rattle.vk_spec.specs.Paths.{Path}
use Rattle.vk_base.specs.Paths.{parts_of}

-- a name in a folder of the cache
abbrev pub place : Path → List ℕ → List ℕ → Path
place cache folder name = cache ++ folder ∷ name ∷ []

-- the folder of the entries
abbrev pub entries_of : Path → Path
entries_of cache = cache ++ codes "abi2" ∷ []

-- the entry of a text with this digest, which is printed in hexadecimal
abbrev pub entry_at : Path → List ℕ → Path
entry_at cache digest = place cache (codes "abi2") (encode_lower digest)

-- ---- in an entry

abbrev pub text_at : Path → Path
text_at entry = entry ++ codes "abi.txt" ∷ []

abbrev pub contents_at : Path → Path
contents_at entry = entry ++ codes "contents.txt" ∷ []

-- a file of the package, by its path there
abbrev pub file_at : Path → Path → Path
file_at entry path = entry ++ codes "files" ∷ parts_of path

-- ---- the folders of an agent

-- the last four digits of a number
abbrev pub four_digits : ℕ → List ℕ
four_digits n = (48 + n / 1000 % 10) ∷ (48 + n / 100 % 10) ∷ (48 + n / 10 % 10) ∷ (48 + n % 10) ∷ []

abbrev pub agent_name : List ℕ → ℕ → List ℕ
agent_name agent n = agent ++ (codes "-" ++ four_digits n)

-- what is being made
abbrev pub tmp_of : Path → Path
tmp_of cache = cache ++ codes "tmp" ∷ []

abbrev pub tmp_at : Path → List ℕ → ℕ → Path
tmp_at cache agent n = place cache (codes "tmp") (agent_name agent n)

-- what was set aside
abbrev pub damaged_of : Path → Path
damaged_of cache = cache ++ codes "damaged" ∷ []

abbrev pub damaged_at : Path → List ℕ → ℕ → Path
damaged_at cache agent n = place cache (codes "damaged") (agent_name agent n)
