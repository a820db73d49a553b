-- The walk of a folder as a protocol: list it, and by sorted names walk each folder in it.
use Rattle.std.specs.Prelude.{◌≡◌, ◌⊎◌, ◌++◌, [], ◌∷◌, ℕ, zero, suc, List, length, Bool, true, false, Result, Ok, Err, nat_le, if◌then◌else◌}
use Rattle.vk_spec.specs.Paths.{Path, Begins}
use Rattle.vk_spec.specs.Standing.{Disk, Entry, IsFolder}
use Rattle.vk_spec.specs.Calls.{Call, list_of, Refusal, missing, too_large, exists, many}
use Rattle.vk_protocol.specs.Protocols.{Protocol, ends, asks, on_ok, each}
use Rattle.vk_walk.specs.Walks.{Limits, Limit, deep, entries, files, IsFirst, IsCalm, AreFiles}

-- the entries that a listing tells; none where there is no folder
abbrev pub listed : Result (List Entry) Refusal → Result (List Entry) Limit
listed (Ok es) = Ok es
listed (Err missing) = Ok []
listed (Err too_large) = Ok []
listed (Err exists) = Ok []
listed (Err many) = Err entries

-- one more file, unless there are as many as may be
abbrev pub with_file : ℕ → Path → List Path → Result (List Path) Limit
with_file most path found = if nat_le most (length found) then Err files else Ok (found ++ path ∷ [])

-- walks what stands at a path, a folder or a file, and adds the files to those that were found; so many levels of folders may stand there, the path's own among them
abbrev pub walk_at : ℕ → ℕ → Path → Bool → List Path → Protocol (Result (List Path) Limit)
walk_at most left path false found = ends (with_file most path found)
walk_at most zero path true found = ends (Err deep)
walk_at most (suc left) path true found =
    asks (list_of path) (λ reply. on_ok (λ es. each (λ e found. walk_at most left (path ++ e.name ∷ []) e.folder found) es found) (listed reply))

-- the files below a folder, in the order of their paths
unfoldable pub walk_of : Limits → Path → Protocol (Result (List Path) Limit)
walk_of most folder = walk_at most.files (suc most.depth) folder true []

-- a folder is listed, this one or one below it
abbrev pub ListsIn : Path → Call → Type 0
ListsIn folder call = (path : Path) × Begins folder path × (call ≡ list_of path)

-- what a walk comes to over files that stay: all files below the folder, in the order of their paths, or none where it is no folder; or the first limit that is passed
abbrev pub WalkedIs : Limits → Path → Result (List Path) Limit → Disk → Type 0
WalkedIs most folder (Ok found) d = (IsFolder d folder → AreFiles d folder found × IsCalm most d folder) × (IsFolder d folder ⊎ (found ≡ []))
WalkedIs most folder (Err limit) d = IsFirst most d folder limit
