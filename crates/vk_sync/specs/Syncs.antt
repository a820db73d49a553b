-- How a folder is brought to hold just the wanted files, call by call.
use Rattle.std.specs.Prelude.{◌==◌, ◌+◌, ◌/◌, ◌++◌, [], ◌∷◌, ℕ, suc, zero, List, length, take, drop, map, Bool, true, false, Result, Ok, Err, if◌then◌else◌}
use Rattle.std.specs.Cmp.Lexicographic.{pointwise}
use Rattle.std.specs.List.{list_any}
use Rattle.std.specs.Str.{bytes_eq}
use Rattle.vk_spec.specs.Paths.{Path, Begins}
use Rattle.vk_spec.specs.Calls.{Call, Touches, piece_of, write_of, remove_of, Refusal}
use Rattle.vk_base.specs.declared.limits.Limit.{Limit}
use Rattle.vk_base.specs.declared.limits.Limit.TheVariants as limit
use Rattle.vk_protocol.specs.Protocols.{Protocol, ends, asks, on_ok, each, ◌>>=◌}
use Rattle.vk_walk.specs.Walks as walks
use Rattle.vk_walk.specs.Walked.{walk_limits}
use Rattle.vk_walk.specs.WalkProtocol.{walk_of}

-- bytes, and where they stand
abbrev pub Placed : Type 0
Placed = Path × List ℕ

-- where files that are placed below the root stand
abbrev pub placed_in : Path → List Placed → List Placed
placed_in root wanted = map (λ x. (root ++ x.0, x.1)) wanted

-- a path is one of these
abbrev pub is_in : List Path → Path → Bool
is_in paths p = list_any (pointwise (pointwise ◌==◌) p) paths

abbrev pub paths_of : List Placed → List Path
paths_of files = map (λ x. x.0) files

-- ---- comparing

-- the most bytes that are asked for at once
abbrev pub most_piece : ℕ
most_piece = 65536

-- a piece is these bytes
abbrev pub is_piece : List ℕ → Result (List ℕ) Refusal → Bool
is_piece bytes (Ok piece) = bytes_eq piece bytes
is_piece bytes (Err refusal) = false

-- whether a file holds these bytes from a place on, by so many pieces, up to the first that differs
abbrev pub compare_from : ℕ → Path → List ℕ → ℕ → Protocol Bool
compare_from zero path bytes at = ends true
compare_from (suc left) path bytes at =
    asks (piece_of path at most_piece) (λ reply. if is_piece (take most_piece (drop at bytes)) reply then compare_from left path bytes (at + most_piece) else ends false)

-- the last piece is shorter than asked, so that nothing stands behind it
abbrev pub compare_of : Path → List ℕ → Protocol Bool
compare_of path bytes = compare_from (length bytes / most_piece + 1) path bytes 0

-- a file that wasn't found lacks
abbrev pub holds_of : (Path → Bool) → Placed → Protocol Bool
holds_of is_found file = if is_found file.0 then compare_of file.0 file.1 else ends false

-- a file is written later unless it holds its bytes
abbrev pub noted : Placed → List Placed → Bool → List Placed
noted file lack true = lack
noted file lack false = lack ++ file ∷ []

abbrev pub compare_one : (Path → Bool) → Placed → List Placed → Protocol (Result (List Placed) Limit)
compare_one is_found file lack = holds_of is_found file >>= λ holds. ends (Ok (noted file lack holds))

-- ---- changing

abbrev pub remove_one : (Path → Bool) → Path → Unit {0} → Protocol (Result (Unit {0}) Limit)
remove_one is_wanted path u = if is_wanted path then ends (Ok tt) else asks (remove_of path) (λ reply. ends (Ok tt))

abbrev pub write_one : Placed → Unit {0} → Protocol (Result (Unit {0}) Limit)
write_one file u = asks (write_of file.0 file.1) (λ reply. ends (Ok tt))

-- what isn't wanted is removed, then what lacks is written
abbrev pub change_of : List Placed → List Path → List Placed → Protocol (Result (Unit {0}) Limit)
change_of files found lack = each (remove_one (is_in (paths_of files))) found tt >>= on_ok (λ u. each write_one lack u)

-- ---- the whole

abbrev pub limit_of : walks.Limit → Limit
limit_of walks.deep = limit.Depth
limit_of walks.entries = limit.Entries
limit_of walks.files = limit.Files

-- what follows the walk
abbrev pub sync_found : List Placed → Result (List Path) walks.Limit → Protocol (Result (Unit {0}) Limit)
sync_found files (Ok found) = each (compare_one (is_in found)) files [] >>= on_ok (change_of files found)
sync_found files (Err over) = ends (Err (limit_of over))

-- the root is walked, each wanted file that was found is compared, what isn't wanted is removed, and what lacks or differs is written, in the order of the list
abbrev pub sync_all : Path → List Placed → Protocol (Result (Unit {0}) Limit)
sync_all root files = walk_of walk_limits root >>= sync_found files

-- the same of files that are wanted below the root
unfoldable pub sync_of : Path → List Placed → Protocol (Result (Unit {0}) Limit)
sync_of root wanted = sync_all root (placed_in root wanted)

-- ---- where it changes anything

-- each path that a call may change lies below the root
abbrev pub ChangesBelow : Path → Call → Type 0
ChangesBelow root call = (q : Path) → Touches call q → Begins root q
