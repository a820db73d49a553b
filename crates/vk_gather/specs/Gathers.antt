-- The gathering of a folder's files as a protocol: a walk of the folder, then a reading of each file,
-- in the order of the texts of their paths.
use Rattle.std.specs.Prelude.{◌-◌, ◌++◌, [], ◌∷◌, ℕ, List, length, drop, Result, Ok, Err, if◌then◌else◌}
use Rattle.std.specs.declared.cmp.Ordering.{Ordering}
use Rattle.std.specs.declared.cmp.Ordering.TheVariants.{Less, Equal, Greater}
use Rattle.vk_spec.specs.Paths.{Path}
use Rattle.vk_spec.specs.Calls.{read_of, Refusal, missing, too_large, exists, many}
use Rattle.vk_base.specs.Paths.{begins, parts_of}
use Rattle.vk_base.specs.declared.limits.Limit.{Limit}
use Rattle.vk_base.specs.declared.limits.Limit.TheVariants as limit
use Rattle.vk_walk.specs.Walks as walks
use Rattle.vk_walk.specs.Walks.{text_order}
use Rattle.vk_walk.specs.Walked.{walk_limits}
use Rattle.vk_walk.specs.WalkProtocol.{walk_of}
use Rattle.vk_protocol.specs.Protocols.{Protocol, ends, asks, each, ◌>>=◌}
use Rattle.vk_entry.specs.Packages.{File}

-- ---- the order in which files are read

abbrev pub by_order : {X : Type 0} → Ordering → X → X → X → X
by_order Less x y z = x
by_order Equal x y z = y
by_order Greater x y z = z

-- a path among others in the order of their texts, unless its text is there
abbrev pub put_seen : Path → List Path → List Path
put_seen p [] = p ∷ []
put_seen p (q ∷ qs) = by_order (text_order p q) (p ∷ q ∷ qs) (q ∷ qs) (q ∷ put_seen p qs)

-- the paths that a folder begins, as they are seen from it, in the order of their texts
abbrev pub seen_in : Path → List Path → List Path
seen_in folder [] = []
seen_in folder (p ∷ ps) = if begins folder p then put_seen ((46 ∷ []) ∷ drop (length folder) p) (seen_in folder ps) else seen_in folder ps

-- ---- the files that were read

-- the files so far, and how many bytes more they may have
pub record Gathered : Type 0 where
  pub files : List File
  pub room : ℕ

-- one file more; one that isn't there is passed over
abbrev pub file_told : ℕ → Path → Gathered → Result (List ℕ) Refusal → Result Gathered Limit
file_told most seen g (Ok bytes) = Ok (record { files = g.files ++ record { path = seen; bytes = bytes } ∷ []; room = g.room - length bytes })
file_told most seen g (Err missing) = Ok g
file_told most seen g (Err too_large) = Err (limit.Bytes most)
file_told most seen g (Err exists) = Ok g
file_told most seen g (Err many) = Ok g

abbrev pub read_one : ℕ → Path → Path → Gathered → Protocol (Result Gathered Limit)
read_one most folder seen g = asks (read_of (folder ++ parts_of seen) g.room) (λ reply. ends (file_told most seen g reply))

abbrev pub files_in : Result Gathered Limit → Result (List File) Limit
files_in (Ok g) = Ok g.files
files_in (Err limit) = Err limit

-- ---- the whole

abbrev pub limit_of : walks.Limit → Limit
limit_of walks.deep = limit.Depth
limit_of walks.entries = limit.Entries
limit_of walks.files = limit.Files

abbrev pub read_found : ℕ → Path → Result (List Path) walks.Limit → Protocol (Result (List File) Limit)
read_found most folder (Err limit) = ends (Err (limit_of limit))
read_found most folder (Ok found) = each (read_one most folder) (seen_in folder found) (record { files = []; room = most }) >>= λ r. ends (files_in r)

unfoldable pub gather_of : ℕ → Path → Protocol (Result (List File) Limit)
gather_of most folder = walk_of walk_limits folder >>= read_found most folder
