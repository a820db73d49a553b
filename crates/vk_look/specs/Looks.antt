-- A look at an entry of a cache, as a protocol: what stands at the entry; its text; its contents
-- list; a walk of it; and each listed file, up to the first harm.
use Rattle.std.specs.Prelude.{◌≡◌, ◌++◌, ◌==◌, ◌&&◌, [], ◌∷◌, ℕ, List, length, Bool, true, false}
use Rattle.std.specs.Prelude.{Option, Some, None, Result, Ok, Err, nat_le, if◌then◌else◌}
use Rattle.std.specs.Str.{bytes_eq}
use Rattle.sha2.specs.Sha256.{sha256}
use Rattle.vk_spec.specs.Paths.{Path}
use Rattle.vk_spec.specs.Calls.{is_file, is_folder, is_absent, kind_of, read_of, Kind, Refusal, missing, too_large, exists, many}
use Rattle.vk_base.specs.declared.limits.Limit as base
use Rattle.vk_base.specs.declared.limits.Limit.TheVariants.{Bytes}
use Rattle.vk_walk.specs.Walks.{Limit}
use Rattle.vk_walk.specs.Walked.{walk_limits}
use Rattle.vk_protocol.specs.Protocols.{Protocol, ends, asks, each, ◌>>=◌}
use Rattle.vk_walk.specs.WalkProtocol.{walk_of}
use Rattle.vk_entry.specs.Packages.{File}
use Rattle.vk_entry.specs.Contents.{Content}
use Rattle.vk_places.specs.Places.{text_at, contents_at, file_at}
use Rattle.vk_entry.specs.ContentsIn.{contents_in}
use Rattle.vk_entry.specs.Differences.{difference_of}
use Rattle.vk_entry.specs.declared.differences.Difference.{Difference}
use Rattle.vk_entry.specs.declared.differences.Difference.TheVariants as difference
use Rattle.vk_look.specs.LookIs.{Wanted, most_list, most_text, bytes_listed, places_of}
use Rattle.vk_look.specs.declared.answers.Harm.{Harm}
use Rattle.vk_look.specs.declared.answers.Harm.TheVariants.{Text, Contents, Extra, Missing, Size, Hash}
use Rattle.vk_look.specs.declared.answers.Look.{Look}
use Rattle.vk_look.specs.declared.answers.Look.TheVariants.{Hit, Absent, Damaged, Collision}

-- a look, or the limit that is passed
abbrev pub Looked : Type 0
Looked = Result Look base.Limit

-- no limit is passed but that of bytes
abbrev pub IsByBytes : ℕ → Looked → Type 0
IsByBytes most (Ok look) = Unit {0}
IsByBytes most (Err limit) = limit ≡ Bytes most

abbrev pub damaged : Harm → Protocol Looked
damaged harm = ends (Ok (Damaged harm))

-- how the files that were found differ from those that are to be there
abbrev pub harm_by : Difference → Harm
harm_by difference.Extra = Extra
harm_by difference.Missing = Missing

-- ---- one listed file

-- the files that were read so far, where they are kept
abbrev pub with_file : Content → List ℕ → Option (List File) → Option (List File)
with_file c bytes None = None
with_file c bytes (Some files) = Some (files ++ record { path = c.path; bytes = bytes } ∷ [])

abbrev pub refused : Refusal → Harm
refused missing = Missing
refused too_large = Size
refused exists = Missing
refused many = Missing

-- how the bytes aren't those that are listed
abbrev pub harm_of : List ℕ → Content → Option Harm
harm_of bytes c = if length bytes == c.size then (if bytes_eq (sha256 bytes) c.digest then None else Some Hash) else Some Size

abbrev pub file_read : Content → List ℕ → Option (List File) → Option Harm → Result (Option (List File)) Harm
file_read c bytes files (Some harm) = Err harm
file_read c bytes files None = Ok (with_file c bytes files)

abbrev pub file_told : Content → Option (List File) → Result (List ℕ) Refusal → Result (Option (List File)) Harm
file_told c files (Err r) = Err (refused r)
file_told c files (Ok bytes) = file_read c bytes files (harm_of bytes c)

-- it is to have no more bytes than are listed
abbrev pub look_file : Path → Content → Option (List File) → Protocol (Result (Option (List File)) Harm)
look_file entry c files = asks (read_of (file_at entry c.path) c.size) (λ reply. ends (file_told c files reply))

-- ---- the whole

-- files are kept where the answer may be a hit
abbrev pub keeps : Wanted → List ℕ → List Content → Bool
keeps w kept cs = bytes_eq kept w.text && nat_le (bytes_listed cs) w.most

abbrev pub no_files : Bool → Option (List File)
no_files true = Some []
no_files false = None

abbrev pub looked : Wanted → List ℕ → Result (Option (List File)) Harm → Looked
looked w kept (Err harm) = Ok (Damaged harm)
looked w kept (Ok (Some files)) = Ok (Hit files)
looked w kept (Ok None) = if bytes_eq kept w.text then Err (Bytes w.most) else Ok (Collision kept)

abbrev pub look_files : Wanted → List ℕ → List Content → Protocol Looked
look_files w kept cs = each (look_file w.entry) cs (no_files (keeps w kept cs)) >>= λ r. ends (looked w kept r)

abbrev pub look_compared : Wanted → List ℕ → List Content → Option Difference → Protocol Looked
look_compared w kept cs (Some how) = damaged (harm_by how)
look_compared w kept cs None = look_files w kept cs

abbrev pub look_found : Wanted → List ℕ → List Content → Result (List Path) Limit → Protocol Looked
look_found w kept cs (Err limit) = damaged Extra
look_found w kept cs (Ok found) = look_compared w kept cs (difference_of found (places_of w.entry cs))

abbrev pub look_listed : Wanted → List ℕ → Option (List Content) → Protocol Looked
look_listed w kept None = damaged Contents
look_listed w kept (Some cs) = walk_of walk_limits w.entry >>= look_found w kept cs

abbrev pub list_told : Result (List ℕ) Refusal → Option (List Content)
list_told (Ok bytes) = contents_in bytes
list_told (Err r) = None

abbrev pub look_contents : Wanted → List ℕ → Protocol Looked
look_contents w kept = asks (read_of (contents_at w.entry) most_list) (λ reply. look_listed w kept (list_told reply))

abbrev pub look_kept : Wanted → Result (List ℕ) Refusal → Protocol Looked
look_kept w (Ok kept) = if bytes_eq (sha256 kept) w.hash then look_contents w kept else damaged Text
look_kept w (Err r) = damaged Text

abbrev pub look_text : Wanted → Protocol Looked
look_text w = asks (read_of (text_at w.entry) (most_text w)) (look_kept w)

abbrev pub look_stands : Wanted → Result Kind Refusal → Protocol Looked
look_stands w (Ok is_file) = damaged Text
look_stands w (Ok is_folder) = look_text w
look_stands w (Ok is_absent) = ends (Ok Absent)
look_stands w (Err r) = ends (Ok Absent)

unfoldable pub look_of : Wanted → Protocol Looked
look_of w = asks (kind_of w.entry) (look_stands w)
