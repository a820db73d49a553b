-- What files of a tree mean.
use Rattle.std.specs.Prelude.{◌≡◌, ℕ, Bool, true, false, List, Option, Some, option_map, Result, Ok, Err}
use Rattle.vk_spec.specs.Paths.{Path}
use Rattle.vk_spec.specs.Files.{Files}
use Rattle.vk_spec.specs.Earlies as early
use Rattle.vk_spec.specs.Earlies.{Early}
use Rattle.vk_spec.specs.Pages as page
use Rattle.vk_spec.specs.Pages.{Wrong}
use Rattle.vk_json.specs.declared.faults.FileFault.{FileFault}
use Rattle.vk_json.specs.Places.{here}
use Rattle.vk_json.specs.Words.{word_of}
use Rattle.vk_json.specs.declared.faults.Why.{Why}
use Rattle.vk_json.specs.declared.faults.Why.TheVariants as why
use Rattle.vk_files.specs.Kept.{Seen, absent, too_large, holds, seen_at}
use Rattle.vk_files.specs.declared.bad_files.BadFile.{BadFile}

-- a file that isn't as it has to be: its path, the place in it, and why
pub record Bad : Type 0 where
  pub path : Path
  pub place : List ℕ
  pub why : Why

abbrev pub bad_view : BadFile → Bad
bad_view bad = record { path = bad.path; place = bad.place; why = bad.why }

-- a bad file as an early line, and as what is wrong with a port
abbrev pub early_of : Bad → Early
early_of bad = early.bad_file bad.path bad.place (word_of bad.why)

abbrev pub wrong_of : Bad → Wrong
wrong_of bad = page.bad_file bad.path bad.place (word_of bad.why)

-- a fault with its file
abbrev pub bad_at : Path → FileFault → Bad
bad_at path fault = record { path = path; place = fault.place; why = fault.why }

abbrev pub told_at : {A : Type 0} → Path → Result A FileFault → Result A Bad
told_at path (Ok x) = Ok x
told_at path (Err fault) = Err (bad_at path fault)

-- a bad file, told so
abbrev pub or_told : {A P : Type 0} → (Bad → P) → Result A Bad → Result A P
or_told told (Ok x) = Ok x
or_told told (Err bad) = Err (told bad)

-- this tells that fault of that file, where there is one to tell
abbrev pub IsFaultOf : {P : Type 0} → (Bad → P) → Path → Option FileFault → P → Type 0
IsFaultOf told path fault seen = option_map (λ f. told (bad_at path f)) fault ≡ Some seen

-- how a file stands: it isn't there, it is too long, or it can be read
pub data Standing : Type 0 where
  missing : Standing
  too_long : Standing
  readable : Standing

-- what the file means that was seen
abbrev pub seen_file : {A : Type 0} → (List ℕ → Result A FileFault) → Seen → Result A FileFault
seen_file reading absent = Err (here why.Absent)
seen_file reading too_large = Err (here why.Large)
seen_file reading (holds bytes) = reading bytes

-- what the file at a path means: it has to be there, and no longer than the longest that is read
abbrev pub file_at : {A : Type 0} → (List ℕ → Result A FileFault) → Path → Files → Result A Bad
file_at reading path files = told_at path (seen_file reading (seen_at path files))

-- the same, or its bad file, told so
abbrev pub file_as : {A P : Type 0} → (Bad → P) → (List ℕ → Result A FileFault) → Path → Files → Result A P
file_as told reading path files = or_told told (file_at reading path files)

abbrev pub standing_by : Seen → Standing
standing_by absent = missing
standing_by too_large = too_long
standing_by (holds bytes) = readable

abbrev pub standing_at : Path → Files → Standing
standing_at path files = standing_by (seen_at path files)

-- a file stands there, be it too long or not
abbrev pub is_there : Standing → Bool
is_there missing = false
is_there too_long = true
is_there readable = true

abbrev pub is_at : Files → Path → Bool
is_at files path = is_there (standing_at path files)
