-- The registry that an object is.
use Rattle.std.specs.Prelude.{ℕ, List, [], Option, Some, None, Ok, codes, if◌then◌else◌}
use Rattle.std.specs.Str.{bytes_eq}
use Rattle.vk_spec.specs.Reading.{◌>>=◌, or_fault}
use Rattle.vk_json.specs.declared.faults.Why.TheVariants as why
use Rattle.vk_json.specs.Places.{here}
use Rattle.vk_json.specs.Readings.{Reading, text_at, object_at, wanted, optional_or, each_item}
use Rattle.vk_fields.specs.Texts.{path_at}
use Rattle.vk_config.specs.Configs.{Pattern, Source, Registry, filesystem, git, builtin, artifact}
use Rattle.vk_config.specs.Patterns.{pattern_at}

pub data Kind : Type 0 where
  in_folder : Kind
  in_git : Kind
  built_in : Kind
  of_artifacts : Kind

-- the kind of this word
abbrev pub kind_of : List ℕ → Option Kind
kind_of word =
    if bytes_eq word (codes "filesystem") then Some in_folder else
    if bytes_eq word (codes "git") then Some in_git else
    if bytes_eq word (codes "builtin") then Some built_in else
    if bytes_eq word (codes "artifact") then Some of_artifacts else None

abbrev pub kind_at : Reading Kind
kind_at d = text_at d >>= λ word. or_fault (here why.Kind) (kind_of word)

-- a folder, with the baseline `default` where no other is named
unfoldable pub folder_in : Reading Source
folder_in d = do
  path ← wanted path_at (codes "path") d
  baseline ← optional_or (codes "default") text_at (codes "baseline") d
  Ok (filesystem path baseline)

-- of any other kind nothing else is read
abbrev pub source_by : Kind → Reading Source
source_by in_folder d = folder_in d
source_by in_git d = Ok git
source_by built_in d = Ok builtin
source_by of_artifacts d = Ok artifact

unfoldable pub source_at : Reading Source
source_at d = do
  object ← object_at d
  kind ← wanted kind_at (codes "kind") d
  source_by kind d

-- the patterns of a registry; an artifact registry's aren't looked at
abbrev pub packages_by : Source → Reading (List Pattern)
packages_by artifact d = Ok []
packages_by (filesystem path baseline) d = wanted (each_item pattern_at) (codes "packages") d
packages_by git d = wanted (each_item pattern_at) (codes "packages") d
packages_by builtin d = wanted (each_item pattern_at) (codes "packages") d

unfoldable pub registry_at : Reading Registry
registry_at d = do
  source ← source_at d
  packages ← packages_by source d
  Ok (record { source = source; packages = packages })
