-- Whether a manifest says what is said of it.
use Rattle.std.specs.Prelude.{ℕ, List, [], Option, Some, None, Result, Ok, Err, codes, decimal, bytes_eq, if◌then◌else◌}
use Rattle.vk_spec.specs.Paths.{Path}
use Rattle.vk_spec.specs.Reading.{◌>>=◌, or_fault}
use Rattle.vk_spec.specs.Versions.{Class, dot, date, text, Version}
use Rattle.vk_spec.specs.Manifests.{Manifest}
use Rattle.vk_spec.specs.Pages as the
use Rattle.vk_spec.specs.Pages.{Wrong, bad_file, disagrees, Field}
use Rattle.vk_spec.specs.Conditions.{Condition}
use Rattle.vk_json.specs.Words.{word_of}
use Rattle.vk_json.specs.declared.faults.Why.TheVariants as why

-- the printed word of a class
abbrev pub class_word : Class → List ℕ
class_word dot = codes "dot"
class_word date = codes "date"
class_word text = codes "text"

-- a name that may be missing, as it is printed; every port's is there
abbrev pub name_text : Option (List ℕ) → List ℕ
name_text None = []
name_text (Some name) = name

-- both texts are one, or the manifest disagrees in this field
abbrev pub same_in : Path → Field → List ℕ → List ℕ → Result (Unit {0}) Wrong
same_in path field said found = if bytes_eq said found then Ok tt else Err (disagrees path field said found)

-- the manifest is the port's
abbrev pub named : Path → List ℕ → Manifest Condition → Result (Unit {0}) Wrong
named path port m = same_in path the.name port (name_text m.name)

-- the version of a port's manifest; every port's has one
abbrev pub stated_version : Path → Manifest Condition → Result Version Wrong
stated_version path m = or_fault (bad_file path [] (word_of why.NoVersion)) m.version

-- the first of class, text and port-version that differs is told
unfoldable pub version_agrees : Path → Version → Version → Result (Unit {0}) Wrong
version_agrees path said found = do
  one_class ← same_in path the.class (class_word said.class) (class_word found.class)
  one_text ← same_in path the.text said.text found.text
  same_in path the.port (decimal said.port) (decimal found.port)

-- the manifest is the port's, and then it is at the version
unfoldable pub agreeing : Path → List ℕ → Version → Manifest Condition → Result (Unit {0}) Wrong
agreeing path port version m = do
  same_name ← named path port m
  found ← stated_version path m
  version_agrees path version found
