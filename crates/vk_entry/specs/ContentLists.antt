-- Which bytes are a contents list, and where other bytes first break one.
use Rattle.std.specs.Prelude.{◌≡◌, ◌≢◌, ◌<◌, ◌+◌, ◌^◌, ◌++◌, ◌∷◌, ◌⊎◌, [], ℕ, List, length, map}
use Rattle.std.specs.Prelude.{flat_map, codes, Option, Some, None}
use Rattle.std.specs.List.{All}
use Rattle.std.specs.List.Sorted.{IsStrictlySortedBy}
use Rattle.std.specs.Ordering.{nat_cmp}
use Rattle.std.specs.Cmp.Lexicographic.{slice_cmp}
use Rattle.hex.specs.Hex.{IsBytes}
use Rattle.vk_spec.specs.Paths.{Path}
use Rattle.vk_base.specs.Paths.{Lacks, text_of_path}
use Rattle.vk_resolution.specs.Lines.{ended}
use Rattle.vk_forms.specs.Paths.{IsRightPath}
use Rattle.vk_entry.specs.Packages.{File, IsPackagePath}
use Rattle.vk_entry.specs.Contents.{Content, content_text, contents_text, opening}
use Rattle.vk_entry.specs.declared.reading.EntryFault.{EntryFault}
use Rattle.vk_entry.specs.declared.reading.EntryFault.TheVariants.{Line, Order, End}

-- a package's path with a text of at most 4,096 bytes
abbrev pub IsListedPath : Path → Type 0
IsListedPath path = IsRightPath path × IsPackagePath path

abbrev pub IsSize : ℕ → Type 0
IsSize n = n < 2 ^ 64

abbrev pub IsDigest : List ℕ → Type 0
IsDigest digest = IsBytes digest × (length digest ≡ 32)

-- what the line of a file may say
pub record IsContent (c : Content) : Type 0 where
  pub path : IsListedPath c.path
  pub size : IsSize c.size
  pub digest : IsDigest c.digest

-- a file of a package that such a line can tell
pub record IsListable (file : File) : Type 0 where
  pub path : IsListedPath file.path
  pub size : IsSize (length file.bytes)

-- the texts of the paths ascend, so none stands twice
abbrev pub Ascend : List Content → Type 0
Ascend cs = IsStrictlySortedBy (slice_cmp nat_cmp) (map (λ c. text_of_path c.path) cs)

pub record AreContents (cs : List Content) : Type 0 where
  pub each : All IsContent cs
  pub order : Ascend cs

-- the bytes are the list of these files
abbrev pub IsList : List ℕ → List Content → Type 0
IsList bytes cs = (bytes ≡ contents_text cs) × AreContents cs

-- ---- where bytes break the list

-- what stands before a place: no line yet, or the first one and those of these files
abbrev pub lines_before : Option (List Content) → List (List ℕ)
lines_before None = []
lines_before (Some cs) = opening cs

abbrev pub AreBefore : Option (List Content) → Type 0
AreBefore None = Unit {0}
AreBefore (Some cs) = AreContents cs

-- a line of the form that lines have there: the first one, then those of files and the last one
abbrev pub HasForm : Option (List Content) → List ℕ → Type 0
HasForm None line = line ≡ codes "contents 1"
HasForm (Some cs) line =
    (line ≡ codes "end") ⊎ ((c : Content) × IsContent c × (line ≡ content_text c))

-- the bytes begin with this line, or are all of it without a line feed
abbrev pub BeginsWith : List ℕ → List ℕ → Type 0
BeginsWith bytes line =
    ((more : List ℕ) × (bytes ≡ ended line ++ more)) ⊎ ((bytes ≡ line) × (line ≢ []))

-- the line with this number has no form, and those before it are right
pub record HasWrongLine (bytes : List ℕ) (n : ℕ) : Type 0 where
  pub before : Option (List Content)
  pub line : List ℕ
  pub left : List ℕ
  pub right : AreBefore before
  pub split : bytes ≡ flat_map ended (lines_before before) ++ left
  pub next : BeginsWith left line
  pub whole : Lacks 10 line
  pub wrong : HasForm before line → ⊥
  pub number : n ≡ length (lines_before before) + 1

-- the path of the line with this number isn't above the one before it; the lines before are right
pub record HasWrongOrder (bytes : List ℕ) (n : ℕ) : Type 0 where
  pub before : List Content
  pub next : Content
  pub more : List ℕ
  pub right : AreContents before
  pub fine : IsContent next
  pub split : bytes ≡ flat_map ended (opening before) ++ (ended (content_text next) ++ more)
  pub wrong : Ascend (before ++ next ∷ []) → ⊥
  pub number : n ≡ length (opening before) + 1

-- all lines are right, and nothing follows, or a line without its line feed
pub record HasNoEnd (bytes : List ℕ) : Type 0 where
  pub before : Option (List Content)
  pub last : List ℕ
  pub right : AreBefore before
  pub split : bytes ≡ flat_map ended (lines_before before) ++ last
  pub whole : Lacks 10 last
  pub form : (last ≡ []) ⊎ HasForm before last

-- something follows a list
pub record GoesOn (bytes : List ℕ) : Type 0 where
  pub contents : List Content
  pub more : List ℕ
  pub right : AreContents contents
  pub split : bytes ≡ contents_text contents ++ more
  pub some : more ≢ []

abbrev pub IsRefused : List ℕ → EntryFault → Type 0
IsRefused bytes (Line n) = HasWrongLine bytes n
IsRefused bytes (Order n) = HasWrongOrder bytes n
IsRefused bytes End = HasNoEnd bytes ⊎ GoesOn bytes
