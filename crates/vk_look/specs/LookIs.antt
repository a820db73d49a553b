-- What a look at an entry of a cache answers, by the files: no word of how it is done.
use Rattle.std.specs.Prelude.{◌≡◌, ◌≢◌, ◌≤◌, ◌<◌, ◌⊎◌, ◌++◌, ◌∷◌, ℕ, max, List, length, map}
use Rattle.std.specs.Prelude.{Some, None, Result, Ok, Err}
use Rattle.std.specs.List.{Contains, sum_by}
use Rattle.sha2.specs.Sha256.{sha256}
use Rattle.vk_spec.specs.Paths.{Path, Begins}
use Rattle.vk_spec.specs.Standing.{Disk, IsFile, IsFolder, Stands}
use Rattle.vk_base.specs.declared.limits.Limit as base
use Rattle.vk_base.specs.declared.limits.Limit.TheVariants.{Bytes}
use Rattle.vk_walk.specs.Walks.{Limit, IsFirst, IsCalm}
use Rattle.vk_walk.specs.Walked.{walk_limits}
use Rattle.vk_entry.specs.Packages.{File}
use Rattle.vk_entry.specs.Contents.{Content, content_of}
use Rattle.vk_entry.specs.ContentLists.{IsList}
use Rattle.vk_places.specs.Places.{entry_at, text_at, contents_at, file_at}
use Rattle.vk_look.specs.declared.answers.Harm.{Harm}
use Rattle.vk_look.specs.declared.answers.Harm.TheVariants.{Text, Contents, Extra, Missing, Size, Hash}
use Rattle.vk_look.specs.declared.answers.Look.{Look}
use Rattle.vk_look.specs.declared.answers.Look.TheVariants.{Hit, Absent, Damaged, Collision}

-- what is looked for: where its entry stands, its hash, its text, and how many bytes its files may have
pub record Wanted : Type 0 where
  pub entry : Path
  pub hash : List ℕ
  pub text : List ℕ
  pub most : ℕ

-- what is looked for in a cache
abbrev pub wanted_in : Path → List ℕ → List ℕ → ℕ → Wanted
wanted_in cache hash text most = record { entry = entry_at cache hash; hash = hash; text = text; most = most }

-- the most bytes of a contents list, and of a text that is longer than the wanted one
abbrev pub most_list : ℕ
most_list = 67108864

abbrev pub most_text : Wanted → ℕ
most_text w = max most_list (length w.text)

-- how many bytes the listed files have
abbrev pub bytes_listed : List Content → ℕ
bytes_listed cs = sum_by (λ c. c.size) cs

-- ---- the parts of an entry

-- the entry is a folder with this text: of the wanted hash, and not too long
pub record HasText (w : Wanted) (kept : List ℕ) (d : Disk) : Type 0 where
  pub folder : IsFolder d w.entry
  pub stands : d (text_at w.entry) ≡ Some kept
  pub short : length kept ≤ most_text w
  pub hashed : sha256 kept ≡ w.hash

-- its contents list has these files, and is not too long
pub record HasList (entry : Path) (cs : List Content) (d : Disk) : Type 0 where
  pub bytes : List ℕ
  pub stands : d (contents_at entry) ≡ Some bytes
  pub short : length bytes ≤ most_list
  pub list : IsList bytes cs

-- where an entry with these files has them, and its text and its contents list
abbrev pub file_places : Path → List Content → List Path
file_places entry cs = map (λ c. file_at entry c.path) cs

abbrev pub places_of : Path → List Content → List Path
places_of entry cs = text_at entry ∷ contents_at entry ∷ file_places entry cs

-- a file stands elsewhere below it, or a walk of it passes a limit
abbrev pub HasExtra : Path → List Content → Disk → Type 0
HasExtra entry cs d =
    ((q : Path) × IsFile d q × Begins entry q × (Contains (places_of entry cs) q → ⊥)) ⊎ ((limit : Limit) × IsFirst walk_limits d entry limit)

-- a listed file isn't there
abbrev pub HasMissing : Path → List Content → Disk → Type 0
HasMissing entry cs d = (c : Content) × Contains cs c × (d (file_at entry c.path) ≡ None)

-- a walk passes no limit, and exactly the listed files are there, the text and the contents list
pub record HasAll (entry : Path) (cs : List Content) (d : Disk) : Type 0 where
  pub calm : IsCalm walk_limits d entry
  pub only : (q : Path) → IsFile d q → Begins entry q → Contains (places_of entry cs) q
  pub there : (c : Content) → Contains cs c → IsFile d (file_at entry c.path)

-- a file that is as it is listed
pub record IsAsListed (entry : Path) (c : Content) (file : File) (d : Disk) : Type 0 where
  pub stands : d (file_at entry file.path) ≡ Some file.bytes
  pub listed : content_of file ≡ c

-- a file that isn't: it has another size, or else another digest
abbrev pub IsWrong : Harm → Path → Content → Disk → Type 0
IsWrong Text entry c d = ⊥
IsWrong Contents entry c d = ⊥
IsWrong Extra entry c d = ⊥
IsWrong Missing entry c d = ⊥
IsWrong Size entry c d = (bytes : List ℕ) × (d (file_at entry c.path) ≡ Some bytes) × (length bytes ≢ c.size)
IsWrong Hash entry c d = (bytes : List ℕ) × (d (file_at entry c.path) ≡ Some bytes) × (length bytes ≡ c.size) × (sha256 bytes ≢ c.digest)

-- the first listed file that isn't as it is listed, and how
pub record FirstWrong (harm : Harm) (entry : Path) (cs : List Content) (d : Disk) : Type 0 where
  pub before : List Content
  pub at : Content
  pub later : List Content
  pub split : cs ≡ before ++ at ∷ later
  pub right : (c : Content) → Contains before c → (file : File) × IsAsListed entry c file d
  pub wrong : IsWrong harm entry at d

-- these are the listed files
pub record Holds (entry : Path) (cs : List Content) (files : List File) (d : Disk) : Type 0 where
  pub stand : (file : File) → Contains files file → d (file_at entry file.path) ≡ Some file.bytes
  pub listed : map content_of files ≡ cs

-- the entry is valid for the hash: it has this text and these files
pub record IsValid (w : Wanted) (kept : List ℕ) (cs : List Content) (files : List File) (d : Disk) : Type 0 where
  pub kept_is : HasText w kept d
  pub listed : HasList w.entry cs d
  pub all : HasAll w.entry cs d
  pub holds : Holds w.entry cs files d

-- ---- what a look answers

-- the entry has a text and a list
pub record IsRead (w : Wanted) (cs : List Content) (d : Disk) : Type 0 where
  pub kept : List ℕ
  pub kept_is : HasText w kept d
  pub listed : HasList w.entry cs d

abbrev pub IsHarm : Wanted → Harm → Disk → Type 0
IsHarm w Text d = IsFile d w.entry ⊎ (IsFolder d w.entry × ((kept : List ℕ) → HasText w kept d → ⊥))
IsHarm w Contents d = (kept : List ℕ) × HasText w kept d × ((cs : List Content) → HasList w.entry cs d → ⊥)
IsHarm w Extra d = (cs : List Content) × IsRead w cs d × HasExtra w.entry cs d
IsHarm w Missing d = (cs : List Content) × IsRead w cs d × (HasExtra w.entry cs d → ⊥) × HasMissing w.entry cs d
IsHarm w Size d = (cs : List Content) × IsRead w cs d × HasAll w.entry cs d × FirstWrong Size w.entry cs d
IsHarm w Hash d = (cs : List Content) × IsRead w cs d × HasAll w.entry cs d × FirstWrong Hash w.entry cs d

-- the answer, or that a valid entry of the text lists more bytes than it may have
abbrev pub LookIs : Wanted → Result Look base.Limit → Disk → Type 0
LookIs w (Ok Absent) d = Stands d w.entry → ⊥
LookIs w (Ok (Damaged harm)) d = IsHarm w harm d
LookIs w (Ok (Collision kept)) d = (cs : List Content) × (files : List File) × IsValid w kept cs files d × (kept ≢ w.text)
LookIs w (Ok (Hit files)) d = (cs : List Content) × IsValid w w.text cs files d × (bytes_listed cs ≤ w.most)
LookIs w (Err limit) d =
    (cs : List Content) × (files : List File) × IsValid w w.text cs files d × (w.most < bytes_listed cs) × (limit ≡ Bytes w.most)
