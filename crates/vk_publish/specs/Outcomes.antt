-- What a publishing and a setting aside leave, by their answers and wherever they stop.
use Rattle.std.specs.Prelude.{◌≡◌, ◌<◌, ◌⊎◌, ◌++◌, ℕ, List, None, Result, Ok, Err, IfSome}
use Rattle.vk_spec.specs.Paths.{Path, Begins}
use Rattle.vk_spec.specs.Files.{Files}
use Rattle.vk_spec.specs.States.{State}
use Rattle.vk_spec.specs.Standing.{Disk, disk_of, bare, under, Same, Else, Stands}
use Rattle.vk_spec.specs.Calls.{list_of, Refuses, many}
use Rattle.vk_base.specs.declared.limits.Limit.{Limit}
use Rattle.vk_base.specs.declared.limits.Limit.TheVariants as limit
use Rattle.vk_places.specs.Places.{entry_at, entries_of, tmp_of, tmp_at, damaged_of, damaged_at}
use Rattle.vk_publish.specs.Names.{names_most}
use Rattle.vk_publish.specs.Entries.{Placed, HoldsJust}
use Rattle.vk_publish.specs.declared.answers.Published.{Published}
use Rattle.vk_publish.specs.declared.answers.Published.TheVariants as published
use Rattle.vk_publish.specs.declared.answers.Moved.{Moved}
use Rattle.vk_publish.specs.declared.answers.Moved.TheVariants as moved

-- where the files are told, before and after
abbrev pub Between : (Files → Files → Type 0) → State → State → Type 0
Between R before after = IfSome before.told (λ t. IfSome after.told (λ u. R t.files u.files))

-- no file stands at the cache or above it, nor where it has its folders
pub record IsClear (cache : Path) (d : Disk) : Type 0 where
  pub above : (front rest : Path) → cache ≡ front ++ rest → d front ≡ None
  pub entries : d (entries_of cache) ≡ None
  pub tmp : d (tmp_of cache) ≡ None
  pub damaged : d (damaged_of cache) ≡ None

-- ---- names

-- a folder has more entries than are listed
abbrev pub HasMany : Path → Disk → Type 0
HasMany folder d = Refuses (list_of folder) many d

-- nothing stands at the name with this number, and something at each with a lower one
pub record IsLeastFree (named : ℕ → Path) (d : Disk) (n : ℕ) : Type 0 where
  pub within : n < names_most
  pub free : Same bare (under (named n) d)
  pub least : (m : ℕ) → m < n → Stands d (named m)

-- something stands at each
abbrev pub AreAllTaken : (ℕ → Path) → Disk → Type 0
AreAllTaken named d = (n : ℕ) → n < names_most → Stands d (named n)

-- why no name was free, and that nothing was changed
abbrev pub HasNoName : Limit → Path → (ℕ → Path) → Limit → Files → Files → Type 0
HasNoName full folder named over f g =
    (g ≡ f) × (((over ≡ limit.Entries) × HasMany folder (disk_of f))
    ⊎ ((over ≡ full) × (HasMany folder (disk_of f) → ⊥) × AreAllTaken named (disk_of f)))

-- ---- a publishing

-- the entry is there, and wasn't before; what was made is no longer in its own place
pub record IsPublished (cache : Path) (agent digest : List ℕ) (files : List Placed) (d e : Disk) : Type 0 where
  pub few : HasMany (tmp_of cache) d → ⊥
  pub number : ℕ
  pub name : IsLeastFree (tmp_at cache agent) d number
  pub was : Same bare (under (entry_at cache digest) d)
  pub whole : HoldsJust files (entry_at cache digest) e
  pub gone : Same bare (under (tmp_at cache agent number) e)
  pub others : Else (λ p. Begins (tmp_at cache agent number) p ⊎ Begins (entry_at cache digest) p) d e

-- something stood at the entry, which stays; what was made stays in its own place
pub record IsLeftThere (cache : Path) (agent digest : List ℕ) (files : List Placed) (d e : Disk) : Type 0 where
  pub few : HasMany (tmp_of cache) d → ⊥
  pub number : ℕ
  pub name : IsLeastFree (tmp_at cache agent) d number
  pub was : Stands d (entry_at cache digest)
  pub made : HoldsJust files (tmp_at cache agent number) e
  pub others : Else (Begins (tmp_at cache agent number)) d e

-- by the answer
abbrev pub PublishSays : Path → List ℕ → List ℕ → List Placed → Result Published Limit → Files → Files → Type 0
PublishSays cache agent digest files (Ok published.Now) f g = IsPublished cache agent digest files (disk_of f) (disk_of g)
PublishSays cache agent digest files (Ok published.Already) f g = IsLeftThere cache agent digest files (disk_of f) (disk_of g)
PublishSays cache agent digest files (Ok published.Gone) f g = ⊥
PublishSays cache agent digest files (Err over) f g = HasNoName limit.Tmp (tmp_of cache) (tmp_at cache agent) over f g

-- wherever it stops: the entry is as it was, or whole where nothing stood; all else stays but what is made below one new name of the agent
pub record Publishes (cache : Path) (agent digest : List ℕ) (files : List Placed) (d e : Disk) : Type 0 where
  pub number : ℕ
  pub name : IsLeastFree (tmp_at cache agent) d number
  pub entry : Same (under (entry_at cache digest) d) (under (entry_at cache digest) e) ⊎ (Same bare (under (entry_at cache digest) d) × HoldsJust files (entry_at cache digest) e)
  pub others : Else (λ p. Begins (tmp_at cache agent number) p ⊎ Begins (entry_at cache digest) p) d e

abbrev pub PublishKeeps : Path → List ℕ → List ℕ → List Placed → Files → Files → Type 0
PublishKeeps cache agent digest files f g = (g ≡ f) ⊎ Publishes cache agent digest files (disk_of f) (disk_of g)

-- ---- a setting aside

-- nothing stands at the entry; what stood there stands below a new name of the agent, and all else stays
pub record IsAside (cache : Path) (agent digest : List ℕ) (d e : Disk) : Type 0 where
  pub few : HasMany (damaged_of cache) d → ⊥
  pub number : ℕ
  pub name : IsLeastFree (damaged_at cache agent) d number
  pub gone : Same bare (under (entry_at cache digest) e)
  pub kept : Same (under (entry_at cache digest) d) (under (damaged_at cache agent number) e)
  pub others : Else (λ p. Begins (entry_at cache digest) p ⊎ Begins (damaged_at cache agent number) p) d e

abbrev pub AsideSays : Path → List ℕ → List ℕ → Result Moved Limit → Files → Files → Type 0
AsideSays cache agent digest (Ok moved.Done) f g = IsAside cache agent digest (disk_of f) (disk_of g)
AsideSays cache agent digest (Ok moved.Gone) f g = ⊥
AsideSays cache agent digest (Ok moved.Taken) f g = ⊥
AsideSays cache agent digest (Err over) f g = HasNoName limit.Damaged (damaged_of cache) (damaged_at cache agent) over f g

-- wherever it stops
abbrev pub AsideKeeps : Path → List ℕ → List ℕ → Files → Files → Type 0
AsideKeeps cache agent digest f g = (g ≡ f) ⊎ IsAside cache agent digest (disk_of f) (disk_of g)
