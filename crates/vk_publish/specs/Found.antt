-- What is published is found by a look.
use Rattle.std.specs.Prelude.{◌≡◌, ◌≤◌, ℕ, List, length, map, Ok}
use Rattle.std.specs.List.{All}
use Rattle.sha2.specs.Sha256.{sha256}
use Rattle.vk_spec.specs.Paths.{Path}
use Rattle.vk_spec.specs.Standing.{Disk}
use Rattle.vk_walk.specs.Walks.{IsCalm}
use Rattle.vk_walk.specs.Walked.{walk_limits}
use Rattle.vk_entry.specs.Packages.{File, IsPackage}
use Rattle.vk_entry.specs.Contents.{content_of, contents_text}
use Rattle.vk_entry.specs.ContentLists.{IsListable}
use Rattle.vk_places.specs.Places.{entry_at}
use Rattle.vk_look.specs.LookIs.{Wanted, IsValid, LookIs, bytes_listed, most_list, most_text, wanted_in}
use Rattle.vk_look.specs.declared.answers.Look.TheVariants.{Hit}
use Rattle.vk_publish.specs.Entries.{entry_files, HoldsJust}

-- a package that a contents list can tell, which is not too long
pub record IsTellable (files : List File) : Type 0 where
  pub order : IsPackage files
  pub each : All IsListable files
  pub short : length (contents_text (map content_of files)) ≤ most_list

-- just a text and such a package stand there, and a walk passes no limit
pub record HoldsWhole (text : List ℕ) (files : List File) (entry : Path) (d : Disk) : Type 0 where
  pub tellable : IsTellable files
  pub just : HoldsJust (entry_files text files) entry d
  pub calm : IsCalm walk_limits d entry

-- such an entry is valid for whoever wants this hash
abbrev pub WholeIsValid : Type 0
WholeIsValid =
    (w : Wanted) (text : List ℕ) (files : List File) (d : Disk)
    → HoldsWhole text files w.entry d → sha256 text ≡ w.hash → length text ≤ most_text w
    → IsValid w text (map content_of files) files d

-- who wants its text finds the package, where its files have no more bytes than they may have
abbrev pub WholeIsHit : Type 0
WholeIsHit =
    (cache : Path) (text : List ℕ) (files : List File) (most : ℕ) (d : Disk)
    → HoldsWhole text files (entry_at cache (sha256 text)) d → bytes_listed (map content_of files) ≤ most
    → LookIs (wanted_in cache (sha256 text) text most) (Ok (Hit files)) d
