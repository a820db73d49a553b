-- The making of a plan's packages, call by call. For each item in turn: a look at its entry; on a
-- harm the entry is set aside; where it has to be built, the files of its port's folder are gathered,
-- a package is supplied, and this is published.
use Rattle.std.specs.Prelude.{◌-◌, ◌++◌, [], ◌∷◌, ℕ, List, length, Bool, true, false, Option, Some, None, Result, Ok, Err, nat_le, if◌then◌else◌}
use Rattle.std.specs.List.{list_any, sum_by}
use Rattle.std.specs.Str.{bytes_eq}
use Rattle.vk_spec.specs.Paths.{Path}
use Rattle.vk_base.specs.declared.limits.Limit as base
use Rattle.vk_base.specs.declared.limits.Limit.TheVariants.{Bytes}
use Rattle.vk_protocol.specs.Protocols.{Protocol, ends, on_ok, each, ◌>>=◌}
use Rattle.vk_entry.specs.Packages.{File}
use Rattle.vk_gather.specs.Gathers.{gather_of}
use Rattle.vk_look.specs.LookIs.{Wanted, wanted_in}
use Rattle.vk_look.specs.Looks.{Looked, look_of}
use Rattle.vk_look.specs.declared.answers.Harm.{Harm}
use Rattle.vk_look.specs.declared.answers.Look.TheVariants as look
use Rattle.vk_publish.specs.Entries.{entry_files}
use Rattle.vk_publish.specs.Publish.{publish_of}
use Rattle.vk_publish.specs.Aside.{aside_of}
use Rattle.vk_publish.specs.declared.answers.Published.{Published}
use Rattle.vk_publish.specs.declared.answers.Moved.{Moved}
use Rattle.vk_make.specs.declared.answers.Mark.{Mark}
use Rattle.vk_make.specs.declared.answers.Mark.TheVariants.{Restored, Built, Rebuilt}
use Rattle.vk_make.specs.declared.answers.MakeEnd.{MakeEnd}
use Rattle.vk_make.specs.declared.answers.MakeEnd.TheVariants.{Collision, Limit, Refused}
use Rattle.vk_make.specs.declared.answers.MakeItems.{MakeItems}

-- one package to make: the digest of its text, its text, and the folder of its port
pub record Task : Type 0 where
  pub digest : List ℕ
  pub text : List ℕ
  pub folder : Path

-- what is supplied for an item, by its place in the plan and the files of its port's folder; nothing
-- where it is refused
abbrev pub Supplies : Type 0
Supplies = ℕ → List File → Option (List File)

-- the cache, the agent's name, how many bytes a port's folder may have, and all packages together,
-- and what is supplied
pub record Work : Type 0 where
  pub cache : Path
  pub agent : List ℕ
  pub most : ℕ
  pub supplies : Supplies

-- a task, its place in the plan, and how many bytes its package may have
pub record Item : Type 0 where
  pub task : Task
  pub place : ℕ
  pub room : ℕ

-- how an item's package was had, and its files
pub record MadeItem : Type 0 where
  pub mark : Mark
  pub files : List File

abbrev pub OneMade : Type 0
OneMade = Result MadeItem MakeEnd

abbrev pub AllMade : Type 0
AllMade = Result MakeItems MakeEnd

abbrev pub size_of : List File → ℕ
size_of files = sum_by (λ file. length file.bytes) files

-- ---- one item

abbrev pub published : Mark → List File → Result Published base.Limit → OneMade
published mark files (Ok p) = Ok (record { mark = mark; files = files })
published mark files (Err over) = Err (Limit over)

abbrev pub publish_item : Work → Item → Mark → List File → Protocol OneMade
publish_item w i mark files = publish_of w.cache w.agent i.task.digest (entry_files i.task.text files) >>= λ r. ends (published mark files r)

abbrev pub supplied : Work → Item → Mark → Option (List File) → Protocol OneMade
supplied w i mark None = ends (Err Refused)
supplied w i mark (Some files) = if nat_le (size_of files) i.room then publish_item w i mark files else ends (Err (Limit (Bytes w.most)))

abbrev pub gathered : Work → Item → Mark → Result (List File) base.Limit → Protocol OneMade
gathered w i mark (Ok files) = supplied w i mark (w.supplies i.place files)
gathered w i mark (Err over) = ends (Err (Limit over))

abbrev pub build_item : Work → Item → Mark → Protocol OneMade
build_item w i mark = gather_of w.most i.task.folder >>= gathered w i mark

abbrev pub moved : Work → Item → Harm → Result Moved base.Limit → Protocol OneMade
moved w i harm (Ok m) = build_item w i (Rebuilt harm)
moved w i harm (Err over) = ends (Err (Limit over))

abbrev pub rebuild_item : Work → Item → Harm → Protocol OneMade
rebuild_item w i harm = aside_of w.cache w.agent i.task.digest >>= moved w i harm

abbrev pub wanted_for : Work → Item → Wanted
wanted_for w i = wanted_in w.cache i.task.digest i.task.text i.room

abbrev pub looked : Work → Item → Looked → Protocol OneMade
looked w i (Ok (look.Hit files)) = ends (Ok (record { mark = Restored; files = files }))
looked w i (Ok look.Absent) = build_item w i Built
looked w i (Ok (look.Damaged harm)) = rebuild_item w i harm
looked w i (Ok (look.Collision kept)) = ends (Err (Collision i.place))
looked w i (Err over) = ends (Err (Limit (Bytes w.most)))

abbrev pub look_item : Work → Item → Protocol OneMade
look_item w i = look_of (wanted_for w i) >>= looked w i

-- a digest that an earlier item has is no one else's
unfoldable pub item_of : Work → Item → Bool → Protocol OneMade
item_of w i true = ends (Err (Collision i.place))
item_of w i false = look_item w i

-- ---- all items

-- a task, and whether an earlier one has its digest
abbrev pub Planned : Type 0
Planned = Task × Bool

abbrev pub has_digest : List (List ℕ) → List ℕ → Bool
has_digest seen digest = list_any (λ d. bytes_eq d digest) seen

abbrev pub planned_after : List (List ℕ) → List Task → List Planned
planned_after seen [] = []
planned_after seen (t ∷ ts) = (t, has_digest seen t.digest) ∷ planned_after (t.digest ∷ seen) ts

-- the items that are made, and how many bytes more there may be
pub record Have : Type 0 where
  pub items : MakeItems
  pub room : ℕ

abbrev pub next_item : Task → Have → Item
next_item t have = record { task = t; place = length have.items.packages; room = have.room }

abbrev pub with_item : Have → MadeItem → Have
with_item have item = record {
  items = record { made = have.items.made ++ item.mark ∷ []; packages = have.items.packages ++ item.files ∷ [] };
  room = have.room - size_of item.files;
}

abbrev pub add_item : Have → MadeItem → Protocol (Result Have MakeEnd)
add_item have item = ends (Ok (with_item have item))

abbrev pub make_one : Work → Planned → Have → Protocol (Result Have MakeEnd)
make_one w p have = item_of w (next_item p.0 have) p.1 >>= on_ok (add_item have)

abbrev pub none_yet : ℕ → Have
none_yet most = record { items = record { made = []; packages = [] }; room = most }

abbrev pub items_in : Result Have MakeEnd → AllMade
items_in (Ok have) = Ok have.items
items_in (Err why) = Err why

abbrev pub make_from : Work → List Planned → Have → Protocol AllMade
make_from w later have = each (make_one w) later have >>= λ r. ends (items_in r)

unfoldable pub make_of : Work → List Task → Protocol AllMade
make_of w tasks = make_from w (planned_after [] tasks) (none_yet w.most)
