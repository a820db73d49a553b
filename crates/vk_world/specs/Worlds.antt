-- What is known of a world over a tree of files.
use Rattle.std.specs.Prelude.{◌≡◌, ◌≤◌, ◌++◌, ◌-◌, ℕ, List, [], length, map, take, drop}
use Rattle.std.specs.Prelude.{Option, Some, None, option_map, IfSome, IsSome}
use Rattle.std.specs.List.{Contains}
use Rattle.vk_spec.specs.Lists.{NoRepeats}
use Rattle.vk_spec.specs.Paths.{Path}
use Rattle.vk_spec.specs.States.{Told, State, with_asked}
use Rattle.vk_spec.specs.Manifests.{Override}
use Rattle.vk_spec.specs.Catalogues.{Pages, Places, Origin, CatalogueState}
use Rattle.vk_spec.specs.Conditions.{Condition}
use Rattle.vk_files.specs.Kept.{Kept, Held, paths_of}
use Rattle.vk_files.specs.Views.{ArchiveView, held}
use Rattle.vk_config.specs.Configs.{Config}
use Rattle.vk_config.specs.Views.{config_view}
use Rattle.vk_opening.specs.Layouts.{Layout}
use Rattle.vk_opening.specs.Views.{overlay_view}
use Rattle.vk_opening.specs.declared.layouts.Overlay.{Overlay}
use Rattle.vk_pages.specs.Pages.{page_of}
use Rattle.vk_pages.specs.Asked.{page_paths}
use Rattle.vk_world.specs.Libraries.{layout_of, IsRight}
use Rattle.vk_world.specs.VersionFolders.{place_in}
use Rattle.vk_world.specs.declared.libraries.Library.{Library}

-- what a world learned: what is known of the project, with its overlays as they are kept, and how many paths opening had looked at
pub record Learned : Type 0 where
  pub folder : Path
  pub config : Config
  pub overlays : List Overlay
  pub overrides : List Override
  pub opened : ℕ

abbrev pub learned_view : Library → Learned
learned_view lib = record { folder = lib.layout.folder; config = config_view lib.layout.config; overlays = lib.layout.overlays; overrides = lib.layout.overrides; opened = lib.opened }

-- what is known of the project
abbrev pub layout_in : Learned → Layout
layout_in l = record { folder = l.folder; config = l.config; overlays = map overlay_view l.overlays; overrides = l.overrides }

-- the paths that opening had looked at, so many
abbrev pub opened_in : ℕ → Kept → List Path
opened_in opened kept = take opened (paths_of kept)

-- those that were looked at since the opening
abbrev pub asked_since : ℕ → Kept → List Path
asked_since opened kept = drop opened (paths_of kept)

-- a log without so many of its last paths
abbrev pub log_before : List Path → List Path → List Path
log_before asked log = take (length log - length asked) log

-- what a tree told before these paths were looked at last
abbrev pub without_asked : List Path → Told → Told
without_asked asked t = record { files = t.files; log = log_before asked t.log }

-- where versions stand, by what a tree tells
abbrev pub places_in : Layout → Option Told → Places
places_in layout None port v = None
places_in layout (Some t) port v = place_in layout t.files port v

-- the paths of which a port's page may be read, by what a tree tells
abbrev pub page_paths_in : Layout → Option Told → List ℕ → List Path
page_paths_in layout None port = []
page_paths_in layout (Some t) port = page_paths layout t.files port

-- each of these is one of the paths of the page of some text, be it a port's name or not
abbrev pub ArePagePaths : (List ℕ → List Path) → List Path → Type 0
ArePagePaths paths asked = (p : Path) → Contains asked p → (port : List ℕ) × Contains (paths port) p

-- what a world comes from that is made on this tree with this layout, when these paths were read
abbrev pub origin_on : Layout → List Path → State → Origin
origin_on layout opened tree = record {
  told = tree.told;
  changes = tree.changes;
  opened = opened;
  places = places_in layout tree.told;
  page_paths = page_paths_in layout tree.told;
}

-- files, changes, places and the paths of pages stay as they were when the world was made, and the log was that of now
-- without what was looked at since
abbrev pub origin_of : Learned → Held → Origin
origin_of l held = record {
  told = option_map (without_asked (asked_since l.opened held.kept)) held.tree.told;
  changes = held.tree.changes;
  opened = opened_in l.opened held.kept;
  places = places_in (layout_in l) held.tree.told;
  page_paths = page_paths_in (layout_in l) held.tree.told;
}

-- the pages are those of the files
abbrev pub pages_in : Layout → Option Told → Option (Pages Condition)
pages_in layout told = option_map (λ t. page_of layout t.files) told

abbrev pub world_state : Held → Learned → CatalogueState Condition
world_state held l = record {
  pages = pages_in (layout_in l) held.tree.told;
  origin = origin_of l held;
  calls = held.tree.calls;
  faults = held.tree.faults;
  sure = held.tree.sure;
}

-- what contracts see of a world: its archive, and what was learned of it
pub record WorldView (T : Type 0) : Type 0 where
  pub archive : ArchiveView T
  pub learned : Learned

-- what is known of a world as a catalogue, by what is known of its tree
abbrev pub state_of : {T : Type 0} → (T → State) → WorldView T → CatalogueState Condition
state_of state w = world_state (held state w.archive) w.learned

-- what was learned is right of what the tree tells, whose log ends with what was looked at since, of
-- which each path is one of a port's page
pub record IsSoundOn (lib : Library) (kept : Kept) (t : Told) : Type 0 where
  pub right : IsRight lib t.files
  pub before : List Path
  pub log : t.log ≡ before ++ asked_since lib.opened kept
  pub within : ArePagePaths (page_paths (layout_of lib) t.files) (asked_since lib.opened kept)

-- what every world keeps
pub record IsSound (held : Held) (lib : Library) : Type 0 where
  pub opened : lib.opened ≤ length (paths_of held.kept)
  pub told : IfSome held.tree.told (IsSoundOn lib held.kept)

-- since then these paths were looked at, none of them twice or by opening too, and nothing else was
-- done; where files are told, each is one of the paths of some port's page
pub record IsReadSince (origin : Origin) (tree : State) : Type 0 where
  pub asked : List Path
  pub told : tree.told ≡ with_asked asked origin.told
  pub changes : tree.changes ≡ origin.changes
  pub distinct : NoRepeats (origin.opened ++ asked)
  pub within : IsSome origin.told → ArePagePaths origin.page_paths asked
