-- The ABI text of an instance in a plan, as it is shown.
use Rattle.std.specs.Prelude.{◌≡◌, ◌++◌, ℕ, List, [], map, slice_get, Option, Some, None, option_map, unwrap_or, Result, Ok, Err, codes}
use Rattle.std.specs.List.{position, zip}
use Rattle.vk_spec.specs.Paths.{Path}
use Rattle.vk_spec.specs.Files.{Files}
use Rattle.vk_spec.specs.Settings.{Setting, Instance}
use Rattle.vk_spec.specs.Standing.{disk_of}
use Rattle.vk_base.specs.declared.limits.Limit.{Limit}
use Rattle.vk_resolution.specs.Settings.{same_instance, inst}
use Rattle.vk_resolution.specs.Lines.{who_text}
use Rattle.vk_resolution.specs.Planning.{Item}
use Rattle.vk_resolution.specs.Outcomes.{planned, refused}
use Rattle.vk_model.specs.declared.projects.Project.{Project}
use Rattle.vk_opening.specs.Layouts.{Layout}
use Rattle.vk_world.specs.VersionFolders.{place_in}
use Rattle.vk_abi.specs.Plans.{Shared, Pair, TextsAre}
use Rattle.vk_app.specs.Resolutions.{Resolution, early, resolved, too_many}
use Rattle.vk_app.specs.Shown.{Shown, told, printed, limit_line, shown_for}

-- what all builds of a project share
abbrev pub shared_of : Project → Setting → Shared
shared_of project setting = record { builder = project.builder; setting = setting; most = project.max_bytes }

-- the place of an instance in a plan, if it is planned
abbrev pub place_of : Instance → List Item → Option ℕ
place_of i items = position (λ item. same_instance item.instance i) items

-- the folders where the versions of items stand
abbrev pub AreFolders : Layout → Files → List Item → List Path → Type 0
AreFolders layout files items folders = map (λ item. place_in layout files item.instance.port item.version) items ≡ map Some folders

-- the texts of a plan's builds, or the limit that one of its folders passes
pub record PlanTells (shared : Shared) (layout : Layout) (files : Files) (items : List Item) (texts : Result (List Pair) Limit) : Type 0 where
  pub folders : List Path
  pub stand : AreFolders layout files items folders
  pub are : TextsAre shared (zip items folders) texts (disk_of files)

-- the lines of an instance that isn't planned
abbrev pub not_planned : Instance → List ℕ
not_planned i = codes "vcpkg-abi 1\nnot-planned " ++ who_text (inst i) ++ codes "\n"

abbrev pub text_at : List Pair → ℕ → List ℕ
text_at pairs k = unwrap_or (option_map (λ p. p.text) (slice_get pairs k)) []

-- the text at a place of the plan, or the limit
abbrev pub shown_at : ℕ → Result (List Pair) Limit → Shown
shown_at k (Ok pairs) = printed 0 (text_at pairs k)
shown_at k (Err limit) = told 6 (limit_line limit)

-- what is shown of an instance in a plan, by its place
abbrev pub ShowsPlaced : Shared → Layout → Files → List Item → Instance → Option ℕ → Shown → Type 0
ShowsPlaced shared layout files items i None shown = shown ≡ printed 1 (not_planned i)
ShowsPlaced shared layout files items i (Some k) shown = (texts : Result (List Pair) Limit) × PlanTells shared layout files items texts × (shown ≡ shown_at k texts)

-- what is shown of an instance in a project that comes to this: where there is no plan, what is shown of the project
abbrev pub ShowsText : Shared → Layout → Files → Instance → Resolution → Shown → Type 0
ShowsText shared layout files i (early e) shown = shown ≡ shown_for (early e)
ShowsText shared layout files i (resolved (planned items reasons)) shown = ShowsPlaced shared layout files items i (place_of i items) shown
ShowsText shared layout files i (resolved (refused lines reasons)) shown = shown ≡ shown_for (resolved (refused lines reasons))
ShowsText shared layout files i (too_many n) shown = shown ≡ shown_for (too_many n)
