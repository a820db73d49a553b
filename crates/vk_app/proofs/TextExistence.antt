-- An instance has an ABI text, or what is shown in its place, over a tree of files.
use Rattle.std.proofs.Common.{◌≡◌, ◌∷◌, ◌∙◌, ℕ, List, [], map, refl, ap}
use Rattle.std.specs.Prelude.{Option, Some, None, Result}
use Rattle.std.specs.List.{Contains, zip}
use Rattle.vk_spec.specs.Paths.{Path}
use Rattle.vk_spec.specs.Files.{Files, IsTree}
use Rattle.vk_spec.specs.Settings.{Setting, Instance}
use Rattle.vk_spec.proofs.ListLemmas.{contains_first, contains_later}
use Rattle.vk_base.specs.declared.limits.Limit.{Limit}
use Rattle.vk_resolution.specs.Planning.{Item}
use Rattle.vk_resolution.specs.Outcomes.{planned, refused}
use Rattle.vk_opening.specs.Layouts.{Layout}
use Rattle.vk_pages.specs.Homes.{home_of}
use Rattle.vk_pages.specs.Pages.{page_of}
use Rattle.vk_pages.proofs.PageLaws.{is_page}
use Rattle.vk_world.specs.VersionFolders.{place_in}
use Rattle.vk_abi.specs.Plans.{Shared, Pair}
use Rattle.vk_abi.specs.LawsOnPlans.{ArePaths}
use Rattle.vk_abi.proofs.Existence.{texts_exist}
use Rattle.vk_app.specs.Resolutions.{Resolution, early, resolved, too_many, Settles}
use Rattle.vk_app.specs.Shown.{Shown, printed, shown_for}
use Rattle.vk_app.specs.Texts.{place_of, AreFolders, PlanTells, not_planned, shown_at, ShowsPlaced, ShowsText}
use Rattle.vk_app.specs.Folders.{HaveItems}
use Rattle.vk_app.proofs.FolderLemmas.{all_have_versions}
use Rattle.vk_world.proofs.ListedLemmas.{version_stands}

-- ---- folders

-- where each of these has something, there is a list of what they have
all_some : {X Y : Type 0} (f : X → Option Y) (xs : List X) → ((x : X) → Contains xs x → (y : Y) × (f x ≡ Some y)) → (ys : List Y) × (map f xs ≡ map Some ys)
all_some f [] each = ([], refl)
all_some f (x ∷ xs) each =
    let first = each x (contains_first x xs) in
    let rest = all_some f xs (λ y h. each y (contains_later x y xs h)) in
    (first.0 ∷ rest.0, ap (λ o. o ∷ map f xs) first.1 ∙ ap (λ l. Some first.0 ∷ l) rest.1)

folders_exist : (layout : Layout) (files : Files) (items : List Item) → HaveItems (page_of layout files) items → (folders : List Path) × AreFolders layout files items folders
folders_exist layout files items have =
    all_some (λ item. place_in layout files item.instance.port item.version) items (λ item h. version_stands item.instance.port files (home_of layout item.instance.port files) item.version (have item h).listed)

-- ---- what is shown

texts_tell : (shared : Shared) (layout : Layout) (files : Files) (items : List Item) → IsTree files → ArePaths files → HaveItems (page_of layout files) items → (texts : Result (List Pair) Limit) × PlanTells shared layout files items texts
texts_tell shared layout files items tree paths have =
    let folders = folders_exist layout files items have in
    let texts = texts_exist shared (zip items folders.0) files tree paths in
    (texts.0, record { folders = folders.0; stand = folders.1; are = texts.1 })

some_placed : (shared : Shared) (layout : Layout) (files : Files) (items : List Item) (i : Instance) (place : Option ℕ) → IsTree files → ArePaths files → HaveItems (page_of layout files) items → (shown : Shown) × ShowsPlaced shared layout files items i place shown
some_placed shared layout files items i None tree paths have = (printed 1 (not_planned i), refl)
some_placed shared layout files items i (Some k) tree paths have =
    let texts = texts_tell shared layout files items tree paths have in
    (shown_at k texts.0, (texts.0, texts.1, refl))

pub some_text : (shared : Shared) (setting : Setting) (layout : Layout) (files : Files) (i : Instance) (r : Resolution) → IsTree files → ArePaths files → Settles setting (page_of layout files) r → (shown : Shown) × ShowsText shared layout files i r shown
some_text shared setting layout files i (early e) tree paths settles = (shown_for (early e), refl)
some_text shared setting layout files i (resolved (planned items reasons)) tree paths settles =
    some_placed shared layout files items i (place_of i items) tree paths (all_have_versions setting (page_of layout files) items reasons (is_page layout files) settles.0)
some_text shared setting layout files i (resolved (refused lines reasons)) tree paths settles = (shown_for (resolved (refused lines reasons)), refl)
some_text shared setting layout files i (too_many n) tree paths settles = (shown_for (too_many n), refl)
