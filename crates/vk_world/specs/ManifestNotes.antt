-- The manifests that were found, each by its port and what was asked for.
use Rattle.std.specs.Prelude.{◌≡◌, ℕ, List, map, Option, Some, IsSome, Result, Ok, Err}
use Rattle.std.specs.Map.{lookup}
use Rattle.vk_spec.specs.Files.{Files}
use Rattle.vk_spec.specs.Versions.{Ask}
use Rattle.vk_spec.specs.Manifests.{Manifest}
use Rattle.vk_spec.specs.Pages as plain
use Rattle.vk_spec.specs.Pages.{version_in, manifest_in}
use Rattle.vk_spec.specs.Conditions.{Condition}
use Rattle.vk_version.specs.AskViews.{ask_view}
use Rattle.vk_catalogue.specs.Views.{wrong_view}
use Rattle.vk_model.specs.Views.{manifest_view}
use Rattle.vk_model.specs.declared.wrongs.Wrong.{Wrong}
use Rattle.vk_model.specs.declared.manifests.Manifest as declared
use Rattle.std.specs.declared.rc.Rc.{Rc}
use Rattle.std.specs.declared.boxed.Box.{Box}
use Rattle.vk_files.specs.Notes.{AreRight}
use Rattle.vk_opening.specs.Layouts.{Layout}
use Rattle.vk_pages.specs.Pages.{page_of}
use Rattle.vk_world.specs.PortAsks.{same_asked}
use Rattle.vk_world.specs.declared.manifests.Manifests.{Manifests}
use Rattle.vk_world.specs.declared.port_asks.PortAsk.{PortAsk}

-- a manifest, or what is wrong with it
abbrev pub FoundManifest : Type 0
FoundManifest = Result (Manifest Condition) plain.Wrong

abbrev pub kept_manifest : {Y Z : Type 0} → Result (Rc declared.Manifest Y) (Box Wrong Z) → FoundManifest
kept_manifest (Ok manifest) = Ok (manifest_view manifest.value)
kept_manifest (Err wrong) = Err (wrong_view wrong.value)

-- the ports and asks, each with what was found, in the order in which they were first asked for
abbrev pub manifests_in : Manifests → List (PortAsk × FoundManifest)
manifests_in manifests = map (λ e. (e.0, kept_manifest e.1)) manifests.found.entries

-- what was found for a port and an ask
abbrev pub manifest_noted : PortAsk → Manifests → Option FoundManifest
manifest_noted key manifests = lookup (same_asked key) (manifests_in manifests)

-- it is what the port's page has for the ask, if a version is there
abbrev pub IsManifestOf : Layout → Files → List ℕ → Ask → FoundManifest → Type 0
IsManifestOf layout files port ask found = IsSome (version_in (page_of layout files port) ask) → Some found ≡ manifest_in (page_of layout files port) ask

abbrev pub IsNoteOf : Layout → Files → PortAsk → FoundManifest → Type 0
IsNoteOf layout files key found = IsManifestOf layout files key.port (ask_view key.ask) found

-- the manifests are those of the files
abbrev pub AreManifests : Layout → Manifests → Files → Type 0
AreManifests layout manifests files = AreRight (IsNoteOf layout files) (manifests_in manifests)
