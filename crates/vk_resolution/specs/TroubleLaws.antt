-- What the troubles of the first phase mean: the table, a line each.
use Rattle.std.specs.Prelude.{◌≡◌, ◌≢◌, ℕ, List, Some, None, Ok, Err}
use Rattle.std.specs.List.{Contains}
use Rattle.vk_spec.specs.Paths.{Path}
use Rattle.vk_spec.specs.Versions.{Version, Ask}
use Rattle.vk_spec.specs.Pages.{Field, no_registry, no_baseline, bad_file, disagrees, Given, overlay}
use Rattle.vk_spec.specs.Catalogues.{ArePages}
use Rattle.vk_spec.specs.Settings.{Instance}
use Rattle.vk_resolution.specs.Settings.{inst}
use Rattle.vk_resolution.specs.Givens.{version_at, manifest_at}
use Rattle.vk_resolution.specs.Asking.{Fact, need, floor, visit}
use Rattle.vk_resolution.specs.Consequences.{Inputs}
use Rattle.vk_resolution.specs.Faults.{Trouble, lacks_registry, lacks_baseline, unreadable, lacks_version, differs, troubles_of}

-- a need meets what is wrong with the given version of its port, a visit what is wrong with its manifest, and a floor that the table lacks its version, where the given version was found and is no overlay's
pub data IsTrouble (inputs : Inputs) : Fact → Trouble → Type 0 where
  no_registry_serves : (i : Instance) (f : List ℕ) → (inputs.pages i.port).given ≡ Err no_registry → IsTrouble inputs (need (inst i) f) (lacks_registry i.port)
  no_baseline_has : (i : Instance) (f : List ℕ) → (inputs.pages i.port).given ≡ Err no_baseline → IsTrouble inputs (need (inst i) f) (lacks_baseline i.port)
  given_is_bad : (i : Instance) (f : List ℕ) (path : Path) (place word : List ℕ) → (inputs.pages i.port).given ≡ Err (bad_file path place word) → IsTrouble inputs (need (inst i) f) (unreadable path place word)
  given_disagrees : (i : Instance) (f : List ℕ) (path : Path) (field : Field) (table manifest : List ℕ) → (inputs.pages i.port).given ≡ Err (disagrees path field table manifest)
      → IsTrouble inputs (need (inst i) f) (differs path field table manifest)
  manifest_is_bad : (i : Instance) (f : List ℕ) (a : Ask) (path : Path) (place word : List ℕ) → manifest_at inputs.pages i.port a ≡ Some (Err (bad_file path place word))
      → IsTrouble inputs (visit i f a) (unreadable path place word)
  manifest_disagrees : (i : Instance) (f : List ℕ) (a : Ask) (path : Path) (field : Field) (table manifest : List ℕ) → manifest_at inputs.pages i.port a ≡ Some (Err (disagrees path field table manifest))
      → IsTrouble inputs (visit i f a) (differs path field table manifest)
  no_version_listed : (p : List ℕ) (a : Ask) (g : Given) → (inputs.pages p).given ≡ Ok g → ((v : Version) → g ≢ overlay v) → version_at inputs.pages p a ≡ None → IsTrouble inputs (floor p a) (lacks_version p a)

-- each of these is a trouble, and of the pages of a catalogue there is no other
pub record TroublesMean : Type 0 where
  pub told : (inputs : Inputs) (x : Fact) (t : Trouble) → IsTrouble inputs x t → Contains (troubles_of inputs x) t
  pub no_other : (inputs : Inputs) → ArePages inputs.pages → (x : Fact) (t : Trouble) → Contains (troubles_of inputs x) t → IsTrouble inputs x t
