-- When a port is pinned.
use Rattle.std.specs.Prelude.{◌≡◌, ◌↔◌, ◌++◌, ℕ, true, List, [], ◌∷◌, Ok, Err, codes}
use Rattle.std.specs.List.{Contains}
use Rattle.vk_spec.specs.Paths.{Path}
use Rattle.vk_spec.specs.Versions.{Version, Ask}
use Rattle.vk_spec.specs.Manifests.{Override}
use Rattle.vk_spec.specs.Pages.{Field, Wrong, disagrees, bad_file, overlay, override, has_override, is_overlay_file}
use Rattle.vk_spec.specs.Settings.{Setting}
use Rattle.vk_resolution.specs.Givens.{Pages, is_pinned}

-- one of the overrides has the port's name
abbrev pub HasOverride : List Override → List ℕ → Type 0
HasOverride overrides p = (o : Override) × Contains overrides o × (o.name ≡ p)

-- the path ends in the port's name and then `vcpkg.json`
abbrev pub IsInOverlay : List ℕ → Path → Type 0
IsInOverlay p path = (before : Path) × (path ≡ before ++ p ∷ codes "vcpkg.json" ∷ [])

-- a port is pinned where an overlay has it, be its manifest good, at odds with the folder or unreadable, or where an override is for it, whatever became of its version
pub data IsPinned (s : Setting) (pages : Pages) (p : List ℕ) : Type 0 where
  by_overlay : (v : Version) → (pages p).given ≡ Ok (overlay v) → IsPinned s pages p
  by_override : (a : Ask) → (pages p).given ≡ Ok (override a) → IsPinned s pages p
  by_odd_overlay : (path : Path) (field : Field) (row manifest : List ℕ) → (pages p).given ≡ Err (disagrees path field row manifest) → IsPinned s pages p
  by_bad_overlay : (path : Path) (place word : List ℕ) → (pages p).given ≡ Err (bad_file path place word) → IsInOverlay p path → IsPinned s pages p
  by_failed_override : (wrong : Wrong) → (pages p).given ≡ Err wrong → HasOverride s.root.overrides p → IsPinned s pages p

-- the test for an override says this
abbrev pub OverridesMean : Type 0
OverridesMean = (overrides : List Override) (p : List ℕ) → has_override overrides p ≡ true ↔ HasOverride overrides p

-- the test for an overlay's file says this
abbrev pub OverlayFilesMean : Type 0
OverlayFilesMean = (p : List ℕ) (path : Path) → is_overlay_file p path ≡ true ↔ IsInOverlay p path

-- and the test for a pinned port says this
abbrev pub PinnedMeans : Type 0
PinnedMeans = (s : Setting) (pages : Pages) (p : List ℕ) → is_pinned s pages p ≡ true ↔ IsPinned s pages p
