-- What the pages say of a port: its given version, its rows, its manifests, and whether it is pinned.
use Rattle.std.specs.Prelude.{ℕ, Bool, List, Option, Result}
use Rattle.vk_spec.specs.Versions.{Version, Ask}
use Rattle.vk_spec.specs.Manifests.{Manifest}
use Rattle.vk_spec.specs.Pages.{Wrong, Row, row_in, version_in, manifest_in, is_pinned_by}
use Rattle.vk_spec.specs.Catalogues as the
use Rattle.vk_spec.specs.Conditions.{Condition}
use Rattle.vk_spec.specs.Settings.{Setting}

-- the page of each port
abbrev pub Pages : Type 0
Pages = the.Pages Condition

-- the row of a port for an ask
abbrev pub row_at : Pages → List ℕ → Ask → Option (Row Condition)
row_at pages p a = row_in (pages p).rows a

-- the version that a port has for an ask, if any
abbrev pub version_at : Pages → List ℕ → Ask → Option Version
version_at pages p a = version_in (pages p) a

-- the manifest there, or what is wrong with it, if there is a row
abbrev pub manifest_at : Pages → List ℕ → Ask → Option (Result (Manifest Condition) Wrong)
manifest_at pages p a = manifest_in (pages p) a

-- a port with an overlay or an override
abbrev pub is_pinned : Setting → Pages → List ℕ → Bool
is_pinned s pages p = is_pinned_by s.root.overrides p (pages p).given
