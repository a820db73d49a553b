-- What is kept of a port: what its page says of its given version.
use Rattle.std.specs.Prelude.{◌≡◌, ℕ, List, Option, Some, None, option_map, Result, Ok, Err, IfSome, bytes_eq}
use Rattle.std.specs.Map.{lookup}
use Rattle.vk_spec.specs.Versions.{Version}
use Rattle.vk_spec.specs.Manifests.{Override}
use Rattle.vk_spec.specs.Pages.{Wrong, Given, overlay, override, baseline, Page, version_in, is_pinned_by}
use Rattle.vk_spec.specs.Catalogues.{ArePages}
use Rattle.vk_spec.specs.Conditions.{Condition}
use Rattle.vk_resolution.specs.Givens.{Pages}
use Rattle.vk_model.specs.WrongViews.{given_view}
use Rattle.vk_close.specs.declared.known.Known.{Known}

-- the given version, unless something is wrong with it
abbrev pub given_in : Result Given Wrong → Option Given
given_in (Ok given) = Some given
given_in (Err wrong) = None

-- what the table has for what a baseline gives
abbrev pub base_by : Page Condition → Result Given Wrong → Option Version
base_by page (Ok (overlay v)) = None
base_by page (Ok (override a)) = None
base_by page (Ok (baseline a)) = version_in page a
base_by page (Err wrong) = None

-- it is what the page of the port says, and the pages are as every page is
pub record IsKnown (overrides : List Override) (pages : Pages) (port : List ℕ) (known : Known) : Type 0 where
  pub given : option_map given_view known.given ≡ given_in (pages port).given
  pub base : known.base ≡ base_by (pages port) (pages port).given
  pub pinned : known.pinned ≡ is_pinned_by overrides port (pages port).given
  pub sound : ArePages pages

-- so it is of each port of which something is kept
abbrev pub AreKnown : List Override → Pages → List (List ℕ × Known) → Type 0
AreKnown overrides pages ports = (p : List ℕ) → IfSome (lookup (bytes_eq p) ports) (IsKnown overrides pages p)
