-- What is known of a catalogue of ports, what its calls answer, and what a caller that only asks leaves.
use Rattle.std.specs.Prelude.{◌≡◌, ◌≤◌, ℕ, Bool, true, false, List, [], ◌∷◌, map, Option, Some, IfSome, IsSome, Result, IfOk, IfErr, IsOk}
use Rattle.std.specs.List.{Contains}
use Rattle.vk_spec.specs.Counts.{Counted}
use Rattle.vk_spec.specs.Lists.{NoRepeats}
use Rattle.vk_spec.specs.Paths.{Path}
use Rattle.vk_spec.specs.States.{Told}
use Rattle.vk_spec.specs.Calls.{Answer, is_failed}
use Rattle.vk_spec.specs.Versions.{Version, Ask, ask_of}
use Rattle.vk_spec.specs.Manifests.{Manifest}
use Rattle.vk_spec.specs.AskedCalls.{AnswersAs}
use Rattle.vk_spec.specs.Pages as the
use Rattle.vk_spec.specs.Pages.{Wrong, no_registry, no_baseline, bad_file, disagrees, Given, overlay, override, baseline, Row, Page, version_in, manifest_in}

-- the page of each port
abbrev pub Pages : Type 0 → Type 0
Pages Condition = List ℕ → Page Condition

-- ---- what every page keeps

-- a manifest in an overlay that disagrees does so in the port's name
abbrev pub CanBeOfGiven : Wrong → Type 0
CanBeOfGiven no_registry = Unit {0}
CanBeOfGiven no_baseline = Unit {0}
CanBeOfGiven (bad_file path place word) = Unit {0}
CanBeOfGiven (disagrees path field row manifest) = field ≡ the.name

-- what can be wrong with a row's manifest
abbrev pub CanBeOfRow : Wrong → Type 0
CanBeOfRow no_registry = ⊥
CanBeOfRow no_baseline = ⊥
CanBeOfRow (bad_file path place word) = Unit {0}
CanBeOfRow (disagrees path field row manifest) = Unit {0}

-- an overlay has its own version alone
abbrev pub HasOwnAlone : {C : Type 0} → List (Row C) → Given → Type 0
HasOwnAlone rows (overlay v) = map (λ r. r.version) rows ≡ v ∷ []
HasOwnAlone rows (override a) = Unit {0}
HasOwnAlone rows (baseline a) = Unit {0}

-- no two rows have one text and port-version, an overlay has its own version alone, and what is wrong can be wrong there
pub record IsPage {C : Type 0} (page : Page C) : Type 0 where
  pub distinct : NoRepeats (map (λ r. ask_of r.version) page.rows)
  pub own : IfOk page.given (HasOwnAlone page.rows)
  pub given_wrong : IfErr page.given CanBeOfGiven
  pub row_wrongs : (r : Row C) → Contains page.rows r → IfErr r.manifest CanBeOfRow

abbrev pub ArePages : {C : Type 0} → Pages C → Type 0
ArePages pages = (port : List ℕ) → IsPage (pages port)

-- ---- what a catalogue can be asked

-- a version can be asked for where the port has a given one
abbrev pub CanAskVersion : {C : Type 0} → Page C → Type 0
CanAskVersion page = IsOk page.given

-- a manifest can be asked for where the port has a given version, and one for the ask
pub record CanAskManifest {C : Type 0} (ask : Ask) (page : Page C) : Type 0 where
  pub given : CanAskVersion page
  pub listed : IsSome (version_in page ask)

-- ---- what is known of a catalogue

-- the folder where a version of a port stands, if it stands anywhere
abbrev pub Places : Type 0
Places = List ℕ → Version → Option Path

-- where a catalogue comes from, which no call of it changes
pub record Origin : Type 0 where
  -- files and log, as a tree told them when the catalogue was made over it
  pub told : Option Told
  -- what was changed in that tree
  pub changes : ℕ
  -- the paths that were read of it before
  pub opened : List Path
  -- where versions stand, where the pages are told
  pub places : Places
  -- the paths of which a port's page may be read, where files are told
  pub page_paths : List ℕ → List Path

pub record CatalogueState (C : Type 0) : Type 0 where
  -- the page of each port, where it tells them
  pub pages : Option (Pages C)
  pub origin : Origin
  -- how many calls were made, of it or of what it stands on
  pub calls : ℕ
  -- how many calls failed
  pub faults : ℕ
  -- no call is to fail
  pub sure : Bool

-- where the pages are told, this holds of a port's
abbrev pub OnPage : {C : Type 0} → List ℕ → (Page C → Type 0) → CatalogueState C → Type 0
OnPage port P s = IfSome s.pages (λ pages. P (pages port))

-- the pages and the origin are as they were; nothing failed, or at least one call did; a catalogue that is sure has none that fails
pub record OnlyAsked {C : Type 0} (failed : Bool) (before after : CatalogueState C) : Type 0 where
  pub pages : after.pages ≡ before.pages
  pub origin : after.origin ≡ before.origin
  pub calls : before.calls ≤ after.calls
  pub faults : Counted failed before.faults after.faults
  pub sure : after.sure ≡ before.sure
  pub safe : before.sure ≡ true → failed ≡ false

-- a call about a port: the answer is what its page says, unless the call failed or memory ran out, and nothing else is done
pub record Asks {C A : Type 0} (port : List ℕ) (Says : Page C → A → Type 0) (answer : Answer A) (before after : CatalogueState C) : Type 0 where
  pub told : IfOk answer (λ x. OnPage port (λ page. Says page x) before)
  pub kept : IfSome before.pages ArePages
  pub only : OnlyAsked (is_failed answer) before after

-- what a page says of the given version, of the version for an ask, and of the manifest there
abbrev pub SaysGiven : {C : Type 0} → Page C → Result Given Wrong → Type 0
SaysGiven page given = given ≡ page.given

abbrev pub SaysVersion : {C : Type 0} → Ask → Page C → Option Version → Type 0
SaysVersion ask page version = version ≡ version_in page ask

abbrev pub SaysManifest : {C : Type 0} → Ask → Page C → Result (Manifest C) Wrong → Type 0
SaysManifest ask page manifest = Some manifest ≡ manifest_in page ask

-- ---- what a caller answers that asks more than once

-- what holds of the pages, where they are told
abbrev pub OnPages : {C : Type 0} → (Pages C → Type 0) → CatalogueState C → Type 0
OnPages P s = IfSome s.pages P

-- nothing but asking was done, and where the pages are told, the answer is what they give
abbrev pub AsksAs : {C X Y E F : Type 0} → (E → Bool) → (E → Option F) → (X → Y) → Result X E → (Pages C → Result Y F) → CatalogueState C → CatalogueState C → Type 0
AsksAs failed fault view answer meaning before after = AnswersAs OnlyAsked OnPages failed fault view answer meaning before after
