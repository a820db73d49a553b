-- What a port has at its given version: the manifest, or the first thing that is wrong.
use Rattle.std.specs.Prelude.{◌≡◌, Option, Some, None, Result, Ok, Err}
use Rattle.vk_spec.specs.Calls.{Answer}
use Rattle.vk_spec.specs.Versions.{Ask}
use Rattle.vk_spec.specs.Manifests.{Manifest}
use Rattle.vk_spec.specs.Pages.{Wrong, Given, Page, given_ask, manifest_in}
use Rattle.vk_spec.specs.Conditions.{Condition}
use Rattle.vk_version.specs.AskViews.{ask_view}
use Rattle.vk_model.specs.Views.{manifest_view}
use Rattle.vk_catalogue.specs.Views.{wrong_view, seen_by}
use Rattle.vk_base.specs.declared.stops.Outage.{Outage}
use Rattle.vk_catalogue.specs.declared.given_manifests.GivenManifest.{GivenManifest}
use Rattle.vk_catalogue.specs.declared.given_manifests.GivenManifest.TheVariants as given

pub data Found : Type 0 where
  found : Manifest Condition → Found
  no_version : Ask → Found
  bad : Wrong → Found

-- there is a row for the ask or not, and its manifest is there or something is wrong with it
abbrev pub found_in : Ask → Option (Result (Manifest Condition) Wrong) → Found
found_in ask None = no_version ask
found_in ask (Some (Ok m)) = found m
found_in ask (Some (Err e)) = bad e

abbrev pub found_for : Ask → Page Condition → Found
found_for ask page = found_in ask (manifest_in page ask)

-- what a page has for what is given
abbrev pub found_by : Result Given Wrong → Page Condition → Found
found_by (Ok g) page = found_for (given_ask g) page
found_by (Err e) page = bad e

abbrev pub SaysAt : Ask → Page Condition → Found → Type 0
SaysAt ask page x = x ≡ found_for ask page

abbrev pub SaysAtGiven : Page Condition → Found → Type 0
SaysAtGiven page x = x ≡ found_by page.given page

abbrev pub found_view : GivenManifest → Found
found_view (given.Found m) = found (manifest_view m.value)
found_view (given.NoVersion ask) = no_version (ask_view ask)
found_view (given.Bad e) = bad (wrong_view e)

abbrev pub at_answer : Result GivenManifest Outage → Answer Found
at_answer = seen_by found_view
