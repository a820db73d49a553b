-- What a port has at its given version, by the calls that were made.
use Rattle.std.proofs.Common.{◌≡◌, ℕ, List, refl, ap, subst, ◌∙◌}
use Rattle.std.specs.Prelude.{Option, Some, None, option_map, Ok, Err, IfOk}
use Rattle.vk_spec.specs.Calls.{Answer}
use Rattle.vk_spec.specs.Versions.{Version, Ask}
use Rattle.vk_spec.specs.Manifests.{Manifest}
use Rattle.vk_spec.specs.Pages.{Wrong, Given, Row, Page, given_ask, row_in}
use Rattle.vk_spec.specs.Catalogues.{CatalogueState, Asks, SaysGiven, SaysVersion, SaysManifest}
use Rattle.vk_spec.specs.Conditions.{Condition}
use Rattle.vk_catalogue.specs.GivenManifests.{Found, found, no_version, bad, found_in, found_by, SaysAt, SaysAtGiven}
use Rattle.vk_spec.proofs.AskLemmas.{asks_then, asks_so, asks_later}

-- there is a manifest, or something is wrong with it
pub manifest_there : {port : List ℕ} (ask : Ask) {m : Manifest Condition} {a b : CatalogueState Condition} → Asks port (SaysManifest ask) (Ok (Ok m)) a b → Asks port (SaysAt ask) (Ok (found m)) a b
manifest_there ask {m = m} r = asks_so (SaysAt ask) (Ok (found m)) r refl (λ page e. ap (found_in ask) e)

pub manifest_bad : {port : List ℕ} (ask : Ask) {e : Wrong} {a b : CatalogueState Condition} → Asks port (SaysManifest ask) (Ok (Err e)) a b → Asks port (SaysAt ask) (Ok (bad e)) a b
manifest_bad ask {e = e} r = asks_so (SaysAt ask) (Ok (bad e)) r refl (λ page h. ap (found_in ask) h)

-- a page without a version for an ask has no row for it
no_row : (ask : Ask) (o : Option (Row Condition)) → None ≡ option_map (λ r. r.version) o → no_version ask ≡ found_in ask (option_map (λ r. r.manifest) o)
no_row ask None e = refl
no_row ask (Some r) e = (cc)

pub not_listed : {port : List ℕ} (ask : Ask) {a b : CatalogueState Condition} → Asks port (SaysVersion ask) (Ok None) a b → Asks port (SaysAt ask) (Ok (no_version ask)) a b
not_listed ask r = asks_so (SaysAt ask) (Ok (no_version ask)) r refl (λ page e. no_row ask (row_in page.rows ask) e)

pub listed_then : {port : List ℕ} (ask : Ask) {v : Option Version} {y : Answer Found} {a b c : CatalogueState Condition} → Asks port (SaysVersion ask) (Ok v) a b → Asks port (SaysAt ask) y b c → Asks port (SaysAt ask) y a c
listed_then ask one two = asks_later one.only two

-- what is wrong with the given version, or what there is for it
pub given_bad : {port : List ℕ} {e : Wrong} {a b : CatalogueState Condition} → Asks port SaysGiven (Ok (Err e)) a b → Asks port SaysAtGiven (Ok (bad e)) a b
given_bad {e = e} r = asks_so SaysAtGiven (Ok (bad e)) r refl (λ page h. ap (λ g. found_by g page) h)

found_given : (g : Given) (page : Page Condition) (y : Answer Found) → SaysGiven page (Ok g) → IfOk y (SaysAt (given_ask g) page) → IfOk y (SaysAtGiven page)
found_given g page (Ok x) e h = h ∙ ap (λ o. found_by o page) e
found_given g page (Err f) e h = tt

pub given_then : {port : List ℕ} {g : Given} (ask : Ask) {y : Answer Found} {a b c : CatalogueState Condition} → Asks port SaysGiven (Ok (Ok g)) a b → Asks port (SaysAt ask) y b c → ask ≡ given_ask g → Asks port SaysAtGiven y a c
given_then {port = port} {g = g} ask {y = y} {b = b} {c = c} one two e =
    asks_then SaysAtGiven y one (subst (λ k. Asks port (SaysAt k) y b c) e two) refl (λ page said at. found_given g page y said at)
