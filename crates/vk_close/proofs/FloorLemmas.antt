-- What a floor is looked up for is what the rules say of it.
use Rattle.std.proofs.Common.{◌≡◌, ℕ, Bool, true, false, ◌&&◌, List, [], refl, ap, sym, subst, ◌∙◌}
use Rattle.std.specs.Prelude.{Option, Some, None, option_map, Result, Ok, Err, IfSome, IsOk, IsSome, is_some, bytes_eq}
use Rattle.std.specs.Map.{lookup}
use Rattle.vk_spec.specs.Versions.{Version, Ask, ask_of, same_ask}
use Rattle.vk_spec.proofs.VersionLemmas.{asks_equal}
use Rattle.vk_spec.specs.Pages.{Wrong, Given, overlay, override, baseline, Row, Page, row_in, version_in}
use Rattle.vk_spec.specs.Conditions.{Condition}
use Rattle.vk_spec.specs.Settings.{Setting}
use Rattle.vk_spec.specs.Catalogues.{IsPage, ArePages, CanAskManifest}
use Rattle.vk_resolution.specs.Givens.{Pages}
use Rattle.vk_resolution.specs.Consequences.{is_not_below, is_visited, is_visited_by}
use Rattle.vk_resolution.specs.Faults.{floor_troubles}
use Rattle.vk_resolution.specs.Planner.{inputs_of}
use Rattle.vk_resolution.proofs.ServiceLemmas.{pages_have_rows}
use Rattle.vk_model.specs.WrongViews.{given_view}
use Rattle.vk_close.specs.declared.known.Known.{Known}
use Rattle.vk_close.specs.declared.page_askers.PageAsker.{PageAsker}
use Rattle.vk_close.specs.Known.{given_in, base_by, IsKnown}
use Rattle.vk_close.specs.Kept.{IsKept, Tells}
use Rattle.vk_close.proofs.KnownLemmas.{here}
use Rattle.vk_close.specs.Floors.{not_below, found_by, visited_by, is_clear, is_base}

listed : (o : Option (Row Condition)) → is_some (option_map (λ r. r.version) o) ≡ is_some o
listed None = refl
listed (Some r) = refl

below_same : (s : Setting) (pages : Pages) (g f : Option (Row Condition)) → not_below (option_map (λ r. r.version) g) (option_map (λ r. r.version) f) ≡ is_not_below (inputs_of s pages) g f
below_same s pages None f = refl
below_same s pages (Some g) None = refl
below_same s pages (Some g) (Some f) = refl

-- ---- by a page

visited_page : (s : Setting) (pages : Pages) (page : Page Condition) (a : Ask) (r : Result Given Wrong) → visited_by (given_in r) (base_by page r) a (found_by (given_in r) (version_in page a)) ≡ is_visited_by (inputs_of s pages) page.rows a r
visited_page s pages page a (Ok (overlay v)) = refl
visited_page s pages page a (Ok (override b)) = ap (λ l. same_ask a b && l) (listed (row_in page.rows a))
visited_page s pages page a (Ok (baseline b)) = below_same s pages (row_in page.rows b) (row_in page.rows a)
visited_page s pages page a (Err wrong) = refl

clear_page : (p : List ℕ) (page : Page Condition) (a : Ask) (r : Result Given Wrong) → is_clear (given_in r) (found_by (given_in r) (version_in page a)) ≡ true → floor_troubles p a (row_in page.rows a) r ≡ []
clear_page p page a r e = by (row_in page.rows a) r e
  where
    by : (o : Option (Row Condition)) (r : Result Given Wrong) → is_clear (given_in r) (found_by (given_in r) (option_map (λ r. r.version) o)) ≡ true → floor_troubles p a o r ≡ []
    by (Some row) r e = refl
    by None (Ok (overlay v)) e = refl
    by None (Ok (override b)) e = (cc)
    by None (Ok (baseline b)) e = (cc)
    by None (Err wrong) e = refl

clear_where : (p : List ℕ) (page : Page Condition) (a : Ask) (r : Result Given Wrong) → floor_troubles p a (row_in page.rows a) r ≡ [] → is_clear (given_in r) (found_by (given_in r) (version_in page a)) ≡ true
clear_where p page a r e = by (row_in page.rows a) r e
  where
    by : (o : Option (Row Condition)) (r : Result Given Wrong) → floor_troubles p a o r ≡ [] → is_clear (given_in r) (found_by (given_in r) (option_map (λ r. r.version) o)) ≡ true
    by (Some row) (Ok (overlay v)) e = refl
    by (Some row) (Ok (override b)) e = refl
    by (Some row) (Ok (baseline b)) e = refl
    by (Some row) (Err wrong) e = refl
    by None (Ok (overlay v)) e = refl
    by None (Ok (override b)) e = (cc)
    by None (Ok (baseline b)) e = (cc)
    by None (Err wrong) e = refl

and_right : (a b : Bool) → (a && b) ≡ true → b ≡ true
and_right true b e = e
and_right false b e = (cc)

some_version : (o : Option (Row Condition)) → is_some o ≡ true → IsSome (option_map (λ r. r.version) o)
some_version None e = (cc)
some_version (Some r) e = (cc)

some_below : (s : Setting) (pages : Pages) (g f : Option (Row Condition)) → is_not_below (inputs_of s pages) g f ≡ true → IsSome (option_map (λ r. r.version) f)
some_below s pages None f e = (cc)
some_below s pages (Some g) None e = (cc)
some_below s pages (Some g) (Some f) e = (cc)

listed_page : (s : Setting) (pages : Pages) (page : Page Condition) (a : Ask) (r : Result Given Wrong) → IsPage page → page.given ≡ r → is_visited_by (inputs_of s pages) page.rows a r ≡ true → IsSome (version_in page a)
listed_page s pages page a (Ok (overlay v)) sound given e =
    subst (λ b. IsSome (version_in page b)) (sym (asks_equal a (ask_of v) e)) (subst IsSome (sym (pages_have_rows (λ _. page) (λ _. sound) [] v given)) (cc))
listed_page s pages page a (Ok (override b)) sound given e = some_version (row_in page.rows a) (and_right (same_ask a b) (is_some (row_in page.rows a)) e)
listed_page s pages page a (Ok (baseline b)) sound given e = some_below s pages (row_in page.rows b) (row_in page.rows a) e
listed_page s pages page a (Err wrong) sound given e = (cc)

given_page : (s : Setting) (pages : Pages) (page : Page Condition) (a : Ask) (r : Result Given Wrong) → is_visited_by (inputs_of s pages) page.rows a r ≡ true → IsOk r
given_page s pages page a (Ok g) e = (cc)
given_page s pages page a (Err wrong) e = (cc)

-- a manifest can be asked for where the version is visited
can_page : (s : Setting) (pages : Pages) (page : Page Condition) (a : Ask) → IsPage page → is_visited_by (inputs_of s pages) page.rows a page.given ≡ true → CanAskManifest a page
can_page s pages page a sound e = record { given = given_page s pages page a page.given e; listed = listed_page s pages page a page.given sound refl e }

-- ---- by what is kept

module _ (a : PageAsker) (s : Setting) (port : List ℕ) (ask : Ask) (k : Known) (found : Option Version) (e : lookup (bytes_eq port) a.ports.entries ≡ Some k) where
  pub visited_here : (o : Option Pages) (b : Bool) → b ≡ visited_by (option_map given_view k.given) k.base ask found → IfSome o (λ pages. IsKept a pages)
      → IfSome o (λ pages. found ≡ found_by (option_map given_view k.given) (version_in (pages port) ask)) → IfSome o (λ pages. b ≡ is_visited (inputs_of s pages) port ask)
  visited_here None b is kept told = tt
  visited_here (Some pages) b is kept told =
      let known : IsKnown a.overrides pages port k = here a.overrides a.ports.entries port k e pages kept.known in
      is ∙ ap (visited_by (option_map given_view k.given) k.base ask) told
      ∙ ap (λ g. visited_by g k.base ask (found_by g (version_in (pages port) ask))) known.given
      ∙ ap (λ v. visited_by (given_in (pages port).given) v ask (found_by (given_in (pages port).given) (version_in (pages port) ask))) known.base
      ∙ visited_page s pages (pages port) ask (pages port).given

  pub clear_here : (o : Option Pages) (b : Bool) → b ≡ is_clear (option_map given_view k.given) found → IfSome o (λ pages. IsKept a pages)
      → IfSome o (λ pages. found ≡ found_by (option_map given_view k.given) (version_in (pages port) ask)) → IfSome o (λ pages. Tells b (floor_troubles port ask (row_in (pages port).rows ask) (pages port).given ≡ []))
  clear_here None b is kept told = tt
  clear_here (Some pages) b is kept told =
      let known : IsKnown a.overrides pages port k = here a.overrides a.ports.entries port k e pages kept.known in
      let same = is ∙ ap (is_clear (option_map given_view k.given)) told ∙ ap (λ g. is_clear g (found_by g (version_in (pages port) ask))) known.given in
      ((λ clear. clear_page port (pages port) ask (pages port).given (sym same ∙ clear)), (λ none. same ∙ clear_where port (pages port) ask (pages port).given none))

base_page : (page : Page Condition) (a : Ask) (r : Result Given Wrong) → is_base (given_in r) a ≡ true → base_by page r ≡ found_by (given_in r) (version_in page a)
base_page page a (Ok (overlay v)) e = (cc)
base_page page a (Ok (override b)) e = (cc)
base_page page a (Ok (baseline b)) e = ap (version_in page) (sym (asks_equal a b e))
base_page page a (Err wrong) e = (cc)

-- what the table has for the floor that a baseline gives is known
pub base_here : (a : PageAsker) (port : List ℕ) (ask : Ask) (k : Known) (b : Bool) → lookup (bytes_eq port) a.ports.entries ≡ Some k → b ≡ is_base (option_map given_view k.given) ask → b ≡ true → (o : Option Pages) → IfSome o (λ pages. IsKept a pages)
    → IfSome o (λ pages. k.base ≡ found_by (option_map given_view k.given) (version_in (pages port) ask))
base_here a port ask k b e is yes_base None kept = tt
base_here a port ask k b e is yes_base (Some pages) kept =
    let known : IsKnown a.overrides pages port k = here a.overrides a.ports.entries port k e pages kept.known in
    known.base
    ∙ base_page (pages port) ask (pages port).given (sym (is ∙ ap (λ g. is_base g ask) known.given) ∙ yes_base)
    ∙ ap (λ g. found_by g (version_in (pages port) ask)) (sym known.given)

-- what is visited can be asked for
pub can_here : (s : Setting) (port : List ℕ) (ask : Ask) (o : Option Pages) → IfSome o ArePages → IfSome o (λ pages. is_visited (inputs_of s pages) port ask ≡ true) → IfSome o (λ pages. CanAskManifest ask (pages port))
can_here s port ask None sound visited = tt
can_here s port ask (Some pages) sound visited = can_page s pages (pages port) ask (sound port) visited
