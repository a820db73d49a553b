-- The pages of a shelf: what is found on it, and that a page that is put is found.
use Rattle.std.proofs.Common.{◌≡◌, ℕ, Bool, true, false, cond, List, [], ◌∷◌, ◌++◌, map, refl, ap, sym, ◌∙◌}
use Rattle.std.specs.Prelude.{Option, Some, None, option_map, bytes_eq}
use Rattle.std.specs.List.{find}
use Rattle.std.specs.Map.{lookup}
use Rattle.std.proofs.lemmas.List.{map-append}
use Rattle.std.proofs.lemmas.Map.Made.{lookup-map_values}
use Rattle.vk_spec.specs.Versions.{Ask, ask_of, same_ask}
use Rattle.vk_spec.specs.Pages.{row_in}
use Rattle.vk_spec.specs.Pages as plain
use Rattle.vk_spec.specs.Catalogues.{IsPage, ArePages}
use Rattle.vk_spec.proofs.ListLemmas.{contains_nothing, find_by}
use Rattle.vk_spec.specs.Conditions.{Condition}
use Rattle.vk_catalogue.specs.declared.shelves.Held.{Held}
use Rattle.vk_catalogue.specs.declared.pages.PageRow.{PageRow}
use Rattle.vk_catalogue.specs.PageViews.{held_view, row_view}
use Rattle.vk_catalogue.specs.Shelves.{Shelved, no_page, page_or_none, page_among, held_for, pages_of}

-- a page without a registry is one
pub no_page_is : IsPage no_page
no_page_is = record { distinct = tt; own = tt; given_wrong = tt; row_wrongs = λ r h. absurd (contains_nothing r h) }

-- a row that is found among views is the view of the row that is found
pub row_view_found : (rows : List PageRow) (ask : Ask) → row_in (map row_view rows) ask ≡ option_map row_view (find (λ r. same_ask (ask_of r.version) ask) rows)
row_view_found rows ask = find_by row_view (λ r. same_ask (ask_of r.version) ask) rows

-- a page of one more is the page that was put, or one of those before
page_of_more : (P : plain.Page Condition → Type 0) (put : Shelved (plain.Page Condition)) (port q : List ℕ) (page : plain.Page Condition)
    → P page → ((r : List ℕ) → P (page_among put r)) → P no_page → P (page_among (put ++ (port, page) ∷ []) q)
page_of_more P put port q page new old none = by put (old q)
  where
    last : (b : Bool) → P (page_or_none (cond b (Some page) None))
    last true = new
    last false = none

    at : (b : Bool) (first : plain.Page Condition) (es : Shelved (plain.Page Condition)) → (P (page_among es q) → P (page_among (es ++ (port, page) ∷ []) q))
        → P (page_or_none (cond b (Some first) (lookup (bytes_eq q) es))) → P (page_or_none (cond b (Some first) (lookup (bytes_eq q) (es ++ (port, page) ∷ []))))
    at true first es f h = h
    at false first es f h = f h

    by : (es : Shelved (plain.Page Condition)) → P (page_among es q) → P (page_among (es ++ (port, page) ∷ []) q)
    by [] h = last (bytes_eq q port)
    by (e ∷ es) h = at (bytes_eq q e.0) e.1 es (by es) h

pub more_are_pages : (put : Shelved (plain.Page Condition)) (port : List ℕ) (page : plain.Page Condition) → IsPage page → ArePages (page_among put) → ArePages (page_among (put ++ (port, page) ∷ []))
more_are_pages put port page new old q = page_of_more IsPage put port q page new old no_page_is

-- what is put is seen after what was there
pub pages_of_more : (held : Shelved Held) (port : List ℕ) (h : Held) → pages_of (held ++ (port, h) ∷ []) ≡ pages_of held ++ (port, held_view h) ∷ []
pages_of_more held port h = map-append (λ e. (e.0, held_view e.1)) held ((port, h) ∷ [])

-- a port that has no page yet is looked up in vain
pub nothing_held : (held : Shelved Held) (port : List ℕ) → lookup (bytes_eq port) (pages_of held) ≡ None → held_for held port ≡ None
nothing_held held port none = by (held_for held port) (sym (lookup-map_values held_view (bytes_eq port) held) ∙ none)
  where
    by : (o : Option Held) → option_map held_view o ≡ None → o ≡ None
    by None e = refl
    by (Some h) e = (cc)

-- a port of which nothing is held has no page yet, and one of which something is held has one
pub lacks_page : (held : Shelved Held) (port : List ℕ) → held_for held port ≡ None → lookup (bytes_eq port) (pages_of held) ≡ None
lacks_page held port none = lookup-map_values held_view (bytes_eq port) held ∙ ap (option_map held_view) none

pub has_page : (held : Shelved Held) (port : List ℕ) (h : Held) → held_for held port ≡ Some h → lookup (bytes_eq port) (pages_of held) ≡ None → ⊥
has_page held port h some none = let clash : Some h ≡ None = sym some ∙ nothing_held held port none in (cc)
