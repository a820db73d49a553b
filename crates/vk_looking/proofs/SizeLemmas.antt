-- The sizes of listed files, one after the other.
use Rattle.std.proofs.Common.{◌≡◌, ◌<◌, ◌+◌, length, take, get_or, arith, map, ◌++◌, [], ◌∷◌, ℕ, List, false, ap, sym, ◌∙◌}
use Rattle.std.specs.Prelude.{nat_le, drop}
use Rattle.std.proofs.lemmas.Bool.Decides.{nat_tests}
use Rattle.std.proofs.lemmas.List.{map-append, take-append-drop, drop_more}
use Rattle.std.proofs.lemmas.List.Sums.{sum_by-append}
use Rattle.vk_entry.specs.ContentViews.{content_view}
use Rattle.vk_entry.specs.declared.contents.ContentLine.{ContentLine}
use Rattle.vk_look.specs.LookIs.{bytes_listed}

pub too_many : (lines : List ContentLine) (i : ℕ) (x : ContentLine) (left most : ℕ) → i < length lines → x ≡ get_or lines i x → bytes_listed (map content_view (take i lines)) + left ≡ most → left < x.size → false ≡ nat_le (bytes_listed (map content_view lines)) most
too_many lines i x left most within is sum less =
    let split : lines ≡ take i lines ++ x ∷ drop (i + 1) lines = sym (take-append-drop i lines) ∙ ap (λ l. take i lines ++ l) (drop_more lines i x within ∙ ap (λ y. y ∷ drop (i + 1) lines) (sym is)) in
    let total : bytes_listed (map content_view lines) ≡ bytes_listed (map content_view (take i lines)) + bytes_listed (content_view x ∷ map content_view (drop (i + 1) lines)) =
    ap (λ l. bytes_listed (map content_view l)) split
    ∙ ap bytes_listed (map-append content_view (take i lines) (x ∷ drop (i + 1) lines))
    ∙ sum_by-append (λ c. c.size) (map content_view (take i lines)) (content_view x ∷ map content_view (drop (i + 1) lines)) in
    let first : bytes_listed (content_view x ∷ map content_view (drop (i + 1) lines)) ≡ 0 + x.size + bytes_listed (map content_view (drop (i + 1) lines)) = sum_by-append (λ c. c.size) (content_view x ∷ []) (map content_view (drop (i + 1) lines)) in
    let over : most < bytes_listed (map content_view lines) = omega (arith, total, first, sum, less) in
    grind (arith, nat_tests, over)
