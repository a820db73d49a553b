-- The sizes of files, one after the other.
use Rattle.std.proofs.Common.{◌≡◌, ◌<◌, ◌+◌, length, take, get_or, arith, map, ◌++◌, [], ◌∷◌, ℕ, List, ap, sym, ◌∙◌}
use Rattle.std.specs.Prelude.{drop, None}
use Rattle.std.proofs.lemmas.Bool.Decides.{nat_tests}
use Rattle.std.proofs.lemmas.List.{map-append, take-append-drop, drop_more}
use Rattle.std.proofs.lemmas.List.Sums.{sum_by-append}
use Rattle.vk_entry.specs.PackageViews.{file_view}
use Rattle.vk_entry.specs.declared.packages.PackageFile.{PackageFile}
use Rattle.vk_make.specs.Makes.{size_of}
use Rattle.vk_shared.specs.Stocks.{room_for}

pub too_many : (files : List PackageFile) (i : ℕ) (x : PackageFile) (left room : ℕ) → i < length files → x ≡ get_or files i x → size_of (map file_view (take i files)) + left ≡ room → left < length x.bytes → None ≡ room_for (map file_view files) room
too_many files i x left room within is sum less =
    let split : files ≡ take i files ++ x ∷ drop (i + 1) files = sym (take-append-drop i files) ∙ ap (λ l. take i files ++ l) (drop_more files i x within ∙ ap (λ y. y ∷ drop (i + 1) files) (sym is)) in
    let total : size_of (map file_view files) ≡ size_of (map file_view (take i files)) + size_of (file_view x ∷ map file_view (drop (i + 1) files)) =
    ap (λ l. size_of (map file_view l)) split
    ∙ ap size_of (map-append file_view (take i files) (x ∷ drop (i + 1) files))
    ∙ sum_by-append (λ f. length f.bytes) (map file_view (take i files)) (file_view x ∷ map file_view (drop (i + 1) files)) in
    let first : size_of (file_view x ∷ map file_view (drop (i + 1) files)) ≡ 0 + length x.bytes + size_of (map file_view (drop (i + 1) files)) = sum_by-append (λ f. length f.bytes) (file_view x ∷ []) (map file_view (drop (i + 1) files)) in
    let over : room < size_of (map file_view files) = omega (arith, total, first, sum, less) in
    grind (arith, nat_tests, over)
