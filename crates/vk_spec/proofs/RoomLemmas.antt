-- Whether a path has room, by the files that stand right before it and right after it.
use Rattle.std.proofs.Common.{◌≡◌, ℕ, false, List, [], ◌∷◌, ◌++◌, refl, ap, sym, ◌∙◌}
use Rattle.std.proofs.lemmas.List.{append-nil}
use Rattle.std.specs.Prelude.{IsSome}
use Rattle.std.specs.declared.cmp.Ordering.TheVariants.{Less}
use Rattle.std.specs.Ordering.{is_gt, is_lt}
use Rattle.std.specs.FinMap as map
use Rattle.vk_spec.specs.Paths.{Path, path_cmp, Begins}
use Rattle.vk_spec.specs.Files.{Files, IsTree, IsFreeAbove, IsFreeBelow}
use Rattle.vk_spec.proofs.FileLemmas.{none_some}
use Rattle.vk_spec.proofs.OrderLemmas.{less_below, no_gt, at_most_turned, begun_between, none_where, below_from}

-- of the file right before the path, a file that stands above the path is that one
above_is_last : (files : Files) (p h q : Path) (part : List ℕ) (rest : Path) → IsTree files → IsSome (map.get files h) → path_cmp h p ≡ Less → (Begins h p → ⊥)
    → (IsSome (map.get files q) → is_lt (path_cmp h q) ≡ false) → p ≡ q ++ part ∷ rest → IsSome (map.get files q) → Begins q h → ⊥
above_is_last files p h q part rest tree some less apart last e found ([], same) =
    apart (part ∷ rest, e ∙ ap (λ l. l ++ part ∷ rest) (sym (same ∙ append-nil q)))
above_is_last files p h q part rest tree some less apart last e found (name ∷ names, below) =
    none_some (map.get files h) (ap (map.get files) below ∙ tree q name names found) some

pub none_above : (files : Files) (p h : Path) → IsTree files → IsSome (map.get files h) → path_cmp h p ≡ Less → (Begins h p → ⊥)
    → ((q : Path) → path_cmp q p ≡ Less → IsSome (map.get files q) → is_lt (path_cmp h q) ≡ false)
    → IsFreeAbove p files
none_above files p h tree some less apart last q part rest e =
    none_where (map.get files q) (λ found.
    let before = ap (path_cmp q) e ∙ less_below q part rest in
    let begun = begun_between q h p (part ∷ rest, e) (at_most_turned h q (last q before found)) (no_gt (path_cmp h p) less) in
    above_is_last files p h q part rest tree some less apart (last q before) e found begun)

pub none_below : (files : Files) (p h : Path) → path_cmp p h ≡ Less → (Begins p h → ⊥)
    → ((q : Path) → path_cmp p q ≡ Less → IsSome (map.get files q) → is_gt (path_cmp h q) ≡ false)
    → IsFreeBelow p files
none_below files p h less apart first part rest =
    none_where (map.get files (p ++ part ∷ rest)) (λ found.
    apart (begun_between p h (p ++ part ∷ rest) (part ∷ rest, refl) (no_gt (path_cmp p h) less) (first (p ++ part ∷ rest) (less_below p part rest) found)))

-- a file that stands above takes the room, and so does one below
pub room_above : (files : Files) (p h : Path) → IsSome (map.get files h) → path_cmp h p ≡ Less → Begins h p → IsFreeAbove p files → ⊥
room_above files p h some less begins free =
    let below = below_from h p less begins in
    none_some (map.get files h) (free h below.0 below.1 below.2) some

pub room_below : (files : Files) (p h : Path) → IsSome (map.get files h) → path_cmp p h ≡ Less → Begins p h → IsFreeBelow p files → ⊥
room_below files p h some less begins free =
    let below = below_from p h less begins in
    none_some (map.get files h) (ap (map.get files) below.2 ∙ free below.0 below.1) some
