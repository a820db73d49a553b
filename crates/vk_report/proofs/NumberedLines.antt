-- Numbered lines of what is seen of things.
use Rattle.std.proofs.Common.{◌≡◌, ◌+◌, ℕ, List, [], ◌∷◌, ◌++◌, map, refl, ap, sym, ◌∙◌, append_assoc, codes}
use Rattle.std.specs.Prelude.{length}
use Rattle.std.proofs.lemmas.List.{length-map}
use Rattle.std.specs.Prelude.{decimal}
use Rattle.vk_resolution.specs.Lines.{counted, ended, numbered_lines}

pub numbered_lines-map : {X Y : Type 0} (text : Y → List ℕ) (view : X → Y) (n : ℕ) (xs : List X) → numbered_lines text n (map view xs) ≡ numbered_lines (λ x. text (view x)) n xs
numbered_lines-map text view n [] = refl
numbered_lines-map text view n (x ∷ xs) = ap (λ l. ended (decimal n ++ codes " " ++ text (view x)) ++ l) (numbered_lines-map text view (n + 1) xs)

-- how many they are is written, and then they are
pub counted_written : {X Y : Type 0} (text : Y → List ℕ) (view : X → Y) (word : List ℕ) (xs : List X) (before middle after : List ℕ)
    → middle ≡ before ++ ended (word ++ codes " " ++ decimal (length xs)) → after ≡ middle ++ numbered_lines (λ x. text (view x)) 1 xs
    → after ≡ before ++ (counted word (map view xs) ++ numbered_lines text 1 (map view xs))
counted_written text view word xs before middle after count lines =
    lines
    ∙ ap (λ l. l ++ numbered_lines (λ x. text (view x)) 1 xs) count
    ∙ append_assoc before (ended (word ++ codes " " ++ decimal (length xs))) (numbered_lines (λ x. text (view x)) 1 xs)
    ∙ ap (λ l. before ++ (ended (word ++ codes " " ++ decimal (length xs)) ++ l)) (sym (numbered_lines-map text view 1 xs))
    ∙ ap (λ n. before ++ (ended (word ++ codes " " ++ decimal n) ++ numbered_lines text 1 (map view xs))) (sym (length-map xs view))

-- and then something more
pub last_written : (before counted_lines last middle after : List ℕ) → after ≡ middle ++ last → middle ≡ before ++ counted_lines → after ≡ before ++ (counted_lines ++ last)
last_written before counted_lines last middle after put so_far = put ∙ ap (λ l. l ++ last) so_far ∙ append_assoc before counted_lines last
