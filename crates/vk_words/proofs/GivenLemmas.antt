-- What an option was given, argument by argument.
use Rattle.std.proofs.Common.{◌≡◌, ◌+◌, ◌<◌, ℕ, List, [], ◌∷◌, ◌++◌, length, take, get_or, refl, ap, sym, ◌∙◌}
use Rattle.std.specs.Prelude.{Option, Some, None, option_to_list}
use Rattle.std.specs.List.{filter_map, cons_option}
use Rattle.std.proofs.lemmas.List.{take_more}
use Rattle.std.proofs.lemmas.List.Elements.{filter_map-append}

alone : {Y : Type 0} (o : Option Y) → cons_option o [] ≡ option_to_list o
alone None = refl
alone (Some y) = refl

-- what one more of them gives stands at the end
pub one_more : {X Y : Type 0} (h : X → Option Y) (xs : List X) (i : ℕ) (x : X) (kept more : List Y)
    → i < length xs → x ≡ get_or xs i x → kept ≡ filter_map h (take i xs)
    → more ≡ kept ++ option_to_list (h x) → more ≡ filter_map h (take (i + 1) xs)
one_more h xs i x kept more within is so_far grown =
    grown
    ∙ ap (λ l. l ++ option_to_list (h x)) so_far
    ∙ ap (λ o. filter_map h (take i xs) ++ option_to_list (h o)) is
    ∙ ap (λ l. filter_map h (take i xs) ++ l) (sym (alone (h (get_or xs i x))))
    ∙ sym (filter_map-append h (take i xs) (get_or xs i x ∷ []))
    ∙ ap (filter_map h) (sym (take_more xs i x within))
