-- Steps that are judged and done one after the other.
use Rattle.std.proofs.Common.{◌≡◌, ◌<◌, ◌≤◌, ◌+◌, ◌++◌, ℕ, List, [], ◌∷◌, length, take, drop, get_or, map, refl, ap, sym, ◌∙◌, subst, arith}
use denote.Ref.{Bor}
use Rattle.std.specs.Prelude.{Result, Ok}
use Rattle.std.proofs.lemmas.List.{take_more, take_all, map-append}
use Rattle.vk_spec.specs.Paths.{Path}
use Rattle.vk_spec.specs.Reading.{read_after}
use Rattle.vk_spec.proofs.ReadingLemmas.{after_goes_on, after_is_done}
use Rattle.vk_recipe.specs.Builds.{Job, judged, paths_of}
use Rattle.vk_recipe.specs.Recipes as plain
use Rattle.vk_recipe.specs.RecipeViews.{step_view}
use Rattle.vk_recipe.specs.Destinations.{AreTaken}
use Rattle.vk_recipe.specs.declared.recipes.Step.{Step}
use Rattle.vk_recipe.specs.declared.faults.RecipeFault.{RecipeFault}

grown : (steps : List Step) (n : ℕ) (step : Step) → n < length steps → step ≡ get_or steps n step → take (n + 1) steps ≡ take n steps ++ step ∷ []
grown steps n step within is = take_more steps n step within ∙ ap (λ s. take n steps ++ s ∷ []) (sym is)

-- a step is done: the loop goes on
pub step_done : (job : Job) (steps : List Step) (n : ℕ) (step : Step) → n < length steps → step ≡ get_or steps n step
    → (keys : List (Bor Path)) (total : Result (List plain.Step) RecipeFault)
    → judged job (map step_view (take n steps)) n (step_view step) ≡ Ok (step_view step)
    → AreTaken (paths_of job (map step_view (take n steps) ++ step_view step ∷ [])) keys
    → read_after (judged job) (map step_view (take n steps)) n (drop n (map step_view steps)) ≡ total
    → (read_after (judged job) (map step_view (take (n + 1) steps)) (n + 1) (drop (n + 1) (map step_view steps)) ≡ total)
    × AreTaken (paths_of job (map step_view (take (n + 1) steps))) keys
step_done job steps n step within is keys total done taken so_far =
    rw (grown steps n step within is) (
      after_goes_on step_view step_view (judged job) (take n steps) step n steps step total within is done so_far,
      subst (λ l. AreTaken (paths_of job l) keys) (sym (map-append step_view (take n steps) (step ∷ []))) taken,
    )

-- no step is left
pub steps_done : (job : Job) (steps : List Step) (n : ℕ) → length steps ≤ n → (total : Result (List plain.Step) RecipeFault)
    → read_after (judged job) (map step_view (take n steps)) n (drop n (map step_view steps)) ≡ total
    → total ≡ Ok (map step_view steps)
steps_done job steps n past total so_far =
    after_is_done step_view step_view (judged job) (take n steps) n steps total past so_far
    ∙ ap (λ l. Ok (map step_view l)) (take_all n steps past)

pub nothing_left : {X : Type 0} (left : List X) → length left ≡ 0 → left ≡ []
nothing_left [] none = refl
nothing_left (x ∷ left) none = absurd (omega (arith, none))
