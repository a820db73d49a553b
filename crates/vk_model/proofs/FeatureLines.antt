-- Features with commas between.
use Rattle.std.proofs.Common.{◌≡◌, ◌++◌, ◌∷◌, ℕ, List, [], ap}
use Rattle.std.proofs.lemmas.List.{append-nil}
use Rattle.vk_base.specs.Tokens.{token_of}
use Rattle.vk_model.specs.Lines.{features_text, more_features_text}

-- the first, and then each behind a comma
pub features_joined : (f : List ℕ) (fs : List (List ℕ)) → token_of f ++ more_features_text fs ≡ features_text (f ∷ fs)
features_joined f [] = append-nil (token_of f)
features_joined f (g ∷ fs) = ap (λ l. token_of f ++ 44 ∷ l) (features_joined g fs)
