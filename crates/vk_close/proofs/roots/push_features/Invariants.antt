use Rattle.std.proofs.Common.{◌≡◌, ◌++◌, ◌∷◌, [], take}
use Rattle.std.specs.Prelude.{flat_map}
use Rattle.vk_base.specs.FeatureViews.{feature_view}
use Rattle.vk_worklist.specs.Entries.{reasons_in}
use Rattle.vk_close.specs.Roots.{root_reason}
use Rattle.vk_close.proofs.roots.push_features.Given as goal

abbrev pub invariant-loop-feature : goal.invariant-loop-feature
invariant-loop-feature l = reasons_in l.given.items ≡ reasons_in l.initial.given.items ++ flat_map (λ f. root_reason l.triplet (feature_view f) ∷ []) (take l.feature-index l.features)
