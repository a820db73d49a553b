use Rattle.std.proofs.Common.{◌≡◌, ◌∙◌, subst}
use Rattle.std.specs.List.Sorted.{IsPermutation}
use Rattle.std.proofs.lemmas.List.{take_all}
use Rattle.std.proofs.lemmas.List.Filters.{dedup_is}
use Rattle.std.proofs.lemmas.List.Kept.{IsStrictlySortedBy-dedup}
use Rattle.vk_planset.proofs.ListingLemmas.{feature_total, feature_ties, features_kept}
use Rattle.vk_planset.proofs.items.by_bytes.Goals as goal

pub returns-clause-ordered : goal.returns-clause-ordered
returns-clause-ordered c = rw (dedup_is _ _ _ c.dedup.ensures.filtered) (IsStrictlySortedBy-dedup feature_total feature_ties _ c.sort_unstable.ensures.sorted)

pub returns-clause-same : goal.returns-clause-same
returns-clause-same c =
    let whole : c.loop-feature.sorted.items ≡ c.args.features.now = c.loop-feature.invariant ∙ take_all c.loop-feature.feature-index c.args.features.now c.loop-feature-test.false in
    rw (dedup_is _ _ _ c.dedup.ensures.filtered) (features_kept c.args.features.now c.sort_unstable.new.self.items (subst (λ l. IsPermutation l c.sort_unstable.new.self.items) whole c.sort_unstable.ensures.permutation))
