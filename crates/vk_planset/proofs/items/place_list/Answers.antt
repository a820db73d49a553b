use Rattle.std.proofs.Common.{◌≡◌, ◌∙◌, ◌++◌, ap, subst}
use Rattle.std.specs.List.Sorted.{IsPermutation}
use Rattle.std.proofs.lemmas.List.Filters.{dedup_is}
use Rattle.vk_planset.proofs.ListingLemmas.{numbers_in_order}
use Rattle.vk_planset.proofs.items.place_list.Goals as goal

pub returns : goal.returns
returns c =
    let whole : c.extend_from_slice.new.self.items ≡ c.args.places.now = c.in_ok-extend_from_slice.ensures.items ∙ ap (λ l. l ++ c.args.places.now) c.in_ok-list.ensures.items in
    c.from_vec.ensures ∙ dedup_is _ _ _ c.dedup.ensures.filtered
    ∙ numbers_in_order c.args.places.now c.sort_unstable.new.self.items (subst (λ l. IsPermutation l c.sort_unstable.new.self.items) whole c.sort_unstable.ensures.permutation) c.sort_unstable.ensures.sorted
