use Rattle.std.proofs.Common.{ap, refl}
use Rattle.std.proofs.lemmas.Fn.{always_returns_same}
use Rattle.std.proofs.lemmas.List.MinMax.{ranks_by}
use Rattle.std.specs.Ordering.{is_lt}
use Rattle.vk_base.specs.Paths.{text_of_path}
use Rattle.vk_walk.specs.Walks.{text_order}
use Rattle.vk_tree.proofs.PlaceLemmas.{part_total}
use Rattle.vk_walk.proofs.walking.in_order_of_texts.Goals as goal

pub returns-clause-order : goal.returns-clause-order
returns-clause-order c =
    rw (c.from_vec.ensures) (c.sort_unstable_by.ensures.sorted (λ p q. is_lt (text_order p q)) (ranks_by part_total text_of_path) (always_returns_same _ _ _ (λ a r f k. (ap is_lt k.met, refl))))
