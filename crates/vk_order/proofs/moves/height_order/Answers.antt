use Rattle.std.proofs.Common.{ℕ, map, ap, ◌∙◌}
use Rattle.std.specs.Prelude.{Option}
use Rattle.vk_order.proofs.HeightOrderLemmas.{height_order_is}
use Rattle.vk_order.proofs.moves.height_order.Goals as goal

pub returns : goal.returns
returns c = height_order_is _ _ _ _ c.in_ok-places.ensures c.in_ok-sort.ensures.permutation c.in_ok-sort.ensures.sorted (c.in_ok-places_of.ensures ∙ ap (map (λ (r : Option ℕ × ℕ). r.1)) c.deref.ensures.value)
