use Rattle.vk_rows.proofs.Rooms.{can_move}
use Rattle.vk_rows.proofs.tree_calls.move_in_memory.Goals as goal

pub rename-requires : goal.rename-requires
rename-requires c = can_move _ _ _ (c.has_room.ensures.0 c.if-has_room.true) (c.are_apart.ensures.left c.if-are_apart.true) (c.are_apart.ensures.right c.if-are_apart.true)
