use Rattle.std.proofs.Common.{[]}
use Rattle.vk_rows.proofs.Rooms.{can_write}
use Rattle.vk_rows.proofs.tree_calls.write_in_memory.Goals as goal

pub write-requires : goal.write-requires
write-requires c = can_write _ [] _ (c.has_room.ensures.0 c.if-has_room.true)
