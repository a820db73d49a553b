use Rattle.std.proofs.Common.{map}
use Rattle.std.specs.Prelude.{reverse}
use Rattle.vk_entry.specs.PackageViews.{file_view}
use Rattle.vk_gather.proofs.SeenSteps.{follow_take}
use Rattle.vk_gather.proofs.left.FilesLeft.take.Goals as goal

pub left_of-requires : goal.left_of-requires
left_of-requires c = follow_take (map file_view c.self.inside.files) (map file_view c.in_ok-files.files) c.self.inside.next c.args.bytes (reverse c.self.inside.todo) c.in_ok-files.ensures c.self.invariant
