use Rattle.std.proofs.Common.{map}
use Rattle.std.specs.Prelude.{reverse}
use Rattle.vk_entry.specs.PackageViews.{file_view}
use Rattle.vk_gather.proofs.SeenSteps.{follow_skip}
use Rattle.vk_gather.proofs.left.FilesLeft.skip.Goals as goal

pub left_of-requires : goal.left_of-requires
left_of-requires c = follow_skip (map file_view c.self.inside.files) c.self.inside.next (reverse c.self.inside.todo) c.self.invariant
