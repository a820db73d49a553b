use Rattle.vk_sync.proofs.SyncBelow.{sync_below}
use Rattle.vk_sync.proofs.laws.only_what_lies_below_the_root_changes.Goals as goal

pub returns : goal.returns
returns c = sync_below
