use Rattle.std.proofs.Common.{append_assoc}
use Rattle.vk_registry.proofs.paths.baseline_path.Goals as goal

pub returns : goal.returns
returns c = rw (c.in_ok-versions_path.ensures, append_assoc) at c.child-2.ensures
