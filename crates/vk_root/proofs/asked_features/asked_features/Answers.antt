use Rattle.vk_root.specs.AskedNames.{names_view}
use Rattle.vk_root.proofs.asked_features.asked_features.Goals as goal

pub returns : goal.returns
returns c = c.in_ok-follow.ensures (names_view c.args.features.now) c.args.defaults (rw c.new-names.ensures.empty at c.in_ok-put_first.ensures)
