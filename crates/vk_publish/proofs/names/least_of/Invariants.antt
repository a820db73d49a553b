use Rattle.std.proofs.Common.{◌≡◌, ◌≤◌, ◌-◌, length}
use Rattle.vk_tree.specs.Answers.{entries_of}
use Rattle.vk_publish.specs.Names.{least_from}
use Rattle.vk_publish.proofs.names.least_of.Given as goal

abbrev pub invariant-loop-number : goal.invariant-loop-number
invariant-loop-number l =
    (least_from l.agent (entries_of l.listed) l.most 0 ≡ least_from l.agent (entries_of l.listed) (l.most - l.number) l.number)
    × (l.behind ≤ length l.listed)
