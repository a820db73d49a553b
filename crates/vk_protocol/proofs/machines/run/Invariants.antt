use Rattle.vk_protocol.specs.Runs.{Leads, CanRunOn}
use Rattle.vk_protocol.proofs.machines.run.Given as goal

abbrev pub invariant-loop : goal.invariant-loop
invariant-loop g l = Leads (g.M.Machine.means l.initial.machine) (g.M.Machine.means l.machine) (g.T.Tree.state l.initial.tree) (g.T.Tree.state l.tree)
    × CanRunOn (g.M.Machine.means l.machine) (g.T.Tree.state l.tree)
