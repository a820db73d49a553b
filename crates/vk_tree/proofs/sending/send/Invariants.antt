use Rattle.std.proofs.Common.{◌≡◌, ◌++◌, ℕ, List, false, length}
use Rattle.vk_spec.specs.Sinks.{Sent}
use Rattle.vk_tree.proofs.sending.send.Given as goal

-- the first part was sent, no call failed, and the rest is left
abbrev pub invariant-loop-rest : goal.invariant-loop-rest
invariant-loop-rest g l = ((g.S.Sink.state l.sink).failures ≡ (g.S.Sink.state l.initial.sink).failures) × (front : List ℕ) × (l.bytes ≡ front ++ l.rest) × Sent front false (g.S.Sink.state l.initial.sink) (g.S.Sink.state l.sink)

abbrev pub decreases-loop-rest : goal.decreases-loop-rest
decreases-loop-rest g l = length l.rest
