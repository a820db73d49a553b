use Rattle.std.proofs.Common.{length, map}
use Rattle.vk_model.specs.SettingViews.{instance_view}
use Rattle.vk_report_reader.proofs.CycleForms.{WalksAlong}
use Rattle.vk_report_reader.proofs.cycles.read_walk.Given as goal

abbrev pub invariant-loop-rest : goal.invariant-loop-rest
invariant-loop-rest l = WalksAlong l.text l.rest (map instance_view l.walk)

abbrev pub decreases-loop-rest : goal.decreases-loop-rest
decreases-loop-rest l = length l.rest
