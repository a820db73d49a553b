use Rattle.std.proofs.lemmas.Result.{IfOk-weaker}
use Rattle.vk_root.proofs.GrowthLemmas.{grows_then}
use Rattle.vk_root.proofs.asked_features.put_first.Goals as goal

pub returns : goal.returns
returns c = IfOk-weaker c.put_default.result _ _ (λ done last. grows_then c.in_ok-put.ensures (grows_then c.in_ok-put_all.ensures last)) c.put_default.ensures
