use Rattle.vk_app.proofs.EndLemmas.{ends_over, ends_load}
use Rattle.vk_app.proofs.tasks.done.Goals as goal

pub returns-in-Plan : goal.returns-in-Plan
returns-in-Plan g c = ends_over c.args.task.now _ _ _ (rw c.in-Plan.is (λ leaves. leaves)) c.done_over.ensures

pub returns-in-Abi : goal.returns-in-Abi
returns-in-Abi g c = ends_over c.args.task.now _ _ _ (rw c.in-Abi.is (λ leaves. leaves)) c.done_over-in-Abi.ensures

pub returns-in-Check : goal.returns-in-Check
returns-in-Check g c = ends_over c.args.task.now _ _ _ (rw c.in-Check.is (λ leaves. leaves)) c.done_over-in-Check.ensures

pub returns-in-SelfLoad : goal.returns-in-SelfLoad
returns-in-SelfLoad g c = rw (c.done_load.ensures.tree) (ends_load c.args.task.now c.in-SelfLoad.size _ _ _ c.in-SelfLoad.is c.done_load.ensures.end)
