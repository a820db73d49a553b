use Rattle.vk_app.proofs.tasks.done_on.Goals as goal

pub returns-in-Plan : goal.returns-in-Plan
returns-in-Plan g c = λ distinct. rw c.in-Plan.is c.plan_on.ensures

pub returns-in-Abi : goal.returns-in-Abi
returns-in-Abi g c = λ distinct. rw c.in-Abi.is c.text_on.ensures

pub returns-in-Check : goal.returns-in-Check
returns-in-Check g c = λ distinct. rw c.in-Check.is (c.check_on.ensures distinct)

pub returns-in-SelfLoad : goal.returns-in-SelfLoad
returns-in-SelfLoad g c = λ distinct. rw c.in-SelfLoad.is c.load_on.ensures
