use Rattle.std.proofs.Common.{ap}
use Rattle.vk_shared.specs.ItemMachine.{job_item, job_work}
use Rattle.vk_shared.proofs.JobLemmas.{aside_may, aside_does}
use Rattle.vk_shared.proofs.items.aside_call.Goals as goal

pub aside_step-requires : goal.aside_step-requires
aside_step-requires g c = aside_may (λ s. job_work s c.args.job.now) (job_item c.args.job.now) c.target.result c.args.at (g.T.Tree.state c.args.tree.now) (λ s. record { cache = c.target.ensures.cache; agent = c.target.ensures.agent; digest = ap (λ d. d.bytes) c.target.ensures.digest }) c.requires

pub returns : goal.returns
returns g c s = aside_does (job_work s c.args.job.now) (job_item c.args.job.now) c.target.result c.args.at c.aside_step.result (g.T.Tree.state c.args.tree.now) (g.T.Tree.state c.aside_step.new.tree) (record { cache = c.target.ensures.cache; agent = c.target.ensures.agent; digest = ap (λ d. d.bytes) c.target.ensures.digest }) c.aside_step.ensures
