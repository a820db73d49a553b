use Rattle.std.proofs.Common.{ap, refl}
use Rattle.vk_shared.specs.ItemMachine.{job_item, job_work}
use Rattle.vk_shared.proofs.JobLemmas.{publish_may, publish_does}
use Rattle.vk_shared.proofs.items.publish_call.Goals as goal

pub publish_step-requires : goal.publish_step-requires
publish_step-requires g c = publish_may (λ s. job_work s c.args.job.now) (job_item c.args.job.now) _ c.args.built.now c.args.at (g.T.Tree.state c.args.tree.now) (λ s. record { cache = c.target.ensures.cache; agent = c.target.ensures.agent; digest = ap (λ d. d.bytes) c.target.ensures.digest }) c.as_slice.ensures refl c.requires

pub returns : goal.returns
returns g c s = publish_does (job_work s c.args.job.now) (job_item c.args.job.now) _ c.args.built.now c.args.at c.publish_step.result (g.T.Tree.state c.args.tree.now) (g.T.Tree.state c.publish_step.new.tree) (record { cache = c.target.ensures.cache; agent = c.target.ensures.agent; digest = ap (λ d. d.bytes) c.target.ensures.digest }) c.as_slice.ensures refl c.publish_step.ensures
