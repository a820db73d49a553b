use Rattle.vk_resolution.proofs.ServiceLemmas.{plan_serves, pages_have_rows}
use Rattle.vk_resolution.proofs.plans.a_plan_serves_its_manifests.Goals as goal

pub returns-clause-serves : goal.returns-clause-serves
returns-clause-serves c = plan_serves

pub returns-clause-overlays : goal.returns-clause-overlays
returns-clause-overlays c = pages_have_rows
