use Rattle.vk_app.proofs.CheckLemmas.{report_is, report_read, report_small}
use Rattle.vk_app.proofs.checks.read_report.Goals as goal

pub returns-clause-seen : goal.returns-clause-seen
returns-clause-seen g c = report_is c.args.path.now c.read_apart.result c.read_apart.ensures.read

pub returns-clause-small : goal.returns-clause-small
returns-clause-small g c = report_small c.read_apart.result c.read_apart.ensures.read.small

pub returns-clause-reads : goal.returns-clause-reads
returns-clause-reads g c = report_read c.args.path.now c.read_apart.result c.read_apart.ensures.read
