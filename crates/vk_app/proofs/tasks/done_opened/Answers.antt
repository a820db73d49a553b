use Rattle.vk_files.specs.Kept.{paths_of}
use Rattle.vk_app.proofs.DoneLemmas.{ends_ready, ends_refused}
use Rattle.vk_app.proofs.tasks.done_opened.Goals as goal

pub returns-in-Ready : goal.returns-in-Ready
returns-in-Ready g c = λ distinct. ends_ready c.args.task.now c.args.opened c.in-Ready.setting c.in-Ready.layout _ (paths_of c.args.archive.kept) _ _ c.in-Ready.is (c.done_on-ended.ensures distinct)

pub returns-in-Refused : goal.returns-in-Refused
returns-in-Refused g c = λ distinct. ends_refused c.args.task.now c.args.opened c.in-Refused.early _ (paths_of c.args.archive.kept) _ _ c.in-Refused.is (c.done_refused.ensures (paths_of c.args.archive.kept) distinct)
