use Rattle.vk_files.specs.Kept.{paths_of}
use Rattle.vk_opening.specs.Views.{layout_view}
use Rattle.vk_app.proofs.DoneLemmas.{load_ends}
use Rattle.vk_app.proofs.tasks.load_on.Goals as goal

pub returns : goal.returns
returns g c = load_ends c.args.size c.args.project.now c.args.setting.now (layout_view c.args.layout) (paths_of c.args.archive.kept) c.resolved_on-found.result.outcome _ (g.T.Tree.state c.args.archive.tree) _ c.requires c.resolved_on-found.ensures.content c.resolved_on-found.ensures.reads c.end_of_load.ensures
