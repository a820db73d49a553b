use Rattle.vk_files.specs.Kept.{paths_of}
use Rattle.vk_model.specs.SettingViews.{setting_view}
use Rattle.vk_opening.specs.Views.{layout_view}
use Rattle.vk_world.specs.Worlds.{state_of}
use Rattle.vk_app.specs.Resolutions.{Settles}
use Rattle.vk_app.specs.Resolved.{Resolves}
use Rattle.vk_app.proofs.DoneLemmas.{pages_told}
use Rattle.vk_app.proofs.ReadLemmas.{tree_read_once}
use Rattle.vk_app.proofs.tasks.resolved_on.Goals as goal

pub returns-clause-content : goal.returns-clause-content
returns-clause-content g c = pages_told (layout_view c.args.layout) (g.T.Tree.state c.args.archive.tree).told (state_of g.T.Tree.state c.on-world.result).pages
    (λ pages. Resolves (Settles (setting_view c.args.setting.now) pages) c.resolved_by-outcome.result) c.on-world.ensures.pages c.resolved_by-outcome.ensures.content

pub returns-clause-reads : goal.returns-clause-reads
returns-clause-reads g c = tree_read_once (layout_view c.args.layout) (paths_of c.args.archive.kept) g.T.Tree.state c.on-world.result c.resolved_by-outcome.new.world c.args.archive c.into_parts-tree.result.tree
    c.on-world.ensures.archive c.into_parts-tree.ensures.tree c.on-world.ensures.origin c.resolved_by-outcome.ensures.asked c.into_parts-tree.ensures.read
