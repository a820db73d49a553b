use Rattle.std.proofs.Common.{ap, ◌∙◌}
use Rattle.vk_base.specs.Stops.{has_failed, was_out}
use Rattle.vk_files.specs.Kept.{paths_of}
use Rattle.vk_model.specs.SettingViews.{setting_view, instance_view}
use Rattle.vk_opening.specs.Views.{layout_view}
use Rattle.vk_world.specs.Worlds.{state_of}
use Rattle.vk_app.specs.Resolutions.{Settles}
use Rattle.vk_app.specs.Resolved.{Resolves}
use Rattle.vk_app.proofs.DoneLemmas.{pages_told}
use Rattle.vk_app.proofs.ReadLemmas.{asked_each, tree_read_once}
use Rattle.vk_app.proofs.FolderLemmas.{have_outcome}
use Rattle.vk_app.proofs.TextLemmas.{text_ends, calm_found, fits_outcome}
use Rattle.vk_app.proofs.tasks.text_on.Goals as goal

pub returns : goal.returns
returns g c = text_ends c.args.wanted (layout_view c.args.layout) (paths_of c.args.archive.kept) (g.T.Tree.state c.args.archive.tree) (g.T.Tree.state c.into_parts-tree.result.tree) _ c.resolved_by-outcome.result c.find_spot-found.result _ (state_of g.T.Tree.state c.resolved_by-outcome.new.world)
    (c.resolved_by-outcome.ensures.asked.pages ∙ c.on-world.ensures.pages) (ap (λ o. o.places) (c.resolved_by-outcome.ensures.asked.origin ∙ c.on-world.ensures.origin))
    (pages_told (layout_view c.args.layout) (g.T.Tree.state c.args.archive.tree).told (state_of g.T.Tree.state c.on-world.result).pages
    (λ pages. Resolves (Settles (setting_view c.args.wanted.setting.now) pages) c.resolved_by-outcome.result) c.on-world.ensures.pages c.resolved_by-outcome.ensures.content)
    c.requires c.find_spot-found.ensures.finds
    (tree_read_once (layout_view c.args.layout) (paths_of c.args.archive.kept) g.T.Tree.state c.on-world.result c.find_spot-found.new.world c.args.archive c.into_parts-tree.result.tree
    c.on-world.ensures.archive c.into_parts-tree.ensures.tree c.on-world.ensures.origin
    (asked_each (has_failed c.resolved_by-outcome.result) (was_out c.find_spot-found.result) (calm_found (instance_view c.args.wanted.instance.now) c.resolved_by-outcome.result c.find_spot-found.result _ c.find_spot-found.ensures.finds) c.resolved_by-outcome.ensures.asked c.find_spot-found.ensures.asked)
    c.into_parts-tree.ensures.read)
    c.end_of_found.ensures

pub find_spot-found-requires : goal.find_spot-found-requires
find_spot-found-requires g c = have_outcome (setting_view c.args.wanted.setting.now) (layout_view c.args.layout) (g.T.Tree.state c.args.archive.tree).told (state_of g.T.Tree.state c.resolved_by-outcome.new.world) c.resolved_by-outcome.result
    (c.resolved_by-outcome.ensures.asked.pages ∙ c.on-world.ensures.pages)
    (pages_told (layout_view c.args.layout) (g.T.Tree.state c.args.archive.tree).told (state_of g.T.Tree.state c.on-world.result).pages
    (λ pages. Resolves (Settles (setting_view c.args.wanted.setting.now) pages) c.resolved_by-outcome.result) c.on-world.ensures.pages c.resolved_by-outcome.ensures.content)

pub end_of_found-requires : goal.end_of_found-requires
end_of_found-requires g c = fits_outcome (instance_view c.args.wanted.instance.now) c.resolved_by-outcome.result c.find_spot-found.result _ c.find_spot-found.ensures.finds
