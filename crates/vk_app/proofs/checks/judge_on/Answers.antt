use Rattle.vk_files.specs.Kept.{paths_of}
use Rattle.vk_model.specs.SettingViews.{setting_view}
use Rattle.vk_opening.specs.Views.{layout_view}
use Rattle.vk_world.specs.Worlds.{state_of}
use Rattle.vk_app.specs.Checked.{Judges}
use Rattle.vk_app.proofs.CheckLemmas.{judge_ends}
use Rattle.vk_app.proofs.DoneLemmas.{pages_told}
use Rattle.vk_app.proofs.ReadLemmas.{tree_read_once}
use Rattle.vk_app.proofs.checks.judge_on.Goals as goal

pub returns : goal.returns
returns g c = judge_ends c.args.checked.project.now c.args.checked.report.now c.args.bytes.now c.args.setting.now (layout_view c.args.layout) c.judged_by-answer.result _ _ (g.T.Tree.state c.args.archive.tree) _ c.requires.ready
    (pages_told (layout_view c.args.layout) (g.T.Tree.state c.args.archive.tree).told (state_of g.T.Tree.state c.on-world.result).pages
    (λ pages. Judges (setting_view c.args.setting.now) pages c.args.bytes.now c.judged_by-answer.result) c.on-world.ensures.pages c.judged_by-answer.ensures.content)
    (tree_read_once (layout_view c.args.layout) (paths_of c.args.archive.kept) g.T.Tree.state c.on-world.result c.judged_by-answer.new.world c.args.archive c.into_parts-tree.result.tree
    c.on-world.ensures.archive c.into_parts-tree.ensures.tree c.on-world.ensures.origin c.judged_by-answer.ensures.asked c.into_parts-tree.ensures.read)
    c.end_of_judged.ensures
