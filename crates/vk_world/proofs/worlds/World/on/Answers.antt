use Rattle.std.proofs.Common.{◌∙◌, ap}
use Rattle.vk_files.specs.Views.{held}
use Rattle.vk_opening.specs.Views.{layout_view}
use Rattle.vk_world.specs.Worlds.{pages_in}
use Rattle.vk_world.proofs.WorldLemmas.{sound_on_start, origin_is}
use Rattle.vk_world.proofs.worlds.World.on.Goals as goal

pub invariant_of-result : goal.invariant_of-result
invariant_of-result g c = sound_on_start c.new-library.result (held g.T.Tree.state c.args.archive) (c.new-library.ensures.opened ∙ c.len.ensures) c.new-library.ensures.right

pub returns-clause-origin : goal.returns-clause-origin
returns-clause-origin g c = origin_is c.new-library.result (layout_view c.args.layout) (held g.T.Tree.state c.args.archive) (c.new-library.ensures.opened ∙ c.len.ensures) c.new-library.ensures.layout

pub returns-clause-pages : goal.returns-clause-pages
returns-clause-pages g c = ap (λ layout. pages_in layout (g.T.Tree.state c.args.archive.tree).told) c.new-library.ensures.layout
