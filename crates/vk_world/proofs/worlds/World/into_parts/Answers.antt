use Rattle.vk_files.specs.Views.{held}
use Rattle.vk_world.proofs.WorldLemmas.{read_since}
use Rattle.vk_world.proofs.worlds.World.into_parts.Goals as goal

pub returns-clause-read : goal.returns-clause-read
returns-clause-read g c = rw (← c.self.view_is) (rw c.into_parts-parts.ensures.tree (read_since c.self.inside.library (held g.T.Tree.state c.self.inside.archive) c.self.invariant c.known.ensures.distinct))
