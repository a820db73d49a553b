use Rattle.vk_publish.proofs.AsideKept.{aside_can, aside_keeps, aside_says}
use Rattle.vk_protocol.proofs.RunLemmas.{joined_ends}
use Rattle.vk_publish.specs.Aside.{aside_of}
use Rattle.vk_publish.proofs.asides.set_aside.Goals as goal

pub aside_target-requires : goal.aside_target-requires
aside_target-requires g c = aside_can c.args.cache.now c.args.agent.now c.args.digest.now.bytes (g.T.Tree.state c.args.tree.now) c.requires.clear c.requires.stands

pub returns-clause-keeps : goal.returns-clause-keeps
returns-clause-keeps g c = aside_keeps c.args.cache.now c.args.agent.now c.args.digest.now.bytes c.aside_target.result (g.T.Tree.state c.args.tree.now) (g.T.Tree.state c.aside_target.new.tree) c.requires.clear c.requires.stands c.aside_target.ensures

pub returns-clause-says : goal.returns-clause-says
returns-clause-says g c = aside_says c.args.cache.now c.args.agent.now c.args.digest.now.bytes c.aside_target.result _ (g.T.Tree.state c.args.tree.now) (g.T.Tree.state c.aside_target.new.tree) c.joined.ensures c.requires.clear c.requires.stands c.aside_target.ensures

pub returns-clause-counts : goal.returns-clause-counts
returns-clause-counts g c = joined_ends (aside_of c.args.cache.now c.args.agent.now c.args.digest.now.bytes) c.joined.result c.aside_target.result (g.T.Tree.state c.args.tree.now) (g.T.Tree.state c.aside_target.new.tree) c.joined.ensures c.aside_target.ensures
