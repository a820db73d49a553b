use Rattle.vk_publish.proofs.PublishKept.{publish_can, publish_keeps, publish_says}
use Rattle.vk_protocol.proofs.RunLemmas.{joined_ends}
use Rattle.vk_publish.specs.Entries.{entry_files}
use Rattle.vk_publish.specs.Publish.{publish_of}
use Rattle.vk_publish.proofs.publishing.publish.Goals as goal

pub publish_job-requires : goal.publish_job-requires
publish_job-requires g c = publish_can c.args.cache.now c.args.agent.now c.args.digest.now.bytes c.args.text.now c.args.built.now c.requires.apart (g.T.Tree.state c.args.tree.now) c.requires.clear

pub returns-clause-keeps : goal.returns-clause-keeps
returns-clause-keeps g c = publish_keeps c.args.cache.now c.args.agent.now c.args.digest.now.bytes c.args.text.now c.args.built.now c.requires.apart c.publish_job.result (g.T.Tree.state c.args.tree.now) (g.T.Tree.state c.publish_job.new.tree) c.requires.clear c.publish_job.ensures

pub returns-clause-says : goal.returns-clause-says
returns-clause-says g c = publish_says c.args.cache.now c.args.agent.now c.args.digest.now.bytes c.args.text.now c.args.built.now c.requires.apart c.publish_job.result _ (g.T.Tree.state c.args.tree.now) (g.T.Tree.state c.publish_job.new.tree) c.joined.ensures c.requires.clear c.publish_job.ensures

pub returns-clause-counts : goal.returns-clause-counts
returns-clause-counts g c = joined_ends (publish_of c.args.cache.now c.args.agent.now c.args.digest.now.bytes (entry_files c.args.text.now c.args.built.now)) c.joined.result c.publish_job.result (g.T.Tree.state c.args.tree.now) (g.T.Tree.state c.publish_job.new.tree) c.joined.ensures c.publish_job.ensures
