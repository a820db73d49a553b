use Rattle.vk_folder.proofs.PieceLemmas.{pieces_listed}
use Rattle.vk_folder.proofs.WalkedLemmas.{seen_on, unseen_on, unwalked_reads}
use Rattle.vk_folder.proofs.digests.paths_below.Goals as goal

pub returns-in-Ok-clause-is : goal.returns-in-Ok-clause-is
returns-in-Ok-clause-is g c = seen_on c.args.folder.now c.in-Ok.paths (g.T.Tree.state c.args.tree.now) c.in-Ok.ensures.is

pub returns-in-Err-clause-is : goal.returns-in-Err-clause-is
returns-in-Err-clause-is g c = rw (c.unwalked.ensures) (unseen_on c.args.folder.now c.in-Err.stop (g.T.Tree.state c.args.tree.now) c.in-Err.ensures.is)

pub returns-in-Ok-clause-reads : goal.returns-in-Ok-clause-reads
returns-in-Ok-clause-reads g c = pieces_listed c.in-Ok.ensures.reads

pub returns-in-Err-clause-reads : goal.returns-in-Err-clause-reads
returns-in-Err-clause-reads g c = rw (c.unwalked.ensures) (unwalked_reads c.in-Err.stop c.in-Err.ensures.reads)
