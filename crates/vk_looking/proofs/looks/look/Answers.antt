use Rattle.vk_protocol.specs.Asking.{split}
use Rattle.vk_look.specs.LookIs.{wanted_in}
use Rattle.vk_looking.proofs.LookSteps.{look_limit, look_told, look_once}
use Rattle.vk_looking.proofs.looks.look.Goals as goal

pub returns-clause-is : goal.returns-clause-is
returns-clause-is g c = look_told (wanted_in c.args.cache.now c.args.hash.now.bytes c.args.text.now c.args.most) (split c.joined.result) (g.T.Tree.state c.args.tree.now) (g.T.Tree.state c.look_in.new.tree) (rw c.joined.ensures c.look_in.ensures)

pub returns-clause-reads : goal.returns-clause-reads
returns-clause-reads g c = look_once (wanted_in c.args.cache.now c.args.hash.now.bytes c.args.text.now c.args.most) (split c.joined.result) (g.T.Tree.state c.args.tree.now) (g.T.Tree.state c.look_in.new.tree) (rw c.joined.ensures c.look_in.ensures)

pub returns-clause-limit : goal.returns-clause-limit
returns-clause-limit g c = look_limit (wanted_in c.args.cache.now c.args.hash.now.bytes c.args.text.now c.args.most) (split c.joined.result) (g.T.Tree.state c.args.tree.now) (g.T.Tree.state c.look_in.new.tree) (rw c.joined.ensures c.look_in.ensures)
