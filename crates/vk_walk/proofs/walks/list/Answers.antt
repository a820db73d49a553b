use Rattle.std.proofs.Common.{refl}
use Rattle.std.specs.Prelude.{Ok, Err}
use Rattle.vk_spec.specs.Calls.{missing, many}
use Rattle.vk_tree.specs.Answers.{entries_of}
use Rattle.vk_tree.specs.declared.trees.ListFault.TheVariants.{Missing, Many}
use Rattle.vk_walk.proofs.MachineLemmas.{reply_is}
use Rattle.vk_walk.proofs.walks.list.Goals as goal

pub returns-in-Ok-clause-asked : goal.returns-in-Ok-clause-asked
returns-in-Ok-clause-asked g c = (Ok (entries_of c.in-Ok.entries), c.in-Ok.ensures.made, refl)

pub returns-in-Err-Fault-Missing-clause-asked : goal.returns-in-Err-Fault-Missing-clause-asked
returns-in-Err-Fault-Missing-clause-asked g c =
    rw (c.new.ensures) (Err missing, reply_is c.args.path.now c.in-Err-Fault-Missing.field-0 c.in-Err-Fault-Missing.field-0-0 Missing (g.T.Tree.state c.args.tree.now) (g.T.Tree.state c.list.new.self) c.in-Err-Fault-Missing.field-0-is c.in-Err-Fault-Missing.field-0-0-is c.in-Err-Fault-Missing.ensures.made, refl)

pub returns-in-Err-Fault-Many-clause-asked : goal.returns-in-Err-Fault-Many-clause-asked
returns-in-Err-Fault-Many-clause-asked g c =
    (Err many, reply_is c.args.path.now c.in-Err-Fault-Many.field-0 c.in-Err-Fault-Many.field-0-0 Many (g.T.Tree.state c.args.tree.now) (g.T.Tree.state c.list.new.self) c.in-Err-Fault-Many.field-0-is c.in-Err-Fault-Many.field-0-0-is c.in-Err-Fault-Many.ensures.made, refl)
