use Rattle.std.proofs.Common.{Ok, Err, subst}
use Rattle.vk_entry.specs.Answers.{IsTold}
use Rattle.vk_entry.specs.ContentsIn.{contents_in}
use Rattle.vk_entry.proofs.ContentsFound.{told_in}
use Rattle.vk_looking.specs.LookMachine.{wanted_view}
use Rattle.vk_looking.proofs.lists.list_next.Goals as goal

pub returns-in-Ok : goal.returns-in-Ok
returns-in-Ok c = rw (told_in c.args.bytes.now (Ok c.in-Ok.lines) c.in-Ok.ensures, ← c.of.ensures) c.begin_walk.ensures

pub returns-in-Err-Fault : goal.returns-in-Err-Fault
returns-in-Err-Fault c =
    let none = subst (λ u. IsTold (contents_in c.args.bytes.now) (Err u)) c.in-Err-Fault.field-0-is (told_in c.args.bytes.now (Err c.in-Err-Fault.field-0) c.in-Err-Fault.ensures) in
    rw none (c.damaged.ensures (wanted_view c.args.wanted.now))
