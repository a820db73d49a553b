use Rattle.std.proofs.lemmas.Result.{err_from_is_err_and}
use Rattle.vk_looking.specs.LookMachine.{now_means}
use Rattle.vk_make.specs.Makes.{looked, wanted_for}
use Rattle.vk_shared.specs.ItemMachine.{job_item, job_work, next_left}
use Rattle.vk_shared.proofs.PartSteps.{part_lacked, part_stepped, part_stopped}
use Rattle.vk_shared.proofs.items.look_on.Goals as goal

pub returns-in_err-at : goal.returns-in_err-at
returns-in_err-at g c s =
    let p = err_from_is_err_and c.from_residual.result c.from_residual.ensures.1 in
    let w = job_work s c.args.job.now in
    let i = job_item c.args.job.now in
    rw (p.1, p.2) (part_stopped (now_means (wanted_for w i) c.args.at) (now_means (wanted_for w i)) (looked w i) (next_left w i) _ (g.T.Tree.state c.args.tree.now) (g.T.Tree.state c.look_call.new.tree) (c.in_err-at.ensures s))

pub returns-in_err-look_next : goal.returns-in_err-look_next
returns-in_err-look_next g c s =
    let p = err_from_is_err_and c.from_residual-in_err-look_next.result c.from_residual-in_err-look_next.ensures.1 in
    let w = job_work s c.args.job.now in
    let i = job_item c.args.job.now in
    rw (p.1, p.2) (part_lacked (now_means (wanted_for w i) c.args.at) (now_means (wanted_for w i)) (looked w i) (next_left w i) c.in_ok-at.at _ (g.T.Tree.state c.args.tree.now) (g.T.Tree.state c.look_call.new.tree) (c.in_ok-at.ensures s))

pub returns : goal.returns
returns g c s =
    let w = job_work s c.args.job.now in
    let i = job_item c.args.job.now in
    part_stepped (now_means (wanted_for w i) c.args.at) (now_means (wanted_for w i)) (looked w i) (next_left w i) c.in_ok-at.at c.in_ok-look_next.field-0 (g.T.Tree.state c.args.tree.now) (g.T.Tree.state c.look_call.new.tree) (c.in_ok-at.ensures s) (c.in_ok-look_next.ensures s)
