use Rattle.std.proofs.lemmas.Result.{err_from_is_err_and}
use Rattle.vk_base.specs.Stops.{fault_in}
use Rattle.vk_triplet.proofs.ReadLemmas.{no_text, text_fault, text_read}
use Rattle.vk_triplet.proofs.triplets.read.Goals as goal

pub returns-in_default : goal.returns-in_default
returns-in_default c = no_text c.args.name.now c.args.bytes.now (c.in_default.ensures.cases.0)

pub returns-in_err-vars : goal.returns-in_err-vars
returns-in_err-vars c =
    let p = err_from_is_err_and c.from_residual.result c.from_residual.ensures.1 in
    let text = c.in-Ok.ensures.cases in
    rw (p.1, p.2) (text_fault c.args.name.now c.args.bytes.now (fault_in c.in_err-vars.field-0.0) text.1 (rw text.0 at c.in_err-vars.ensures))

pub returns : goal.returns
returns c =
    let text = c.in-Ok.ensures.cases in
    let read = text_read c.args.name.now c.args.bytes.now c.in_ok-vars.vars text.1 (rw text.0 at c.in_ok-vars.ensures) in
    rw c.in_ok-triplet_with.ensures read
