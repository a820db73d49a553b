use Rattle.std.proofs.Common.{Ok, ap, sym, ◌∙◌}
use Rattle.semver.proofs.Grammar.{only_identifier-pre}
use Rattle.vk_version.proofs.PieceLemmas.{pre_there, no_pre, told_fails}
use Rattle.vk_version.proofs.tails.read_some_pre.Goals as goal

pub returns-in-Ok : goal.returns-in-Ok
returns-in-Ok c =
    let read = only_identifier-pre c.args.text.now _ c.in-Ok.ensures.ok in
    rw (pre_there c.args.text.now (sym c.is_empty.ensures ∙ c.if-is_empty.false) read.1)
    (ap Ok read.0)

pub returns-in-Err : goal.returns-in-Err
returns-in-Err c =
    told_fails _ _ _ _ _ c.semver_fault.ensures c.in-Err.ensures.err (no_pre c.args.text.now _)
