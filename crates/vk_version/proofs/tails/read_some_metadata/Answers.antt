use Rattle.std.proofs.Common.{Ok, ap, sym, ◌∙◌}
use Rattle.semver.proofs.Grammar.{only_identifier-build}
use Rattle.vk_version.proofs.PieceLemmas.{metadata_there, no_metadata, told_fails}
use Rattle.vk_version.proofs.tails.read_some_metadata.Goals as goal

pub returns-in-Ok : goal.returns-in-Ok
returns-in-Ok c =
    let read = only_identifier-build c.args.text.now _ c.in-Ok.ensures.ok in
    rw (metadata_there c.args.text.now (sym c.is_empty.ensures ∙ c.if-is_empty.false) read.1)
    (ap Ok read.0)

pub returns-in-Err : goal.returns-in-Err
returns-in-Err c =
    told_fails _ _ _ _ _ c.semver_fault.ensures c.in-Err.ensures.err (no_metadata c.args.text.now _)
