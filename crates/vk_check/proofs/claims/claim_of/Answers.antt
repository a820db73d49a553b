use Rattle.std.proofs.Common.{sym}
use Rattle.vk_check.proofs.EntryLemmas.{claim_found, claim_missing}
use Rattle.vk_check.proofs.claims.claim_of.Goals as goal

pub returns-in-Some-clause-found : goal.returns-in-Some-clause-found
returns-in-Some-clause-found c = claim_found c.args.lines.now.entries c.args.fact.now c.in-Some.field-0-1.now c.in-Some.cause.now c.in-Some.place (sym c.in-Some.ensures.key) c.in-Some.ensures.entry

pub returns-in-None-clause-found : goal.returns-in-None-clause-found
returns-in-None-clause-found c = claim_missing c.args.lines.now.entries c.args.fact.now (sym c.in-None.ensures.value)
