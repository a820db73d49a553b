use Rattle.std.proofs.Common.{◌∙◌, sym}
use Rattle.vk_model.specs.FactViews.{fact_view}
use Rattle.vk_worklist.specs.Entries.{reasons_in}
use Rattle.vk_check.proofs.EntryLemmas.{is_claimed, line_put, not_claimed}
use Rattle.vk_check.proofs.claims.put_line.Goals as goal

pub returns-then-is_some : goal.returns-then-is_some
returns-then-is_some c = is_claimed (reasons_in c.args.lines.now.entries) (fact_view c.args.reason.now.fact) c.claim_of.result c.claim_of.ensures.found (sym c.is_some.ensures ∙ c.if-is_some.true)

pub returns : goal.returns
returns c =
    let unknown = not_claimed (reasons_in c.args.lines.now.entries) (fact_view c.args.reason.now.fact) c.claim_of.result c.claim_of.ensures.found (sym c.is_some.ensures ∙ c.if-is_some.false) in
    (unknown, line_put c.in_ok-fact.fact c.args.reason.now.cause c.args.lines.now.entries c.insert.new.self.entries (fact_view c.args.reason.now.fact) c.in_ok-fact.ensures unknown c.in_ok-insert.ensures.entries)
