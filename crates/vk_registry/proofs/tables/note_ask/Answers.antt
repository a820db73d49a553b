use Rattle.std.proofs.Common.{ap, ◌∙◌}
use Rattle.vk_version.specs.AskViews.{ask_view}
use Rattle.vk_registry.specs.Tables.{ask_in}
use Rattle.vk_registry.specs.TableViews.{row_view}
use Rattle.vk_registry.proofs.AskLemmas.{told_new, told_twice}
use Rattle.vk_registry.proofs.tables.note_ask.Goals as goal

pub returns-then-new-clause-new : goal.returns-then-new-clause-new
returns-then-new-clause-new c =
    told_new c.args.asks.now.keys c.in_ok-ask.ask (ask_in (row_view c.args.row.now)) c.in_ok-new.new
    (ap ask_view c.in_ok-ask.ensures.cases ∙ c.ask.ensures) c.in_ok-new.ensures.added c.if-new.true

pub returns-clause-new : goal.returns-clause-new
returns-clause-new c =
    rw c.wrong.ensures (told_twice c.args.asks.now.keys c.in_ok-ask.ask
    (ask_in (row_view c.args.row.now)) c.in_ok-new.new
    (ap ask_view c.in_ok-ask.ensures.cases
    ∙ c.ask.ensures) c.in_ok-new.ensures.added c.if-new.false)
