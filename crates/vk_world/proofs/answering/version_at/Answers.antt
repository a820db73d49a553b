use Rattle.std.proofs.Common.{◌∙◌}
use Rattle.std.proofs.lemmas.Result.{IfOk-weaker}
use Rattle.vk_version.specs.AskViews.{ask_view}
use Rattle.vk_world.proofs.ListedLemmas.{row_on_page}
use Rattle.vk_world.proofs.answering.version_at.Goals as goal

pub returns-in-Registry : goal.returns-in-Registry
returns-in-Registry c port files =
    rw c.in-Registry.is (IfOk-weaker c.table_version.result _ _ (λ v told. told ∙ row_on_page port c.in-Registry.folder files c.in-Registry.table (ask_view c.args.ask.now)) c.table_version.ensures)
