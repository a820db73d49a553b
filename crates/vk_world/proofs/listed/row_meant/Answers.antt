use Rattle.std.proofs.Common.{◌∙◌, sym, refl}
use Rattle.vk_version.specs.AskViews.{ask_view}
use Rattle.vk_world.proofs.ListedLemmas.{row_is_meant, none_is_meant}
use Rattle.vk_world.proofs.listed.row_meant.Goals as goal

pub returns-in-Some : goal.returns-in-Some
returns-in-Some c = c.row_at.ensures.row ∙ row_is_meant c.args.table.now (ask_view c.args.ask.now) c.in-Some.place c.row_at.ensures.table.distinct c.in-Some.ensures.found

pub returns-in-None : goal.returns-in-None
returns-in-None c = sym (none_is_meant c.args.table.now (ask_view c.args.ask.now) (c.in-None.ensures.none.0 refl))
