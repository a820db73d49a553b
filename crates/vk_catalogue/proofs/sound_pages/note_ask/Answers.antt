use Rattle.std.proofs.Common.{ap, ◌∙◌}
use Rattle.vk_spec.specs.Versions.{ask_of}
use Rattle.vk_version.specs.AskViews.{ask_view}
use Rattle.vk_catalogue.proofs.SoundLemmas.{told_new}
use Rattle.vk_catalogue.proofs.sound_pages.note_ask.Goals as goal

pub returns-clause-new : goal.returns-clause-new
returns-clause-new c = told_new c.args.seen.now.keys c.in_ok-ask.ask (ask_of c.args.row.now.version) c.in_ok-new.new (ap ask_view c.in_ok-ask.ensures.cases ∙ c.ask.ensures) c.in_ok-new.ensures.added
