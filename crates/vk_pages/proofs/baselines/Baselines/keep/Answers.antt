use Rattle.vk_files.proofs.NotedLemmas.{kept_last}
use Rattle.vk_pages.specs.BaselineNotes.{same_served}
use Rattle.vk_pages.specs.NoteViews.{read_view}
use Rattle.vk_pages.proofs.baselines.Baselines.keep.Goals as goal

pub returns : goal.returns
returns c = kept_last read_view same_served c.args.self.now.read c.args.served c.args.read _ c.insert.result (c.insert.ensures.succeeds c.requires.room) c.insert.ensures.entries c.requires.new
