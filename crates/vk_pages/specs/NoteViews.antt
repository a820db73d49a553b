-- What contracts see of the baselines that were read: plain data.
use Rattle.std.specs.Prelude.{List, map, Result, Ok, Err}
use Rattle.vk_registry.specs.Baselines.{Entry}
use Rattle.vk_registry.specs.declared.baselines.Baseline.{Baseline}
use Rattle.vk_files.specs.Readings.{Bad, bad_view}
use Rattle.vk_files.specs.declared.bad_files.BadFile.{BadFile}
use Rattle.vk_pages.specs.BaselineNotes.{BaselineNotes}
use Rattle.vk_pages.specs.declared.baselines.Baselines.{Baselines}

-- a baseline that was read, or the file that isn't one
abbrev pub read_view : Result Baseline BadFile → Result (List Entry) Bad
read_view (Ok baseline) = Ok baseline
read_view (Err bad) = Err (bad_view bad)

-- the notes on them, in the order in which they were read
abbrev pub notes_of : Baselines → BaselineNotes
notes_of b = map (λ e. (e.0, read_view e.1)) b.read.entries
