use Rattle.vk_report_reader.proofs.AsShown.{read_as_shown, same_report, shown_only_so}
use Rattle.vk_report_reader.proofs.laws.a_report_is_read_as_what_it_shows.Goals as goal

pub returns-clause-same : goal.returns-clause-same
returns-clause-same c = same_report

pub returns-clause-read : goal.returns-clause-read
returns-clause-read c = read_as_shown

pub returns-clause-answer : goal.returns-clause-answer
returns-clause-answer c = shown_only_so
