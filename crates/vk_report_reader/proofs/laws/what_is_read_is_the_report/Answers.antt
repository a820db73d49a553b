use Rattle.vk_report_reader.proofs.WrittenAgain.{written_again}
use Rattle.vk_report_reader.proofs.laws.what_is_read_is_the_report.Goals as goal

pub returns : goal.returns
returns c = written_again
