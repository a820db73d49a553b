use Rattle.vk_check.proofs.CompareLemmas.{few_of_short}
use Rattle.vk_check.proofs.comparing.compare.Goals as goal

pub compare_lines-requires : goal.compare_lines-requires
compare_lines-requires c = few_of_short c.args.report.now c.args.want.now c.requires
