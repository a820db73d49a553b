use Rattle.vk_resolution.proofs.SupersededLemmas.{minimum_counts, reach_goes}
use Rattle.vk_resolution.proofs.superseded.superseded_versions_count_and_go.Goals as goal

pub returns-clause-counts : goal.returns-clause-counts
returns-clause-counts c = minimum_counts

pub returns-clause-goes : goal.returns-clause-goes
returns-clause-goes c = reach_goes
