use Rattle.vk_resolution.proofs.EdgeLemmas.{edges_mean}
use Rattle.vk_resolution.proofs.edges.an_edge_is_a_dependency.Goals as goal

pub returns : goal.returns
returns c = edges_mean
