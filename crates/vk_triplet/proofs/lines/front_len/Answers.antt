use Rattle.std.proofs.lemmas.List.Sums.{prefix_len-le-length}
use Rattle.vk_triplet.specs.Views.{is_in}
use Rattle.vk_triplet.proofs.FrontLemmas.{front_end}
use Rattle.vk_triplet.proofs.lines.front_len.Goals as goal

pub returns-clause-count : goal.returns-clause-count
returns-clause-count c = rw (c.unwrap_or.ensures, c.other_at.ensures) (front_end (is_in c.args.kind) c.args.text.now)

pub returns-clause-within : goal.returns-clause-within
returns-clause-within c = rw (c.unwrap_or.ensures, c.other_at.ensures, front_end (is_in c.args.kind) c.args.text.now) (prefix_len-le-length (is_in c.args.kind) c.args.text.now)
