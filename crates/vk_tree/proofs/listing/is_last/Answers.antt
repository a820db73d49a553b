use Rattle.std.proofs.Common.{sym}
use Rattle.vk_tree.proofs.LastLemmas.{last_found, last_only}
use Rattle.vk_tree.proofs.listing.is_last.Goals as goal

pub returns-in-Some : goal.returns-in-Some
returns-in-Some c = (
  (λ is. last_found c.args.found.now c.in-Some.last.now c.args.name.now (sym c.in-Some.ensures.value) (c.is.ensures.0 is)),
  (λ last. c.is.ensures.1 (last_only c.args.found.now c.in-Some.last.now c.args.name.now (sym c.in-Some.ensures.value) last)),
)
