use Rattle.std.proofs.Common.{rules}
use Rattle.std.proofs.lemmas.Fn.{always_returns_same}
use Rattle.vk_json.proofs.WrittenLemmas.{is_below, adjacent, adjacent_ascend}
use Rattle.vk_json.proofs.getters.ascends.Goals as goal

pub returns : goal.returns
returns c holds =
    adjacent_ascend c.args.object.now (adjacent c.args.object.now c.is_sorted_by.result holds (c.is_sorted_by.ensures.cases is_below (always_returns_same _ _ _ (λ a r f k. search rules))))
