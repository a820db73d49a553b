use Rattle.std.proofs.Common.{◌≡◌, drop}
use Rattle.vk_json.proofs.RangeLemmas.{items_in_range, members_in_range}
use Rattle.vk_json.proofs.numbers.+range.Given as goal

abbrev pub invariant-are_items_in_range-loop-item : goal.invariant-are_items_in_range-loop-item
invariant-are_items_in_range-loop-item l = items_in_range (drop l.item-index l.items) ≡ items_in_range l.items

abbrev pub invariant-are_members_in_range-loop-value :
    goal.invariant-are_members_in_range-loop-value
invariant-are_members_in_range-loop-value l = members_in_range (drop l.value-index l.members) ≡ members_in_range l.members
