use Rattle.std.proofs.Common.{sym, ◌∙◌}
use Rattle.vk_json.proofs.RangeLemmas.{items_step, items_end, members_step, members_end, ends_at, goes_on_at, object_too}
use Rattle.vk_json.proofs.numbers.+range.Goals as goal

pub are_items_in_range-returns-then-not-are_in_range :
    goal.are_items_in_range-returns-then-not-are_in_range
are_items_in_range-returns-then-not-are_in_range t c =
    ends_at _ c.loop-item.invariant (items_step c.args.items.now c.loop-item.item-index c.item-item.result c.loop-item-test.true c.item-item.is) c.if-not-are_in_range.ensures

pub are_items_in_range-loop-item-preserved : goal.are_items_in_range-loop-item-preserved
are_items_in_range-loop-item-preserved t c =
    goes_on_at c.loop-item.invariant (items_step c.args.items.now c.loop-item.item-index c.item-item.result c.loop-item-test.true c.item-item.is) c.if-not-are_in_range.ensures

pub are_items_in_range-returns : goal.are_items_in_range-returns
are_items_in_range-returns t c = sym (items_end c.args.items.now c.loop-item.item-index c.loop-item-test.false) ∙ c.loop-item.invariant

pub are_members_in_range-returns-then-not-are_in_range :
    goal.are_members_in_range-returns-then-not-are_in_range
are_members_in_range-returns-then-not-are_in_range t c =
    ends_at _ c.loop-value.invariant (members_step c.args.members.now c.loop-value.value-index c.loop-value-item.result c.loop-value-test.true c.loop-value-item.is) c.if-not-are_in_range.ensures

pub are_members_in_range-loop-value-preserved : goal.are_members_in_range-loop-value-preserved
are_members_in_range-loop-value-preserved t c =
    goes_on_at c.loop-value.invariant (members_step c.args.members.now c.loop-value.value-index c.loop-value-item.result c.loop-value-test.true c.loop-value-item.is) c.if-not-are_in_range.ensures

pub are_members_in_range-returns : goal.are_members_in_range-returns
are_members_in_range-returns t c = sym (members_end c.args.members.now c.loop-value.value-index c.loop-value-test.false) ∙ c.loop-value.invariant

pub are_in_range-returns-in-Object : goal.are_in_range-returns-in-Object
are_in_range-returns-in-Object t c = object_too c.args.value.now c.in-Object.members c.as_slice-in-Object.ensures.value c.in-Object.is c.are_members_in_range.ensures
