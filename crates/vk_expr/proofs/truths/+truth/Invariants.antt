use Rattle.std.proofs.Common.{◌≡◌, drop, map}
use Rattle.vk_spec.specs.Conditions.{holds, all_hold, any_holds, conditions_of}
use Rattle.vk_expr.specs.Views.{condition_of}
use Rattle.vk_expr.proofs.truths.+truth.Given as goal

abbrev pub invariant-loop-member : goal.invariant-loop-member
invariant-loop-member l = all_hold (conditions_of (map condition_of (drop l.member-index l.member-items))) l.marks.names ≡ holds (condition_of l.e) l.marks.names

abbrev pub invariant-loop-member-2 : goal.invariant-loop-member-2
invariant-loop-member-2 l = any_holds (conditions_of (map condition_of (drop l.member-index l.member-items))) l.marks.names ≡ holds (condition_of l.e) l.marks.names
