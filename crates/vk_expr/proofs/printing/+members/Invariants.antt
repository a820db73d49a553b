use Rattle.std.proofs.Common.{◌≡◌, ◌++◌, drop, map}
use denote.Text.{Utf8}
use denote.Shadow.{shadow}
use Rattle.vk_spec.specs.Conditions.{conditions_of}
use Rattle.vk_expr.specs.Printing.{members_of}
use Rattle.vk_expr.specs.Views.{condition_of}
use Rattle.vk_expr.proofs.PrintLemmas.{left_of}
use Rattle.vk_expr.proofs.printing.+members.Given as goal

abbrev pub invariant-push_members-loop-member : goal.invariant-push_members-loop-member
invariant-push_members-loop-member l = shadow (Utf8 l.between) × (l.out ++ left_of l.between l.sign (conditions_of (map condition_of (drop l.member-index l.members))) ≡ l.initial.out ++ members_of l.sign (conditions_of (map condition_of l.members)))
