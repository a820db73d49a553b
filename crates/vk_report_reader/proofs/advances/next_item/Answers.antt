use Rattle.std.proofs.Common.{map, ◌++◌, ◌∷◌, []}
use Rattle.vk_model.specs.FaultViews.{item_view}
use Rattle.vk_resolution.specs.Lines.{item_text}
use Rattle.vk_report_reader.specs.Items.{IsRightItem}
use Rattle.vk_report_reader.specs.Places.{WantsCount, items, plan_body}
use Rattle.vk_report_reader.proofs.PlaceLemmas.{numbered_more, numbered_none, put_more}
use Rattle.vk_report_reader.proofs.advances.next_item.Goals as goal

pub returns-in_ok-push-in-Some : goal.returns-in_ok-push-in-Some
returns-in_ok-push-in-Some c =
    numbered_more item_view item_text IsRightItem (λ x. items c.args.wanted (map item_view c.args.items ++ x ∷ [])) (WantsCount (plan_body (map item_view c.args.items))) c.args.items c.args.wanted c.next_number-number.result c.args.line.now (item_view c.in-Some.item)
    (items c.args.wanted (map item_view c.push.new.self)) c.requires c.next_number-number.ensures (rw c.in-Some.is at c.in_ok-item.ensures) (put_more item_view (items c.args.wanted) c.args.items c.push.new.self c.in-Some.item c.in_ok-push-in-Some.ensures.ok)

pub returns-in-None : goal.returns-in-None
returns-in-None c =
    numbered_none item_view item_text IsRightItem (λ x. items c.args.wanted (map item_view c.args.items ++ x ∷ [])) (WantsCount (plan_body (map item_view c.args.items))) c.args.items c.args.wanted c.next_number-number.result c.args.line.now
    c.requires c.next_number-number.ensures (rw c.in-None.is at c.in_ok-item.ensures)
