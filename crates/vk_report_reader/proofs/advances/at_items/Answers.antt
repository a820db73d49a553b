use Rattle.std.proofs.Common.{arith, map, ◌++◌, ◌∷◌, []}
use Rattle.vk_model.specs.FaultViews.{item_view}
use Rattle.vk_resolution.specs.Lines.{item_text}
use Rattle.vk_report_reader.specs.Items.{IsRightItem}
use Rattle.vk_report_reader.specs.Places.{WantsAs, items, numbered, plan_body}
use Rattle.std.specs.Prelude.{option_map}
use Rattle.vk_report_reader.specs.PlaceViews.{place_view}
use Rattle.vk_forms.proofs.Found.{if_ok_then}
use Rattle.vk_report_reader.proofs.PlaceLemmas.{counts_on, more_false}
use Rattle.vk_report_reader.proofs.advances.at_items.Goals as goal

pub returns : goal.returns
returns c =
    if_ok_then c.at_reason_count.result
    (λ next counted. counts_on _ (WantsAs (numbered (map item_view c.args.items) item_text) IsRightItem (λ x. items c.args.wanted (map item_view c.args.items ++ x ∷ []))) (plan_body (map item_view c.args.items)) c.args.line.now (option_map place_view next)
    (more_false item_view c.args.items c.args.wanted (omega (arith, c.if-len-wanted.false, c.len.ensures))) counted)
    c.at_reason_count.ensures
