use Rattle.std.proofs.Common.{◌∙◌, ap, map}
use Rattle.std.specs.Prelude.{option_and_then}
use Rattle.vk_resolution.specs.Settings.{same_instance}
use Rattle.vk_model.specs.SettingViews.{instance_view}
use Rattle.vk_planset.specs.Places.{fitting, place_among}
use Rattle.vk_planset.proofs.OrderLemmas.{position_view}
use Rattle.vk_planset.proofs.orders.place_of.Goals as goal

pub returns-in-Some : goal.returns-in-Some
returns-in-Some c =
    c.place_in.ensures ∙ ap (option_and_then fitting) (position_view instance_view (same_instance (instance_view c.in-Some.inst.now)) c.args.order.now.keys) ∙ ap (place_among (map instance_view c.args.order.now.keys)) c.in-Some.ensures
