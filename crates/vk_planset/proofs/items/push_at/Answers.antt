use Rattle.std.proofs.Common.{◌++◌, ◌∙◌, ap, sym, map}
use Rattle.std.proofs.lemmas.List.{append-nil}
use Rattle.std.proofs.lemmas.Option.{slice_get_past}
use Rattle.vk_model.specs.FaultViews.{item_view}
use Rattle.vk_model.specs.SettingViews.{instance_view}
use Rattle.vk_planset.specs.Items.{at_end, made_of}
use Rattle.vk_planset.proofs.items.push_at.Goals as goal

pub returns-in-None : goal.returns-in-None
returns-in-None c =
    sym (append-nil (map item_view c.args.items.now))
    ∙ ap (λ o. map item_view c.args.items.now ++ at_end (made_of c.args.choices.now.ports.entries) (instance_view c.args.inst.now) o) (sym (slice_get_past c.args.seats.now c.args.place c.in-None.ensures.lookup.3))
