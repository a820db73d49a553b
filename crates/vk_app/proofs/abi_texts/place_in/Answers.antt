use Rattle.vk_resolution.specs.Settings.{same_instance}
use Rattle.vk_resolution.specs.Planning.{Item}
use Rattle.vk_model.specs.FaultViews.{item_view}
use Rattle.vk_model.specs.SettingViews.{instance_view}
use Rattle.vk_app.proofs.FolderLemmas.{place_in}
use Rattle.vk_app.proofs.abi_texts.place_in.Goals as goal

pub returns : goal.returns
returns c = rw (c.first_of.ensures, c.as_slice.ensures) (place_in (λ (item : Item). same_instance item.instance (instance_view c.args.instance.now)) item_view c.args.plan.now.items)
