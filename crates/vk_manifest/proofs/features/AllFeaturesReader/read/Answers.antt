use Rattle.vk_json.specs.Values.{view}
use Rattle.vk_manifest.proofs.FeatureOrders.{read_in_order}
use Rattle.vk_manifest.proofs.features.AllFeaturesReader.read.Goals as goal

pub new-requires : goal.new-requires
new-requires c = read_in_order (view c.args.value.now) c.in_ok-list.list c.in_ok-list.ensures.read c.in_ok-list.ensures.order
