-- Features in the order of their names.
use Rattle.std.specs.Prelude.{List, map}
use Rattle.vk_base.specs.FeatureViews.{feature_view}
use Rattle.vk_json.specs.KeyOrders.{Ascend}
use Rattle.vk_model.specs.declared.manifests.Feature.{Feature}

-- their names ascend, so none comes twice
abbrev pub AreInOrder : List Feature → Type 0
AreInOrder features = Ascend (map (λ f. feature_view f.name) features)
