-- Which items stand in a report, and how they are put together from what is read.
use Rattle.std.specs.Prelude.{◌≡◌, ℕ, List, [], map}
use Rattle.vk_spec.specs.Versions.{Version}
use Rattle.vk_base.specs.FeatureViews.{feature_view}
use Rattle.vk_base.specs.declared.features.FeatureName.{FeatureName}
use Rattle.vk_resolution.specs.Planning.{Item}
use Rattle.vk_forms.specs.Lines.{IsLine}
use Rattle.vk_forms.specs.Features.{AreFeatures}
use Rattle.vk_forms.specs.Forms.{pair_plain}
use Rattle.vk_forms.specs.Names.{IsRightInstance}
use Rattle.vk_forms.specs.Versions.{IsRightVersion}

-- what an item depends on isn't printed
pub record IsRightItem (item : Item) : Type 0 where
  pub instance : IsRightInstance item.instance
  pub version : IsRightVersion item.version
  pub line : IsLine item.line
  pub features : AreFeatures item.features
  pub needs : item.needs ≡ []

abbrev pub ItemParts : Type 0
ItemParts = List ℕ × (List ℕ × (Version × (ℕ × List (List ℕ))))

abbrev pub item_parts : List ℕ × (List ℕ × (Version × (ℕ × List FeatureName))) → ItemParts
item_parts = pair_plain (λ x. x) (pair_plain (λ x. x) (pair_plain (λ x. x) (pair_plain (λ x. x) (map feature_view))))

abbrev pub item_of : ItemParts → Item
item_of p = record {
  instance = record { port = p.0; triplet = p.1.0 };
  version = p.1.1.0;
  line = p.1.1.1.0;
  features = p.1.1.1.1;
  needs = [];
}
