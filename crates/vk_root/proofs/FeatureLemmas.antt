-- The feature of a name, as it was read.
use Rattle.std.proofs.Common.{◌≡◌, ℕ, List, ap, sym, ◌∙◌}
use Rattle.std.specs.Prelude.{Option, option_map, bytes_eq}
use Rattle.std.specs.List.{find}
use Rattle.vk_spec.proofs.ListLemmas.{find_by}
use Rattle.vk_base.specs.FeatureViews.{feature_view}
use Rattle.vk_resolution.specs.Settings.{dependencies_in, feature_of}
use Rattle.vk_model.specs.Views.{manifest_view, port_feature_view}
use Rattle.vk_model.specs.declared.manifests.Feature.{Feature}
use Rattle.vk_model.specs.declared.manifests.Manifest.{Manifest}

-- the feature that is found is the feature of this name
pub found_feature : (m : Manifest) (name : List ℕ) (found : Option Feature) → found ≡ find (λ f. bytes_eq (feature_view f.name) name) m.features → option_map port_feature_view found ≡ feature_of (manifest_view m) name
found_feature m name found e = ap (option_map port_feature_view) e ∙ sym (find_by port_feature_view (λ g. bytes_eq g.name name) m.features)

-- and its dependencies are those of that one
pub found_dependencies : (m : Manifest) (name : List ℕ) (found : Option Feature) → found ≡ find (λ f. bytes_eq (feature_view f.name) name) m.features
    → dependencies_in (option_map port_feature_view found) ≡ dependencies_in (feature_of (manifest_view m) name)
found_dependencies m name found e = ap dependencies_in (found_feature m name found e)
