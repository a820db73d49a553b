use Rattle.std.proofs.Common.{◌∙◌, sym, ap, map}
use Rattle.std.specs.Prelude.{option_map, Some, None}
use Rattle.vk_model.specs.Views.{dependency_view}
use Rattle.vk_root.proofs.FeatureLemmas.{found_dependencies}
use Rattle.vk_root.proofs.manifests.dependencies_in.Goals as goal

pub returns-in-Some : goal.returns-in-Some
returns-in-Some c =
    ap (map dependency_view) c.as_slice.ensures
    ∙ found_dependencies c.args.manifest.now c.args.name.now (Some c.in-Some.feature.now) (sym (ap (option_map (λ f. f.now)) c.in-Some.is) ∙ c.feature_of.ensures)

pub returns-in-None : goal.returns-in-None
returns-in-None c = found_dependencies c.args.manifest.now c.args.name.now None (sym (ap (option_map (λ f. f.now)) c.in-None.is) ∙ c.feature_of.ensures)
