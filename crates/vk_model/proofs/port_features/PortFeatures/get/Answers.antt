use Rattle.std.proofs.Common.{rules, ap, ◌∙◌, bytes_eq}
use Rattle.std.specs.Prelude.{Some}
use Rattle.std.specs.List.{find}
use Rattle.std.specs.Ordering.{nat_cmp}
use Rattle.std.specs.Cmp.Lexicographic.{slice_cmp}
use Rattle.std.proofs.lemmas.Fn.{always_returns_same}
use Rattle.vk_base.specs.FeatureViews.{feature_view}
use Rattle.vk_model.proofs.Searches.{comparisons_rise, place_found, place_missing}
use Rattle.vk_model.proofs.port_features.PortFeatures.get.Goals as goal

pub returns-in-Ok : goal.returns-in-Ok
returns-in-Ok c =
    let equal = c.in-Ok.ensures.position (λ f. slice_cmp nat_cmp (feature_view f.name) c.args.name.now) (always_returns_same _ _ _ (λ a r f k. search rules)) in
    ap (λ f. Some f) c.index-features-place.is
    ∙ place_found (λ f. feature_view f.name) c.args.name.now c.as_slice-features.result.now (rw c.as_slice-features.ensures c.self.invariant) c.in-Ok.place
    c.index-features-place.result c.in-Ok.ensures.bound (equal c.index-features-place.result)
    ∙ ap (find (λ f. bytes_eq (feature_view f.name) c.args.name.now)) (c.as_slice-features.ensures ∙ c.self.view_is)

pub returns-in-Err : goal.returns-in-Err
returns-in-Err c =
    let parted = c.in-Err.ensures.position (λ f. slice_cmp nat_cmp (feature_view f.name) c.args.name.now) (always_returns_same _ _ _ (λ a r f k. search rules))
    (comparisons_rise (λ f. feature_view f.name) c.args.name.now c.as_slice-features.result.now (rw c.as_slice-features.ensures c.self.invariant)) in
    place_missing (λ f. feature_view f.name) c.args.name.now c.as_slice-features.result.now (rw c.as_slice-features.ensures c.self.invariant) c.in-Err.field-0 parted
    ∙ ap (find (λ f. bytes_eq (feature_view f.name) c.args.name.now)) (c.as_slice-features.ensures ∙ c.self.view_is)
