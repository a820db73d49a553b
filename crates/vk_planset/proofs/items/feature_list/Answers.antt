use Rattle.std.proofs.Common.{◌≡◌, ◌++◌, ◌∙◌, ap, map, filter, not, subst, sym}
use Rattle.std.specs.List.Sorted.{IsStrictlySortedBy}
use Rattle.std.specs.Prelude.{bytes_eq}
use Rattle.vk_spec.specs.Manifests.{core}
use Rattle.vk_resolution.specs.Planning.{feature_key}
use Rattle.vk_resolution.proofs.FactLemmas.{feature_key-IsKey}
use Rattle.vk_base.specs.FeatureViews.{feature_view}
use Rattle.vk_planset.specs.Members.{HaveSame, feature_cmp}
use Rattle.vk_planset.proofs.ListingLemmas.{features_in_order}
use Rattle.vk_planset.proofs.MemberLemmas.{order_one}
use Rattle.vk_planset.proofs.items.feature_list.Goals as goal

pub returns : goal.returns
returns c =
    let sorted = c.as_slice-sorted.result.now in
    let is : sorted ≡ c.in_ok-features.features.items = c.as_slice-sorted.ensures.value in
    let fs = map feature_view sorted in
    features_in_order sorted (map feature_view c.push_others.new.list) (subst (IsStrictlySortedBy feature_cmp) (sym is) c.in_ok-features.ensures.ordered)
    (c.in_ok-push_others.ensures
    ∙ ap (λ l. l ++ filter (λ f. not (bytes_eq f core)) fs) (c.in_ok-push_core.ensures ∙ ap (λ l. map feature_view l ++ filter (λ f. bytes_eq f core) fs) c.in_ok-list.ensures))
    ∙ order_one feature_key feature_key-IsKey fs (map feature_view c.args.features.now) (subst (λ l. HaveSame (map feature_view l) (map feature_view c.args.features.now)) (sym is) c.in_ok-features.ensures.same)
