use Rattle.std.proofs.Common.{◌≡◌, true, false, refl, sym, ◌∙◌, subst}
use Rattle.std.specs.Prelude.{bytes_eq, map}
use Rattle.std.specs.List.{Contains}
use Rattle.std.proofs.lemmas.Bool.Decides.{not_from_Decides}
use Rattle.std.proofs.lemmas.Slice.Eq.{bytes_eq-Decides}
use Rattle.vk_spec.specs.Manifests.{core}
use Rattle.vk_base.specs.FeatureViews.{feature_view}
use Rattle.vk_resolution.proofs.Members.{map_contains}
use Rattle.vk_abi_text.proofs.Lasts.{none_all, none_more}
use Rattle.vk_abi_text.proofs.readers.has_core.Goals as goal

pub returns-then-eq : goal.returns-then-eq
returns-then-eq c =
    let is : feature_view c.feature-item.result ≡ core = sym c.as_str.ensures ∙ (bytes_eq-Decides c.as_str.result.now core).0 (sym c.if-eq.ensures) in (
      (λ u. subst (Contains (map feature_view c.args.features.now)) is (map_contains feature_view c.args.features.now c.feature-item.result (c.loop-feature.feature-index, c.loop-feature-test.true, sym c.feature-item.is))),
      (λ h. refl),
    )

pub loop-feature-preserved : goal.loop-feature-preserved
loop-feature-preserved c =
    none_more feature_view c.args.features.now c.loop-feature.feature-index core c.feature-item.result c.loop-feature-test.true c.feature-item.is c.loop-feature.invariant
    (λ e. not_from_Decides (bytes_eq c.as_str.result.now core) (bytes_eq-Decides c.as_str.result.now core) (sym c.if-eq.ensures) (c.as_str.ensures ∙ e))

pub returns : goal.returns
returns c = (
  (λ e. absurd (let clash : false ≡ true = e in (cc))),
  (λ h. absurd (none_all feature_view c.args.features.now c.loop-feature.feature-index core c.loop-feature-test.false c.loop-feature.invariant h)),
)
