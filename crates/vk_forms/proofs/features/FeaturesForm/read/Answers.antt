use Rattle.std.proofs.Common.{map, sym}
use Rattle.std.specs.Prelude.{bytes_eq, option_map}
use Rattle.std.proofs.lemmas.Bool.Decides.{not_from_Decides}
use Rattle.std.proofs.lemmas.Slice.Eq.{bytes_eq-Decides}
use Rattle.vk_spec.specs.Manifests.{core}
use Rattle.vk_base.specs.FeatureViews.{feature_view}
use Rattle.vk_forms.proofs.Found.{if_ok_then}
use Rattle.vk_forms.proofs.FeatureForms.{core_read, named_read, no_first, other_first}
use Rattle.vk_forms.proofs.features.FeaturesForm.read.Goals as goal

pub returns-then-eq : goal.returns-then-eq
returns-then-eq c = core_read c.args.text.now (map feature_view c.in_ok-core_alone.field-0) ((bytes_eq-Decides c.args.text.now core).0 (sym c.if-eq.ensures)) c.in_ok-core_alone.ensures

pub returns-in_default : goal.returns-in_default
returns-in_default c = no_first c.args.text.now c.in_default.ensures (not_from_Decides (bytes_eq c.args.text.now core) (bytes_eq-Decides c.args.text.now core) (sym c.if-eq.ensures))

pub returns-then-eq-2 : goal.returns-then-eq-2
returns-then-eq-2 c =
    if_ok_then c.read_named.result
    (λ found. named_read c.args.text.now c.in-Some.first.now c.in-Some.rest.now c.in-Some.ensures.0 c.in-Some.ensures.1
    (not_from_Decides (bytes_eq c.args.text.now core) (bytes_eq-Decides c.args.text.now core) (sym c.if-eq.ensures))
    ((bytes_eq-Decides c.in-Some.first.now core).0 (sym c.if-eq-2.ensures)) (option_map (map feature_view) found))
    c.read_named.ensures

pub returns : goal.returns
returns c =
    other_first c.args.text.now c.in-Some.first.now c.in-Some.rest.now c.in-Some.ensures.0 c.in-Some.ensures.1
    (not_from_Decides (bytes_eq c.args.text.now core) (bytes_eq-Decides c.args.text.now core) (sym c.if-eq.ensures))
    (not_from_Decides (bytes_eq c.in-Some.first.now core) (bytes_eq-Decides c.in-Some.first.now core) (sym c.if-eq-2.ensures))
