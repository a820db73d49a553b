use Rattle.vk_base.specs.FeatureViews.{feature_view}
use Rattle.vk_forms.proofs.Found.{if_ok_then}
use Rattle.vk_forms.proofs.NameForms.{feature_read, reserved_read}
use Rattle.vk_forms.proofs.names.FeatureForm.read.Goals as goal

pub returns-in-Some : goal.returns-in-Some
returns-in-Some c = reserved_read (feature_view c.in-Some.feature) c.args.text.now c.in-Some.ensures.0 c.in-Some.ensures.1

pub returns-in-None : goal.returns-in-None
returns-in-None c = if_ok_then c.found.result (feature_read feature_view c.args.text.now c.read.result c.read.ensures.value c.in-None.ensures.0 c.in-None.ensures.1) c.found.ensures
