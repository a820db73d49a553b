use Rattle.std.proofs.Common.{codes, sym}
use Rattle.std.specs.Prelude.{bytes_eq, option_map}
use Rattle.std.proofs.lemmas.Bool.Decides.{not_from_Decides}
use Rattle.std.proofs.lemmas.Slice.Eq.{bytes_eq-Decides}
use Rattle.vk_base.specs.FeatureViews.{feature_view}
use Rattle.vk_forms.proofs.Found.{if_ok_then}
use Rattle.vk_abi_text.proofs.FormLemmas.{default_none, not_default}
use Rattle.vk_abi_text.proofs.leaves.PlannedFeatureForm.read.Goals as goal

pub returns-then-eq : goal.returns-then-eq
returns-then-eq c = λ x right e. default_none c.args.text.now x ((bytes_eq-Decides c.args.text.now (codes "default")).0 (sym c.if-eq.ensures)) right e

pub returns : goal.returns
returns c =
    if_ok_then c.read.result
    (λ found read. not_default c.args.text.now (not_from_Decides (bytes_eq c.args.text.now (codes "default")) (bytes_eq-Decides c.args.text.now (codes "default")) (sym c.if-eq.ensures)) (option_map feature_view found) read)
    c.read.ensures
