use Rattle.std.proofs.Common.{◌∙◌, sym, ap}
use Rattle.std.specs.Prelude.{option_map, Some, None}
use Rattle.vk_resolution.specs.Faults.{feature_faults}
use Rattle.vk_root.proofs.FeatureLemmas.{found_feature}
use Rattle.vk_rules.proofs.flaws.feature_flaw.Goals as goal

pub returns-in-Some : goal.returns-in-Some
returns-in-Some c = λ who f v n.
    ap (λ g. feature_faults who f v c.args.marks.now.names g n) (sym (found_feature c.args.manifest.now c.args.name.now (Some c.in-Some.feature.now) (sym (ap (option_map (λ f. f.now)) c.in-Some.is) ∙ c.feature_of.ensures)))
    ∙ c.support_flaw.ensures who f v n

pub returns-in-None : goal.returns-in-None
returns-in-None c = λ who f v n.
    ap (λ g. feature_faults who f v c.args.marks.now.names g n) (sym (found_feature c.args.manifest.now c.args.name.now None (sym (ap (option_map (λ f. f.now)) c.in-None.is) ∙ c.feature_of.ensures)))
