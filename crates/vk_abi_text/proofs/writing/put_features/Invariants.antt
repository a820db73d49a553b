use Rattle.std.specs.List.{All}
use Rattle.vk_base.specs.Names.{IsName, word_rule}
use Rattle.std.proofs.Common.{map, take}
use Rattle.vk_base.specs.FeatureViews.{feature_view}
use Rattle.vk_abi_text.specs.Lines.{feature_line, line_text}
use Rattle.vk_abi_text.specs.Puts.{Puts}
use Rattle.vk_abi_text.proofs.writing.put_features.Given as goal

abbrev pub invariant-loop-feature : goal.invariant-loop-feature
invariant-loop-feature l = record {
  lines : Puts (map line_text (map feature_line (map feature_view (take l.feature-index l.features)))) l.initial.lines.keys l.lines.keys;
  right : All (IsName word_rule) (map feature_view (take l.feature-index l.features));
}
