use Rattle.std.proofs.Common.{subst}
use Rattle.std.specs.Prelude.{ℕ, List, map}
use Rattle.std.proofs.lemmas.Result.{IfOk-weaker}
use Rattle.vk_spec.specs.Settings.{Setting}
use Rattle.vk_spec.specs.Settings as plain
use Rattle.vk_resolution.specs.Least.{IsLeast}
use Rattle.vk_resolution.specs.Settings.{root_rules_of}
use Rattle.vk_base.specs.FeatureViews.{feature_view}
use Rattle.vk_triplet.specs.Meanings.{meaning_of}
use Rattle.vk_model.specs.SettingViews.{instance_view}
use Rattle.vk_model.specs.Views.{manifest_view}
use Rattle.vk_root.specs.AskedNames.{names_view}
use Rattle.vk_root.specs.RootSettings.{setting_of}
use Rattle.vk_root.proofs.NamedLemmas.{listing_lists}
use Rattle.vk_root.proofs.off_lists.off_list.Goals as goal

module _ (c : goal.After-drop-asked-inside-4) where
  abbrev setting : List plain.Instance → ℕ → Setting
  setting off most = setting_of (manifest_view c.args.root.now) (meaning_of c.args.target.now) (meaning_of c.args.host.now) (map feature_view c.args.features.now) c.args.defaults off most

  -- the features are those that are asked of the root
  least : (off : List plain.Instance) (most : ℕ) → IsLeast (root_rules_of (setting off most)) (names_view c.in_ok-asked.asked.keys)
  least off most = subst (λ l. IsLeast (root_rules_of (setting_of (manifest_view c.args.root.now) (meaning_of c.args.target.now) (meaning_of c.args.host.now) (map feature_view l) c.args.defaults off most)) (names_view c.in_ok-asked.asked.keys)) c.as_slice.ensures c.in_ok-asked.ensures

pub returns-clause-listing : goal.returns-clause-listing
returns-clause-listing c =
    IfOk-weaker c.off_by.result _ _ (λ l listing off most. listing (map feature_view c.args.features.now) c.args.defaults off most (least c off most)) c.off_by.ensures

pub returns-clause-lists : goal.returns-clause-lists
returns-clause-lists c =
    IfOk-weaker c.off_by.result _ _ (λ l listing most. listing_lists (setting c (map instance_view l) most) (listing (map feature_view c.args.features.now) c.args.defaults (map instance_view l) most (least c (map instance_view l) most))) c.off_by.ensures
