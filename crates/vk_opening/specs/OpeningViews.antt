-- What was read of a project, as plain data, and the answer that goes with it.
use Rattle.std.specs.Prelude.{◌≡◌, map, Result}
use Rattle.vk_model.specs.EarlyViews.{early_view}
use Rattle.vk_model.specs.declared.earlies.Early.{Early}
use Rattle.vk_spec.specs.Earlies as plain_early
use Rattle.vk_spec.specs.Reading.{Gives}
use Rattle.vk_spec.specs.Manifests.{Manifest}
use Rattle.vk_spec.specs.Conditions.{Condition}
use Rattle.vk_base.specs.FeatureViews.{feature_view}
use Rattle.vk_base.specs.Stops.{fault_seen, has_failed, was_out}
use Rattle.vk_base.specs.declared.stops.Outage.{Outage}
use Rattle.vk_base.specs.declared.stops.Stop.{Stop}
use Rattle.vk_config.specs.Configs.{Config}
use Rattle.vk_triplet.specs.Meanings.{meaning_of}
use Rattle.vk_model.specs.declared.projects.Project.{Project}
use Rattle.vk_opening.specs.Openings as plain
use Rattle.vk_opening.specs.Opened.{Tells}
use Rattle.vk_opening.specs.Views.{overlay_view, ready_view}
use Rattle.vk_opening.specs.declared.opens.Found.{Found}
use Rattle.vk_opening.specs.declared.opens.Opened.{Opened}
use Rattle.vk_opening.specs.declared.opens.Opening.{Opening}

abbrev pub opening_view : Opening → plain.Opening
opening_view o = ready_view o.setting o.layout

-- the opening that is made of what was found, beside a root and a configuration
abbrev pub opening_found : Project → Manifest Condition → Config → Found → plain.Opening
opening_found project root config found = record {
  setting = λ off. record {
    root = root;
    target = meaning_of found.triplets.target;
    host = meaning_of found.triplets.host;
    features = map feature_view found.own.features;
    defaults = project.defaults;
    off = off;
    max_facts = project.max_facts;
  };
  layout = record {
    folder = found.own.folder;
    config = config;
    overlays = map overlay_view found.overlays;
    overrides = found.own.overrides;
  };
}

-- an answer failed where the reading did, and tells what the reading gives
pub record Answers (read : Result Opening (Stop Early)) (answer : Result Opened Outage) : Type 0 where
  pub failed : has_failed read ≡ was_out answer
  pub tells : (given : Result plain.Opening plain_early.Early) → Gives opening_view (fault_seen early_view) read given → Tells answer given
