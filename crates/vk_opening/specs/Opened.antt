-- What opening a project answers, and what it does to the tree.
use Rattle.std.specs.Prelude.{◌≡◌, Option, Result, Ok, Err}
use Rattle.vk_files.specs.Kept.{Held}
use Rattle.vk_files.specs.Finds.{Reads, NothingKnown}
use Rattle.vk_model.specs.declared.projects.Project.{Project}
use Rattle.vk_model.specs.declared.projects.Store.{Store}
use Rattle.vk_spec.specs.Earlies as plain
use Rattle.vk_spec.specs.Settings as plain_setting
use Rattle.vk_resolution.specs.Keys.{IsListing}
use Rattle.vk_resolution.specs.Planning.{instance_key}
use Rattle.vk_resolution.specs.Settings.{IsOff}
use Rattle.vk_model.specs.SettingViews.{setting_view}
use Rattle.vk_opening.specs.Asked.{paths_with}
use Rattle.vk_opening.specs.Openings.{Opening, opened_with}
use Rattle.vk_model.specs.EarlyViews.{early_view}
use Rattle.vk_opening.specs.Views.{ready_view}
use Rattle.vk_opening.specs.declared.opens.Opened.{Opened}
use Rattle.vk_opening.specs.declared.opens.Opened.TheVariants as opened
use Rattle.vk_base.specs.Stops.{was_out}
use Rattle.vk_base.specs.declared.stops.Outage.{Outage}

-- a setting lists the instances whose default features its root turns off, in their order
abbrev pub ListsOwnOff : plain_setting.Setting → Type 0
ListsOwnOff s = IsListing instance_key (IsOff s) s.off

-- a setting and a layout exactly where the files give them, with what is off in it, and an early line exactly where they give that
abbrev pub Tells : Result Opened Outage → Result Opening plain.Early → Type 0
Tells (Ok (opened.Ready setting layout)) given = (given ≡ Ok (ready_view setting layout)) × ListsOwnOff (setting_view setting)
Tells (Ok (opened.Refused early)) given = given ≡ Err (early_view early)
Tells (Err stopped) given = Unit {0}

-- nothing but reading was done; and where the files are told, no path was looked at but those that opening asks for, and the answer is what the files give
pub record Opens (project : Project) (store : Option Store) (answer : Result Opened Outage) (before after : Held) : Type 0 where
  pub reads : Reads (was_out answer) (λ f. Tells answer (opened_with project store f)) (paths_with project store) NothingKnown NothingKnown before after
