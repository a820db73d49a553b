use Rattle.std.proofs.Common.{[], sym, subst}
use Rattle.std.specs.Map.{keys_of}
use Rattle.vk_resolution.specs.Givens.{Pages}
use Rattle.vk_resolution.specs.Planner.{inputs_of}
use Rattle.vk_model.specs.SettingViews.{setting_view}
use Rattle.vk_worklist.specs.Rows.{AreRows}
use Rattle.vk_close.specs.Kept.{Tracks}
use Rattle.vk_close.proofs.closures.source_of.Goals as goal

pub returns-clause-tracks : goal.returns-clause-tracks
returns-clause-tracks c = subst (λ a. (pages : Pages) → Tracks a pages []) (sym c.new-2.ensures.asker) c.in_ok-new.ensures.tracks

pub returns-clause-rows : goal.returns-clause-rows
returns-clause-rows c =
    subst (λ a. (pages : Pages) → AreRows (inputs_of (setting_view a.setting.now) pages) (keys_of a.ports.entries) c.new-2.result.rows.items []) (sym c.new-2.ensures.asker) c.new-2.ensures.rows
