-- What an asker keeps.
use Rattle.std.specs.Prelude.{◌≡◌, Bool, true, List, [], map}
use Rattle.std.specs.List.{Contains}
use Rattle.vk_resolution.specs.Givens.{Pages}
use Rattle.vk_resolution.specs.Asking.{Fact}
use Rattle.vk_resolution.specs.Consequences.{Inputs}
use Rattle.vk_resolution.specs.Planner.{inputs_of}
use Rattle.vk_resolution.specs.Faults.{troubles_of}
use Rattle.vk_model.specs.Views.{override_view}
use Rattle.vk_model.specs.SettingViews.{setting_view}
use Rattle.vk_close.specs.Known.{AreKnown}
use Rattle.vk_close.specs.declared.page_askers.PageAsker.{PageAsker}

-- the rules and the overrides are those of the setting, and what is known of ports is what their pages say
pub record IsKept (a : PageAsker) (pages : Pages) : Type 0 where
  pub rules : a.rules ≡ a.setting.now
  pub overrides : a.overrides ≡ map override_view a.setting.now.root.overrides
  pub known : AreKnown a.overrides pages a.ports.entries

-- nothing is wrong with any of the facts
abbrev pub HasNoTrouble : Inputs → List Fact → Type 0
HasNoTrouble inputs facts = (x : Fact) → Contains facts x → troubles_of inputs x ≡ []

-- a flag is set exactly where this holds
abbrev pub Tells : Bool → Type 0 → Type 0
Tells flag P = (flag ≡ true → P) × (P → flag ≡ true)

-- and it is clean exactly where nothing is wrong with any of the facts that were asked about
pub record Tracks (a : PageAsker) (pages : Pages) (taken : List Fact) : Type 0 where
  pub kept : IsKept a pages
  pub clean : Tells a.clean (HasNoTrouble (inputs_of (setting_view a.setting.now) pages) taken)
