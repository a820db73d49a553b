-- What contracts see of a layout and of a setting: plain data.
use Rattle.std.specs.Prelude.{map, Result, Ok, Err}
use Rattle.vk_json.specs.declared.faults.FileFault.{FileFault}
use Rattle.vk_model.specs.Views.{manifest_view}
use Rattle.vk_model.specs.SettingViews.{setting_view}
use Rattle.vk_resolution.specs.RootLaws.{with_off}
use Rattle.vk_config.specs.Configs as plain_config
use Rattle.vk_config.specs.Views.{config_view, embedded_view}
use Rattle.vk_config.specs.declared.configs.Embedded.{Embedded}
use Rattle.vk_opening.specs.Layouts as plain
use Rattle.vk_opening.specs.Roots as plain_root
use Rattle.vk_opening.specs.TripletFiles as plain_triplets
use Rattle.vk_opening.specs.Openings as plain_opening
use Rattle.vk_opening.specs.declared.layouts.Overlay.{Overlay}
use Rattle.vk_opening.specs.declared.layouts.Overlay.TheVariants as overlay
use Rattle.vk_opening.specs.declared.layouts.Layout.{Layout}
use Rattle.vk_model.specs.declared.settings.Setting.{Setting}
use Rattle.vk_opening.specs.declared.roots.OwnConfiguration.{OwnConfiguration}
use Rattle.vk_opening.specs.declared.roots.Root.{Root}
use Rattle.vk_opening.specs.declared.triplet_files.Triplets.{Triplets}

abbrev pub overlay_view : Overlay → plain.Overlay
overlay_view (overlay.Port folder manifest) = plain.is_port folder (manifest_view manifest.value)
overlay_view (overlay.Ports folder) = plain.has_ports folder

abbrev pub layout_view : Layout → plain.Layout
layout_view l = record { folder = l.folder; config = config_view l.config; overlays = map overlay_view l.overlays; overrides = l.overrides }

abbrev pub embedded_seen : Result Embedded FileFault → Result plain_config.Embedded FileFault
embedded_seen (Ok embedded) = Ok (embedded_view embedded)
embedded_seen (Err fault) = Err fault

abbrev pub configuration_view : OwnConfiguration → plain_root.OwnConfiguration
configuration_view c = record { is_there = c.is_there; embedded = embedded_seen c.embedded }

abbrev pub root_view : Root → plain_root.Root
root_view r = record { manifest = manifest_view r.manifest; configuration = configuration_view r.configuration }

abbrev pub triplets_view : Triplets → plain_triplets.Triplets
triplets_view t = record { target = t.target; host = t.host }

-- a setting, whatever is off in it, and a layout, together
abbrev pub ready_view : Setting → Layout → plain_opening.Opening
ready_view setting layout = record { setting = with_off (setting_view setting); layout = layout_view layout }
