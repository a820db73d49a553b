-- What contracts see of troubles: the plain ones of resolution.
use Rattle.std.specs.Prelude.{List, Option, option_map}
use Rattle.std.specs.Option.{option_to_list}
use Rattle.vk_version.specs.AskViews.{ask_view}
use Rattle.vk_resolution.specs.Faults as plain
use Rattle.vk_model.specs.WrongViews.{wrong_view}
use Rattle.vk_faults.specs.declared.troubles.Trouble.{Trouble}
use Rattle.vk_faults.specs.declared.troubles.Trouble.TheVariants as trouble

abbrev pub trouble_view : Trouble → plain.Trouble
trouble_view (trouble.Wrong port wrong) = plain.wrong_of port (wrong_view wrong)
trouble_view (trouble.NoVersion port ask) = plain.lacks_version port (ask_view ask)

-- none or one, as a list
abbrev pub troubles_in : Option Trouble → List plain.Trouble
troubles_in o = option_to_list (option_map trouble_view o)
