-- What contracts see of a port's home: plain data.
use Rattle.vk_model.specs.Views.{manifest_view}
use Rattle.vk_catalogue.specs.Views.{given_view}
use Rattle.vk_pages.specs.Homes as plain
use Rattle.vk_pages.specs.declared.homes.Home.{Home}
use Rattle.vk_pages.specs.declared.homes.Home.TheVariants as home
use Rattle.vk_pages.specs.declared.served.Served.{Served}

abbrev pub home_view : Home → plain.Home
home_view (home.Overlay folder version manifest) = plain.in_overlay folder version (manifest_view manifest.value)
home_view (home.Registry given folder table) = plain.in_registry (given_view given) folder table

abbrev pub served_view : Served → plain.Served
served_view s = record { folder = s.folder; baseline = s.baseline }
