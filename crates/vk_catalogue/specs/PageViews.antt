-- What contracts see of the page of a port: plain data.
use Rattle.std.specs.Prelude.{map}
use Rattle.vk_spec.specs.Pages as plain
use Rattle.vk_spec.specs.Conditions.{Condition}
use Rattle.vk_catalogue.specs.Views.{given_said, manifest_said}
use Rattle.vk_catalogue.specs.declared.pages.PageRow.{PageRow}
use Rattle.vk_catalogue.specs.declared.pages.Page.{Page}
use Rattle.vk_catalogue.specs.declared.shelves.Held.{Held}

abbrev pub row_view : PageRow → plain.Row Condition
row_view r = record { version = r.version; manifest = manifest_said r.manifest }

abbrev pub held_view : Held → plain.Page Condition
held_view h = record { given = given_said h.given; rows = map row_view h.rows }

abbrev pub page_view : Page → plain.Page Condition
page_view p = held_view (record { given = p.given; rows = p.rows })
