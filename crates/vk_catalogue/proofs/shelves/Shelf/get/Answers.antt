use Rattle.std.proofs.Common.{◌∙◌, sym, ap}
use Rattle.std.specs.Prelude.{option_map, bytes_eq}
use Rattle.std.proofs.lemmas.Map.Made.{lookup-map_values}
use Rattle.vk_catalogue.specs.PageViews.{held_view}
use Rattle.vk_catalogue.proofs.shelves.Shelf.get.Goals as goal

pub returns : goal.returns
returns c = rw (← c.self.view_is) (ap (option_map held_view) c.get.ensures.value ∙ sym (lookup-map_values held_view (bytes_eq c.args.port.now) c.self.inside.inner.entries))
