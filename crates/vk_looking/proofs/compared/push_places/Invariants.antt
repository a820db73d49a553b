use Rattle.std.proofs.Common.{◌≡◌, map, take}
use Rattle.vk_entry.specs.ContentViews.{content_view}
use Rattle.vk_look.specs.LookIs.{places_of}
use Rattle.vk_looking.proofs.compared.push_places.Given as goal

abbrev pub invariant-loop-line : goal.invariant-loop-line
invariant-loop-line l = l.places ≡ places_of l.folder (map content_view (take l.line-index l.lines))
