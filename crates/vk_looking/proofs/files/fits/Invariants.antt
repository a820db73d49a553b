use Rattle.std.proofs.Common.{◌≡◌, ◌+◌, map, take}
use Rattle.vk_entry.specs.ContentViews.{content_view}
use Rattle.vk_look.specs.LookIs.{bytes_listed}
use Rattle.vk_looking.proofs.files.fits.Given as goal

abbrev pub invariant-loop-line : goal.invariant-loop-line
invariant-loop-line l = bytes_listed (map content_view (take l.line-index l.lines)) + l.left ≡ l.most
