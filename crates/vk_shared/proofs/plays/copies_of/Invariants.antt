use Rattle.std.proofs.Common.{◌≡◌, map, take}
use Rattle.vk_entry.specs.PackageViews.{file_view}
use Rattle.vk_shared.proofs.plays.copies_of.Given as goal

abbrev pub invariant-loop-file : goal.invariant-loop-file
invariant-loop-file l = map file_view l.copies ≡ map file_view (take l.file-index l.files)
