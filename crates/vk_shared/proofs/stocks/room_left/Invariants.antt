use Rattle.std.proofs.Common.{◌≡◌, ◌+◌, map, take}
use Rattle.vk_entry.specs.PackageViews.{file_view}
use Rattle.vk_make.specs.Makes.{size_of}
use Rattle.vk_shared.proofs.stocks.room_left.Given as goal

abbrev pub invariant-loop-file : goal.invariant-loop-file
invariant-loop-file l = size_of (map file_view (take l.file-index l.files)) + l.left ≡ l.room
