use Rattle.std.proofs.Common.{◌≡◌, take, map}
use Rattle.vk_entry.specs.Contents.{content_of}
use Rattle.vk_entry.specs.ContentViews.{content_view}
use Rattle.vk_entry.specs.PackageViews.{file_view}
use Rattle.vk_entry.proofs.contents.contents_of.Given as goal

abbrev pub invariant-loop-file : goal.invariant-loop-file
invariant-loop-file l = map content_view l.lines ≡ map content_of (map file_view (take l.file-index l.file-items))
