use Rattle.std.proofs.Common.{map, take}
use Rattle.vk_entry.specs.PackageViews.{file_view}
use Rattle.vk_rows.proofs.CacheLemmas.{BeginsNone}
use Rattle.vk_rows.proofs.caches.begins_none.Given as goal

abbrev pub invariant-loop-file : goal.invariant-loop-file
invariant-loop-file l = BeginsNone (map file_view (take l.file-index l.files)) l.path
