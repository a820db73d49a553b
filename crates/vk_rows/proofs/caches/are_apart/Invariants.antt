use Rattle.std.proofs.Common.{map, take}
use Rattle.std.specs.List.{Contains}
use Rattle.vk_entry.specs.Packages.{File}
use Rattle.vk_entry.specs.PackageViews.{file_view}
use Rattle.vk_rows.proofs.CacheLemmas.{BeginsNone, IsPlain}
use Rattle.vk_rows.proofs.caches.are_apart.Given as goal

abbrev pub invariant-loop-file : goal.invariant-loop-file
invariant-loop-file l = (one : File) → Contains (map file_view (take l.file-index l.files)) one → IsPlain one.path × BeginsNone (map file_view l.files) one.path
