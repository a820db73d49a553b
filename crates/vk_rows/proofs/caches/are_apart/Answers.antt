use Rattle.std.specs.Prelude.{map}
use Rattle.vk_entry.specs.PackageViews.{file_view}
use Rattle.vk_rows.proofs.CacheLemmas.{BeginsNone, IsPlain, all_done, apart_from, one_more}
use Rattle.vk_rows.proofs.caches.are_apart.Goals as goal

pub loop-file-preserved : goal.loop-file-preserved
loop-file-preserved c =
    one_more file_view (λ file. IsPlain file.path × BeginsNone (map file_view c.args.files.now) file.path) c.args.files.now c.loop-file.file-index c.file-item.result c.loop-file-test.true c.file-item.is c.loop-file.invariant
    (c.is_plain.ensures c.if-not-is_plain.false, c.begins_none.ensures c.if-not-begins_none.false)

pub returns : goal.returns
returns c = λ is. apart_from (map file_view c.args.files.now) (all_done file_view (λ file. IsPlain file.path × BeginsNone (map file_view c.args.files.now) file.path) c.args.files.now c.loop-file.file-index c.loop-file-test.false c.loop-file.invariant)
