use Rattle.vk_spec.specs.Paths.{Begins}
use Rattle.std.proofs.Common.{◌≡◌}
use Rattle.vk_entry.specs.PackageViews.{file_view}
use Rattle.vk_rows.proofs.CacheLemmas.{all_done, one_more}
use Rattle.vk_rows.proofs.caches.begins_none.Goals as goal

pub loop-file-preserved : goal.loop-file-preserved
loop-file-preserved c =
    one_more file_view (λ file. Begins c.args.path.now file.path → c.args.path.now ≡ file.path) c.args.files.now c.loop-file.file-index c.file-item.result c.loop-file-test.true c.file-item.is c.loop-file.invariant (c.is_below.ensures c.if-is_below.false)

pub returns : goal.returns
returns c = λ is. all_done file_view (λ file. Begins c.args.path.now file.path → c.args.path.now ≡ file.path) c.args.files.now c.loop-file.file-index c.loop-file-test.false c.loop-file.invariant
