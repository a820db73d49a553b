use Rattle.std.proofs.Common.{arith}
use Rattle.std.proofs.lemmas.Bool.Decides.{nat_tests}
use Rattle.std.proofs.lemmas.Result.{err_from_is_err_and}
use Rattle.vk_entry.specs.PackageViews.{file_view}
use Rattle.vk_publish.proofs.StepLemmas.{file_first, file_can, file_stepped, file_stopped}
use Rattle.vk_publish.proofs.publishing.write_next.Goals as goal

pub write_file-requires : goal.write_file-requires
write_file-requires g c =
    file_can c.args.job.now c.args.number c.args.next (file_view c.in-Some.file.now)
    (file_first c.args.job.now.built.now c.files.result.now c.args.next c.in-Some.file.now c.files.ensures.files (grind (arith, nat_tests, c.in-Some.ensures.lookup.0)) c.in-Some.ensures.lookup.1)
    (g.T.Tree.state c.args.tree.now) c.requires

pub returns-in_err-write_file-in-Some : goal.returns-in_err-write_file-in-Some
returns-in_err-write_file-in-Some g c =
    let p = err_from_is_err_and c.from_residual.result c.from_residual.ensures.1 in
    rw (p.1, p.2) (file_stopped c.args.job.now c.args.number c.args.next (file_view c.in-Some.file.now)
    (file_first c.args.job.now.built.now c.files.result.now c.args.next c.in-Some.file.now c.files.ensures.files (grind (arith, nat_tests, c.in-Some.ensures.lookup.0)) c.in-Some.ensures.lookup.1)
    c.in_err-write_file-in-Some.field-0.0 (g.T.Tree.state c.args.tree.now) (g.T.Tree.state c.write_file.new.tree) c.in_err-write_file-in-Some.ensures)

pub returns-in_ok-write_file-in-Some : goal.returns-in_ok-write_file-in-Some
returns-in_ok-write_file-in-Some g c =
    file_stepped c.args.job.now c.args.number c.args.next (file_view c.in-Some.file.now)
    (file_first c.args.job.now.built.now c.files.result.now c.args.next c.in-Some.file.now c.files.ensures.files (grind (arith, nat_tests, c.in-Some.ensures.lookup.0)) c.in-Some.ensures.lookup.1)
    tt (g.T.Tree.state c.args.tree.now) (g.T.Tree.state c.write_file.new.tree) c.in_ok-write_file-in-Some.ensures
