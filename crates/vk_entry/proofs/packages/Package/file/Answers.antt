use Rattle.std.proofs.Common.{ap, ◌∙◌}
use Rattle.std.specs.Prelude.{Some}
use Rattle.vk_entry.specs.Packages.{bytes_at}
use Rattle.vk_entry.proofs.PackageLemmas.{read_at, read_none}
use Rattle.vk_entry.proofs.packages.Package.file.Goals as goal

pub returns-in-Ok : goal.returns-in-Ok
returns-in-Ok c =
    ap Some (c.as_slice-in-Ok.ensures)
    ∙ read_at c.args.path.now c.self.inside.files.items c.in-Ok.place c.index.result.now c.self.invariant (rw (← c.as_slice.ensures.value) (c.in-Ok.ensures.found)) c.index.ensures
    ∙ ap (bytes_at c.args.path.now) c.self.view_is

pub returns-in-Err : goal.returns-in-Err
returns-in-Err c =
    read_none c.args.path.now c.self.inside.files.items c.in-Err.field-0 (rw (← c.as_slice.ensures.value) (c.in-Err.ensures.absent))
    ∙ ap (bytes_at c.args.path.now) c.self.view_is
