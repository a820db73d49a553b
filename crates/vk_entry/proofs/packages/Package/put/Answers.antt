use Rattle.std.proofs.Common.{refl, subst, map}
use Rattle.vk_entry.specs.Packages.{HasFile}
use Rattle.vk_entry.specs.PackageViews.{file_view}
use Rattle.vk_entry.proofs.PackageLemmas.{taken, put_kept, put_new}
use Rattle.vk_entry.proofs.packages.Package.put.Goals as goal

pub invariant_of-self-in-Err : goal.invariant_of-self-in-Err
invariant_of-self-in-Err c =
    put_kept c.self.inside.files.items c.insert.new.self.items c.in-Err.place _ c.self.invariant
    (rw (← c.as_slice.ensures.value) c.in-Err.ensures.absent) c.in_ok-insert-in-Err.ensures.items

pub returns-in-Ok-clause-put : goal.returns-in-Ok-clause-put
returns-in-Ok-clause-put c = (subst (HasFile c.args.path) c.self.view_is (taken c.args.path (map file_view c.self.inside.files.items) c.in-Ok.field-0 (rw (← c.as_slice.ensures.value) c.in-Ok.ensures.found)), refl)

pub returns-in_ok-insert-in-Err-clause-put : goal.returns-in_ok-insert-in-Err-clause-put
returns-in_ok-insert-in-Err-clause-put c =
    put_new c.self.inside.files.items c.insert.new.self.items c.in-Err.place _ c.args.self.now
    (rw (← c.as_slice.ensures.value) c.in-Err.ensures.absent) c.in_ok-insert-in-Err.ensures.items c.self.view_is

pub returns-in_ok-insert-in-Err-clause-package : goal.returns-in_ok-insert-in-Err-clause-package
returns-in_ok-insert-in-Err-clause-package c =
    put_kept c.self.inside.files.items c.insert.new.self.items c.in-Err.place _ c.self.invariant
    (rw (← c.as_slice.ensures.value) c.in-Err.ensures.absent) c.in_ok-insert-in-Err.ensures.items
