use Rattle.vk_base.specs.Stops.{fault_in}
use Rattle.vk_spec.specs.Reading.{Gives}
use Rattle.vk_files.specs.Readings.{seen_file, told_at, or_told}
use Rattle.vk_files.specs.Views.{same_path}
use Rattle.vk_files.proofs.NotedLemmas.{said_of_note}
use Rattle.vk_spec.proofs.OptionLemmas.{of_each}
use Rattle.vk_files.proofs.CacheLemmas.{kept_so, ok_each}
use Rattle.vk_files.proofs.FindLemmas.{finds_kept, finds_seen, finds_unseen}
use Rattle.vk_files.proofs.ReadLemmas.{still_faithful}
use Rattle.vk_files.proofs.archives.Archive.read.Goals as goal

pub invariant_of-self : goal.invariant_of-self
invariant_of-self g c = still_faithful c.in_err-place.ensures.once c.self.invariant

pub invariant_of-self-2 : goal.invariant_of-self-2
invariant_of-self-2 g c = rw c.read_at.ensures.same (still_faithful c.in_ok-place.ensures.once c.self.invariant)

pub returns-in_err-place-clause-reads : goal.returns-in_err-place-clause-reads
returns-in_err-place-clause-reads g c = rw (← c.self.view_is) (finds_unseen _ c.in_err-place.ensures.once c.in_err-place.ensures.within c.in_err-place.ensures.no_fault c.from_residual.ensures.1)

pub returns-clause-reads : goal.returns-clause-reads
returns-clause-reads g c =
    let meaning = seen_file (g.R.FileReader.reads c.args.reader.now) in
    let read = said_of_note (same_path c.args.path.now) _ c.in_ok-place.place (λ e. Gives g.R.FileReader.plain fault_in c.read_at.result (meaning e.1)) c.in_ok-place.ensures.there c.read_at.ensures.read in
    rw (← c.self.view_is)
    (finds_kept c.read_at.ensures.same
    (finds_seen (λ seen. or_told g.F.TellsBadFile.told (told_at c.args.path.now (meaning seen))) read.0.1 c.self.invariant c.in_ok-place.ensures.once c.in_ok-place.ensures.within read.1 c.told.ensures.tree_ok (c.told.ensures.told _ read.2)))

pub returns-clause-there : goal.returns-clause-there
returns-clause-there g c =
    let read = said_of_note (same_path c.args.path.now) _ c.in_ok-place.place (λ e. Unit {0}) c.in_ok-place.ensures.there (of_each _ (λ e. tt)) in
    ok_each c.told.result (kept_so c.args.path.now c.read_at.ensures.same read.1)
