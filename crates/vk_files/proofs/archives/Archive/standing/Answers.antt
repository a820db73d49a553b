use Rattle.std.proofs.Common.{◌∙◌, sym, ap, refl}
use Rattle.std.specs.Prelude.{Ok, Some, option_map}
use Rattle.vk_files.specs.Views.{seen_view}
use Rattle.vk_files.specs.Readings.{standing_by}
use Rattle.vk_files.proofs.FindLemmas.{finds_seen, finds_unseen}
use Rattle.vk_files.proofs.ReadLemmas.{still_faithful}
use Rattle.vk_files.proofs.archives.Archive.standing.Goals as goal

pub invariant_of-self : goal.invariant_of-self
invariant_of-self g c = still_faithful c.in_err-place.ensures.once c.self.invariant

pub invariant_of-self-2 : goal.invariant_of-self-2
invariant_of-self-2 g c = still_faithful c.in_ok-place.ensures.once c.self.invariant

pub returns-in_err-place-clause-reads : goal.returns-in_err-place-clause-reads
returns-in_err-place-clause-reads g c = rw (← c.self.view_is) (finds_unseen _ c.in_err-place.ensures.once c.in_err-place.ensures.within c.in_err-place.ensures.no_fault c.from_residual.ensures.1)

pub returns-clause-reads : goal.returns-clause-reads
returns-clause-reads g c =
    rw (← c.self.view_is)
    (finds_seen (λ seen. Ok (standing_by seen)) (seen_view c.at.result.now) c.self.invariant c.in_ok-place.ensures.once c.in_ok-place.ensures.within
    (c.in_ok-place.ensures.there.found ∙ c.at.ensures) refl (ap Ok (sym c.standing_of.ensures)))

pub returns-clause-there : goal.returns-clause-there
returns-clause-there g c = ap (option_map standing_by) (c.in_ok-place.ensures.there.found ∙ c.at.ensures) ∙ ap Some (sym c.standing_of.ensures)
