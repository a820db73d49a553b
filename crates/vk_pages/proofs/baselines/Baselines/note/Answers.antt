use Rattle.std.proofs.Common.{◌≡◌, ◌∙◌, refl, sym, ap, subst, rules}
use Rattle.vk_files.proofs.NotedLemmas.{noted, length_noted, last_note}
use Rattle.vk_pages.specs.BaselineNotes.{AreBaselines, baseline_noted, same_served}
use Rattle.vk_pages.specs.NoteViews.{read_view}
use Rattle.vk_files.proofs.FindLemmas.{finds_lacking}
use Rattle.vk_pages.proofs.BaselineLemmas.{noted_one, noted_none, served_itself}
use Rattle.vk_pages.proofs.baselines.Baselines.note.Goals as goal

pub returns-in_err-reserve-clause-noted : goal.returns-in_err-reserve-clause-noted
returns-in_err-reserve-clause-noted g c =
    finds_lacking c.from_residual.ensures.1 (λ f known. subst (λ es. AreBaselines (noted read_view es) f) (sym c.reserve.ensures.entries) known)

pub returns-in_err-key-clause-noted : goal.returns-in_err-key-clause-noted
returns-in_err-key-clause-noted g c =
    finds_lacking c.from_residual-in_err-key.ensures.1 (λ f known. subst (λ es. AreBaselines (noted read_view es) f) (sym c.reserve.ensures.entries) known)

pub returns-in-Err-clause-noted : goal.returns-in-Err-clause-noted
returns-in-Err-clause-noted g c = rw c.reserve.ensures.entries (noted_none c.args.served.now (rw c.in-Err.is at c.read_baseline.ensures) refl)

pub returns-in-Ok-clause-noted : goal.returns-in-Ok-clause-noted
returns-in-Ok-clause-noted g c =
    let same : c.in_ok-key.key ≡ c.args.served.now = search rules in
    noted_one c.args.served.now _ (rw (c.reserve.ensures.entries, same) at c.keep.ensures) (rw c.in-Ok.is at c.read_baseline.ensures)

pub returns-in-Ok-clause-there : goal.returns-in-Ok-clause-there
returns-in-Ok-clause-there g c =
    let same : c.in_ok-key.key ≡ c.args.served.now = search rules in
    let notes = noted read_view c.reserve.new.self.entries in
    rw (c.keep.ensures, c.len-place.ensures.len ∙ sym (length_noted read_view c.reserve.new.self.entries), same)
    (last_note same_served c.args.served.now (read_view c.in-Ok.read) notes (served_itself c.args.served.now) (ap (λ es. baseline_noted c.args.served.now (noted read_view es)) c.reserve.ensures.entries ∙ c.requires))
