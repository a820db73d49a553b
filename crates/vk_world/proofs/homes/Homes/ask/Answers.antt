use Rattle.std.proofs.Common.{◌≡◌, ◌∙◌, [], ◌∷◌, ◌++◌, refl, sym, ap, subst, rules}
use Rattle.std.specs.Prelude.{bytes_eq}
use Rattle.std.specs.Map.{lookup}
use Rattle.std.proofs.lemmas.Slice.Eq.{bytes_eq-Decides}
use Rattle.vk_files.specs.Notes.{AreRight}
use Rattle.vk_files.proofs.NoteLemmas.{right_more}
use Rattle.vk_files.proofs.NotedLemmas.{noted, length_noted, last_note}
use Rattle.vk_opening.specs.Views.{layout_view}
use Rattle.vk_pages.specs.BaselineNotes.{AreBaselines}
use Rattle.vk_pages.specs.NoteViews.{notes_of}
use Rattle.vk_world.specs.HomeNotes.{IsHomeOf, homes_in, boxed_home}
use Rattle.vk_world.proofs.LearnLemmas.{learns_lacking, learns_so, learns_stopped}
use Rattle.vk_world.proofs.homes.Homes.ask.Goals as goal

pub returns-in_err-reserve-clause-learns : goal.returns-in_err-reserve-clause-learns
returns-in_err-reserve-clause-learns g c =
    learns_lacking c.from_residual.ensures.1
    (λ f right. record { baselines = right.baselines; found = subst (λ es. AreRight (IsHomeOf (layout_view c.args.layout.now) f) (noted boxed_home es)) (sym c.reserve.ensures.entries) right.found })

pub returns-in_err-key-clause-learns : goal.returns-in_err-key-clause-learns
returns-in_err-key-clause-learns g c =
    learns_lacking c.from_residual-in_err-key.ensures.1
    (λ f right. record { baselines = right.baselines; found = subst (λ es. AreRight (IsHomeOf (layout_view c.args.layout.now) f) (noted boxed_home es)) (sym c.reserve.ensures.entries) right.found })

pub returns-in-Err-clause-learns : goal.returns-in-Err-clause-learns
returns-in-Err-clause-learns g c =
    learns_stopped refl (λ f right. right.baselines)
    (λ f before right. record { baselines = right; found = subst (λ es. AreRight (IsHomeOf (layout_view c.args.layout.now) f) (noted boxed_home es)) (sym c.reserve.ensures.entries) before.found }) (rw c.in-Err.is at c.boxed_home.ensures)

pub returns-in-Ok-clause-learns : goal.returns-in-Ok-clause-learns
returns-in-Ok-clause-learns g c =
    let layout = layout_view c.args.layout.now in
    let same : c.in_ok-key.key ≡ c.args.port.now = search rules in
    let kept = c.keep.ensures.homes ∙ ap (λ es. noted boxed_home es ++ (c.in_ok-key.key, boxed_home c.in-Ok.found) ∷ []) c.reserve.ensures.entries in
    learns_so refl (λ f right. (right.baselines, λ p has. has))
    (λ f before right says. (
      record {
        baselines = subst (λ b. AreBaselines (notes_of b) f) (sym c.keep.ensures.baselines) right;
        found = subst (AreRight (IsHomeOf layout f)) (sym kept) (right_more (IsHomeOf layout f) (homes_in c.args.self.now) ((c.in_ok-key.key, boxed_home c.in-Ok.found) ∷ []) before.found (rw same says, tt));
      },
      tt,
    )) (rw c.in-Ok.is at c.boxed_home.ensures)

pub returns-in-Ok-clause-there : goal.returns-in-Ok-clause-there
returns-in-Ok-clause-there g c =
    let same : c.in_ok-key.key ≡ c.args.port.now = search rules in
    let notes = noted boxed_home c.reserve.new.self.entries in
    rw (c.keep.ensures.homes, c.len-place.ensures.len ∙ sym (length_noted boxed_home c.reserve.new.self.entries), same)
    (last_note bytes_eq c.args.port.now (boxed_home c.in-Ok.found) notes ((bytes_eq-Decides c.args.port.now c.args.port.now).1 refl) (ap (λ es. lookup (bytes_eq c.args.port.now) (noted boxed_home es)) c.reserve.ensures.entries ∙ c.requires))
