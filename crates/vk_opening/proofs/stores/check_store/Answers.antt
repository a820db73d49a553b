use Rattle.std.proofs.lemmas.Result.{err_from_is_err_and}
use Rattle.std.specs.List.{find}
use Rattle.vk_spec.proofs.ReadingLemmas.{fails_on}
use Rattle.vk_base.specs.Stops.{fault_seen}
use Rattle.vk_model.specs.EarlyViews.{early_view}
use Rattle.vk_files.specs.Readings.{is_at}
use Rattle.vk_files.specs.Within.{up_to_first}
use Rattle.vk_files.proofs.FindLemmas.{finds_after, finds_here, finds_lacking}
use Rattle.vk_opening.specs.Stores.{stored_at, store_folders, unblocked}
use Rattle.vk_opening.proofs.stores.check_store.Goals as goal

pub returns-in_err-apart : goal.returns-in_err-apart
unfolding stored_at
returns-in_err-apart g c =
    let p = err_from_is_err_and c.from_residual.result c.from_residual.ensures.1 in
    rw (p.1, p.2) (finds_here c.in_err-apart.ensures.calm (λ f. fails_on (fault_seen early_view c.in_err-apart.field-0.0) _ (λ done. unblocked (find (is_at f) (store_folders c.args.store.now))) c.in_err-apart.ensures.told))

pub returns-in_err-places : goal.returns-in_err-places
returns-in_err-places g c = finds_lacking c.from_residual-in_err-places.ensures.1 (λ f known. known)

pub returns : goal.returns
unfolding stored_at
returns g c =
    finds_after (λ done f. unblocked (find (is_at f) (store_folders c.args.store.now))) (λ done f. up_to_first (is_at f) (store_folders c.args.store.now)) c.in_ok-apart.ensures.told
    (rw (c.as_slice.ensures, c.in_ok-places.ensures) at c.unblocked.ensures)
