use Rattle.std.proofs.Common.{refl}
use Rattle.std.specs.Prelude.{Ok}
use Rattle.vk_files.proofs.FindLemmas.{finds_both, finds_ended, finds_here}
use Rattle.vk_opening.specs.OpeningViews.{opening_view}
use Rattle.vk_opening.proofs.opens.stored.Goals as goal

pub returns-in-Ok : goal.returns-in-Ok
returns-in-Ok g c = finds_both (λ done f. Ok (opening_view c.args.opening)) (rw c.in-Ok.is at c.check_store.ensures) (finds_here refl (λ f. refl))

pub returns-in-Err : goal.returns-in-Err
returns-in-Err g c = finds_ended (λ done f. Ok (opening_view c.args.opening)) (rw c.in-Err.is at c.check_store.ensures) refl
