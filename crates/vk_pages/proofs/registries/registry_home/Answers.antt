use Rattle.std.proofs.lemmas.Result.{err_from_is_err_and}
use Rattle.vk_base.specs.Stops.{fault_seen}
use Rattle.vk_catalogue.specs.Views.{wrong_view}
use Rattle.vk_spec.proofs.ReadingLemmas.{fails_on}
use Rattle.vk_root.specs.Overrides.{override_for}
use Rattle.vk_pages.specs.Homes.{served_home, registry_home}
use Rattle.vk_opening.specs.Views.{layout_view}
use Rattle.vk_files.proofs.FindLemmas.{finds_here, finds_after}
use Rattle.vk_pages.proofs.registries.registry_home.Goals as goal

pub returns-in_err-served : goal.returns-in_err-served
unfolding registry_home
returns-in_err-served g c =
    let l = layout_view c.args.layout.now in
    let p = err_from_is_err_and c.from_residual.result c.from_residual.ensures.1 in
    rw (p.1, p.2) (finds_here c.in_err-served.ensures.calm (λ f. fails_on (fault_seen wrong_view c.in_err-served.field-0.0) _ (λ served. served_home (override_for l.overrides c.args.port.now) served c.args.port.now f) c.in_err-served.ensures.told))

pub returns : goal.returns
unfolding registry_home
returns g c = finds_after _ _ c.in_ok-served.ensures.told (rw c.ask_for-set.ensures at c.served_home.ensures)
