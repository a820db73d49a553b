use Rattle.vk_files.proofs.FindLemmas.{finds_here, finds_lacking}
use Rattle.vk_pages.proofs.overlays.home_in.Goals as goal

pub returns-in_ok-clone-in-Port-2 : goal.returns-in_ok-clone-in-Port-2
returns-in_ok-clone-in-Port-2 g c =
    let told = rw (c.in_ok-clone-in-Port.ensures.cases, c.in_ok-clone-in-Port-2.ensures.cases) at c.port_home.ensures.told in
    rw c.in-Port.is (finds_here c.port_home.ensures.calm (λ f. told))

pub returns-in_err-clone-in-Port : goal.returns-in_err-clone-in-Port
returns-in_err-clone-in-Port g c = finds_lacking c.from_residual.ensures.1 (λ f known. known)

pub returns-in_err-clone-in-Port-2 : goal.returns-in_err-clone-in-Port-2
returns-in_err-clone-in-Port-2 g c = finds_lacking c.from_residual-in_err-clone-in-Port-2.ensures.1 (λ f known. known)

pub returns-in_err-folder-in-Ports : goal.returns-in_err-folder-in-Ports
returns-in_err-folder-in-Ports g c = finds_lacking c.from_residual-in_err-folder-in-Ports.ensures.1 (λ f known. known)
