use Rattle.std.proofs.Common.{ap, refl, ◌∙◌}
use Rattle.std.specs.Prelude.{Some, Ok}
use Rattle.std.proofs.lemmas.Result.{IfOk-weaker}
use Rattle.vk_version.specs.AskViews.{ask_view}
use Rattle.vk_model.specs.Views.{manifest_view}
use Rattle.vk_world.proofs.LearnLemmas.{learns_pure, learns_lacking, learns_so}
use Rattle.vk_world.proofs.ListedLemmas.{manifest_on_overlay}
use Rattle.vk_world.proofs.row_manifests.home_manifest.Goals as goal

pub returns-in_err-clone-in-Overlay : goal.returns-in_err-clone-in-Overlay
returns-in_err-clone-in-Overlay g c = learns_lacking c.from_residual.ensures.1 (λ f known. known)

pub returns-in_ok-clone-in-Overlay : goal.returns-in_ok-clone-in-Overlay
returns-in_ok-clone-in-Overlay g c =
    let o = c.in-Overlay in
    rw c.in-Overlay.is
    (learns_pure refl (λ f known. (known, λ some. ap (λ m. Some (Ok (manifest_view m))) c.in_ok-clone-in-Overlay.ensures.cases ∙ manifest_on_overlay c.args.port.now f o.folder o.version (manifest_view o.manifest.value) (ask_view c.args.ask.now) some)))

pub returns-in-Registry : goal.returns-in-Registry
returns-in-Registry g c =
    rw c.in-Registry.is (learns_so refl (λ f known. (known, λ p has. has)) (λ f known after says. (known, IfOk-weaker c.table_manifest.result _ _ (λ m is some. is) says)) c.table_manifest.ensures)
