use Rattle.vk_resolution.proofs.PinLemmas.{overrides_mean, overlay_files_mean, pinned_means}
use Rattle.vk_resolution.proofs.meanings.a_pinned_port_has_an_overlay_or_an_override.Goals as goal

pub returns-clause-overrides : goal.returns-clause-overrides
returns-clause-overrides c = overrides_mean

pub returns-clause-files : goal.returns-clause-files
returns-clause-files c = overlay_files_mean

pub returns-clause-pinned : goal.returns-clause-pinned
returns-clause-pinned c = pinned_means
