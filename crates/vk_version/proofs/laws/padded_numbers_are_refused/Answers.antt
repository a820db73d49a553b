use Rattle.vk_version.proofs.RefusedLemmas.{relaxed_padded, semver_padded, date_padded}
use Rattle.vk_version.proofs.laws.padded_numbers_are_refused.Goals as goal

pub returns : goal.returns
returns c = record { relaxed = relaxed_padded; semver = semver_padded; date = date_padded }
