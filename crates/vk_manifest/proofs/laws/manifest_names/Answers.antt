use Rattle.std.specs.Prelude.{false}
use Rattle.vk_manifest.proofs.DocumentLemmas.{is_read}
use Rattle.vk_manifest.proofs.laws.manifest_names.Goals as goal

pub returns-clause-names : goal.returns-clause-names
returns-clause-names c = λ bytes root m e. (is_read bytes root m e).0

pub returns-clause-port : goal.returns-clause-port
returns-clause-port c = λ bytes m e. (is_read bytes false m e).1
