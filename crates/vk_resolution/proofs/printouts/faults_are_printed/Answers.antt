use Rattle.std.specs.Prelude.{codes}
use Rattle.std.proofs.Common.{refl}
use Rattle.std.specs.Fmt.{digits}
use Rattle.vk_base.specs.Tokens.{token_of}
use Rattle.vk_resolution.specs.Projects
use Rattle.vk_resolution.specs.Printouts
use Rattle.vk_resolution.proofs.PrintLemmas.{tells}
use Rattle.vk_resolution.proofs.printouts.faults_are_printed.Goals as goal

pub returns-clause-manifest : goal.returns-clause-manifest
unfolding token_of digits
returns-clause-manifest c = tells Projects.damaged_manifest (Printouts.single_line (codes "bad-file reg/ports/a/1.0/vcpkg.json - json 6")) 7 refl

pub returns-clause-conflict : goal.returns-clause-conflict
unfolding token_of digits
returns-clause-conflict c = tells Projects.conflict (Printouts.single_line (codes "conflict s alpha#0 16 beta#0 15")) 20 refl

pub returns-clause-feature : goal.returns-clause-feature
unfolding token_of digits
returns-clause-feature c = tells Projects.dropped_feature (Printouts.single_line (codes "no-feature a x64-linux x 2.0#0 5")) 18 refl

pub returns-clause-port : goal.returns-clause-port
unfolding token_of digits
returns-clause-port c = tells Projects.unsupported_port (Printouts.single_line (codes "unsupported b x64-linux core 2#0 3")) 7 refl

pub returns-clause-cycle : goal.returns-clause-cycle
unfolding token_of digits
returns-clause-cycle c = tells Projects.cycle (Printouts.single_line (codes "cycle a x64-linux b x64-linux c x64-linux")) 17 refl
