-- The message of which pieces came.
use Rattle.std.specs.Prelude.{ℕ, List}
use Rattle.sha2.specs.Hashers.{Holds256}
use Rattle.vk_digest.specs.declared.DigestRun.{DigestRun}

abbrev pub Holds : DigestRun → List ℕ → Type 0
Holds run message = Holds256 run.hasher message
