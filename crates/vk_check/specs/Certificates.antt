-- What reasons show of themselves.
use Rattle.std.specs.Prelude.{List, []}
use Rattle.vk_spec.specs.Lists.{NoRepeats}
use Rattle.vk_resolution.specs.Least.{IsClosed, IsLeast}
use Rattle.vk_resolution.specs.Consequences.{Inputs, rules_of}
use Rattle.vk_resolution.specs.Reasons.{Reason, facts_of, IsDerivation}

-- no fact stands twice, all that follows stands on a line, and each line is shown by the lines before it that it cites
pub record IsCertificate (inputs : Inputs) (reasons : List Reason) : Type 0 where
  pub distinct : NoRepeats (facts_of reasons)
  pub closed : IsClosed (rules_of inputs) (facts_of reasons)
  pub derivation : IsDerivation inputs [] reasons

-- such reasons are the least list
abbrev pub CertificatesAreLeast : Type 0
CertificatesAreLeast = (inputs : Inputs) (reasons : List Reason) → IsCertificate inputs reasons → IsLeast (rules_of inputs) (facts_of reasons)
