-- Versions are the same where class, text and port-version are, and then they are hashed alike.
use Rattle.std.specs.Prelude.{◌≡◌, ◌++◌, true}
use Rattle.std.specs.Cmp.{IsEquivalence, decided}
use Rattle.std.specs.Hash as fed
use Rattle.vk_base.specs.ShortTexts.{text_fed}
use Rattle.vk_spec.specs.Versions.{Version, same_version}
use Rattle.vk_spec.proofs.VersionLemmas.{version_decides}

pub version_laws : IsEquivalence {K = Version} same_version
version_laws = decided same_version version_decides

-- what a version is hashed by: its text and port-version
abbrev pub version_fed : Version → fed.HashWrites
version_fed v = text_fed v.text ++ fed.u32 v.port

pub version_hashed : (v w : Version) → same_version v w ≡ true → version_fed v ≡ version_fed w
version_hashed v w e = let p = (version_decides v w).0 e in λ i. version_fed (p i)
