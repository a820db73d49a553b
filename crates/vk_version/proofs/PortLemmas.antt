-- A version's text is read alike whatever its port-version is.
use Rattle.std.proofs.Common.{◌≡◌, ℕ, List, ap}
use Rattle.std.specs.Prelude.{Option, Some, None, Ok, Err}
use Rattle.vk_spec.specs.Versions.{Class, Version}
use Rattle.vk_version.specs.declared.faults.VersionFault.{VersionFault}
use Rattle.vk_version.specs.Readings.{unless, class_of, fault_under, IsVersion}
use Rattle.vk_version.specs.Parsed.{version_of, Keeps}

unless_with : (wrong : Option VersionFault) (class : Class) (v : Version) (port : ℕ)
    → unless wrong (version_of class v.text v.port) ≡ Ok v
    → unless wrong (version_of class v.text port) ≡ Ok (record v { port = port })
unless_with (Some f) class v port e = let no : Err f ≡ Ok v = e in (cc)
unless_with None class v port e =
    let is : version_of class v.text v.port ≡ v = (cc) in
    ap (λ (w : Version). Ok (record w { port = port })) is

with_port_is : (v : Version) (port : ℕ) → IsVersion v → IsVersion (record v { port = port })
with_port_is v port is = record {
  scheme = is.scheme;
  reads = unless_with (fault_under is.scheme v.text) (class_of is.scheme) v port is.reads;
}

-- what a version keeps, it keeps with any port-version
pub kept_with_port : (v : Version) (numbers : List ℕ) (pre : List ℕ) (port : ℕ)
    → Keeps v numbers pre → Keeps (record v { port = port }) numbers pre
kept_with_port v numbers pre port kept = record {
  version = with_port_is v port kept.version;
  numbers = kept.numbers;
  pre = kept.pre;
}
