use Rattle.std.proofs.Common.{refl}
use Rattle.vk_version.specs.Schemes as the
use Rattle.vk_version.proofs.TailLemmas.{semver_numbers, semver_pre}
use Rattle.vk_version.proofs.readers.read_semver.Goals as goal

pub with_parts-requires : goal.with_parts-requires
with_parts-requires c =
    let read = c.in-Ok.ensures.ok in
    record {
      version = record { scheme = the.semver; reads = rw read refl };
      numbers = rw (semver_numbers c.args.text.now _ read) c.in_ok-numbers-in-Ok.ensures;
      pre = rw (semver_pre c.args.text.now _ read) refl;
    }
