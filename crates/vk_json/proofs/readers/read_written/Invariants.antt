use Rattle.std.proofs.Common.{◌≡◌, map, drop}
use Rattle.vk_spec.specs.Reading.{read_each}
use Rattle.vk_spec.proofs.ReadingLemmas.{with_front}
use Rattle.vk_json.specs.Readings.{member_at}
use Rattle.vk_json.specs.Values.{pair_of}
use Rattle.vk_json.proofs.readers.read_written.Given as goal

abbrev pub invariant-loop-key : goal.invariant-loop-key
invariant-loop-key g l =
    let f = member_at (g.R.MemberReader.reads l.reader) in
    with_front (map g.R.MemberReader.plain l.read) (read_each (λ _. f) 0 (map pair_of (drop l.key-index l.object)))
    ≡ read_each (λ _. f) 0 (map pair_of l.object)
