use Rattle.std.proofs.Common.{◌≡◌, map}
use Rattle.vk_json.specs.Values.{entries_view}
use Rattle.vk_spec.specs.Reading.{read_each}
use Rattle.vk_spec.proofs.ReadingLemmas.{with_front}
use Rattle.vk_json.specs.Readings.{member_at, pairs_of}
use Rattle.vk_json.proofs.readers.read_members_into.Given as goal

abbrev pub invariant-loop-key : goal.invariant-loop-key
invariant-loop-key g l =
    with_front (map g.R.MemberReader.plain l.read) (read_each (λ _. member_at (g.R.MemberReader.reads l.reader)) 0 (pairs_of (entries_view l.key-iterator)))
    ≡ read_each (λ _. member_at (g.R.MemberReader.reads l.reader)) 0 (pairs_of (entries_view l.members.entries))
