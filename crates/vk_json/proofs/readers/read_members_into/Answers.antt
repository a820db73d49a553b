use Rattle.std.proofs.Common.{map, [], ◌∷◌}
use Rattle.std.proofs.lemmas.List.{map-append}
use Rattle.std.proofs.lemmas.Result.{err_from_is_err_and}
use Rattle.vk_json.specs.Values.{view, entries_view}
use Rattle.vk_spec.specs.Reading.{read_each}
use Rattle.vk_spec.proofs.ReadingLemmas.{goes_on_with, ends_with, is_done_with}
use Rattle.vk_base.specs.Stops.{fault_in}
use Rattle.vk_json.specs.Readings.{member_at, pairs_of}
use Rattle.vk_json.proofs.readers.read_members_into.Goals as goal

pub returns-in_err-member : goal.returns-in_err-member
returns-in_err-member g c =
    let p = err_from_is_err_and c.from_residual.result c.from_residual.ensures.1 in
    let f = member_at (g.R.MemberReader.reads c.args.reader.now) in
    let total = read_each (λ _. f) 0 (pairs_of (entries_view c.args.members.now.entries)) in
    rw (p.1, p.2)
    (ends_with (fault_in c.in_err-member.field-0.0) f (map g.R.MemberReader.plain c.loop-key.read) (c.in-Some.key.now.now, view c.in-Some.value.now.now) (pairs_of (entries_view c.next.new.self)) total c.in_err-member.ensures
    (rw c.in-Some.ensures.steps at c.loop-key.invariant))

pub loop-key-preserved : goal.loop-key-preserved
loop-key-preserved g c =
    let f = member_at (g.R.MemberReader.reads c.args.reader.now) in
    let total = read_each (λ _. f) 0 (pairs_of (entries_view c.args.members.now.entries)) in
    rw (c.in_ok-push.ensures.ok, map-append g.R.MemberReader.plain c.loop-key.read (c.in_ok-member.member ∷ []))
    (goes_on_with f (map g.R.MemberReader.plain c.loop-key.read) (c.in-Some.key.now.now, view c.in-Some.value.now.now) (g.R.MemberReader.plain c.in_ok-member.member) (pairs_of (entries_view c.next.new.self)) total c.in_ok-member.ensures
    (rw c.in-Some.ensures.steps at c.loop-key.invariant))

pub returns : goal.returns
returns g c =
    let f = member_at (g.R.MemberReader.reads c.args.reader.now) in
    is_done_with f (map g.R.MemberReader.plain c.loop-key.read) (read_each (λ _. f) 0 (pairs_of (entries_view c.args.members.now.entries))) (rw c.in-None.ensures.steps.0 at c.loop-key.invariant)
