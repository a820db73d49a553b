use Rattle.std.proofs.Common.{map, drop, ◌+◌, [], ◌∷◌, drop_of_length-le}
use Rattle.std.proofs.lemmas.List.{map-append}
use Rattle.std.proofs.lemmas.Result.{err_from_is_err_and}
use Rattle.vk_spec.specs.Reading.{read_each}
use Rattle.vk_spec.proofs.ReadingLemmas.{goes_on_with, ends_with, is_done_with}
use Rattle.vk_base.specs.Stops.{fault_in}
use Rattle.vk_json.specs.Readings.{member_at}
use Rattle.vk_json.specs.Values.{pair_of}
use Rattle.vk_json.proofs.WrittenLemmas.{one_more}
use Rattle.vk_json.proofs.readers.read_written.Goals as goal

pub returns-in_err-member : goal.returns-in_err-member
returns-in_err-member g c =
    let p = err_from_is_err_and c.from_residual-in_err-member.result c.from_residual-in_err-member.ensures.1 in
    let f = member_at (g.R.MemberReader.reads c.args.reader.now) in
    let object = c.args.object.now in
    let i = c.loop-key.key-index in
    let m = c.loop-key-item.result in
    let total = read_each (λ _. f) 0 (map pair_of object) in
    rw (p.1, p.2)
    (ends_with (fault_in c.in_err-member.field-0.0) f (map g.R.MemberReader.plain c.loop-key.read) (pair_of m) (map pair_of (drop (i + 1) object)) total c.in_err-member.ensures
    (rw (one_more object i m c.loop-key-test.true c.loop-key-item.is) at c.loop-key.invariant))

pub loop-key-preserved : goal.loop-key-preserved
loop-key-preserved g c =
    let f = member_at (g.R.MemberReader.reads c.args.reader.now) in
    let object = c.args.object.now in
    let i = c.loop-key.key-index in
    let m = c.loop-key-item.result in
    let total = read_each (λ _. f) 0 (map pair_of object) in
    rw (c.in_ok-push.ensures.ok, map-append g.R.MemberReader.plain c.loop-key.read (c.in_ok-member.member ∷ []))
    (goes_on_with f (map g.R.MemberReader.plain c.loop-key.read) (pair_of m) (g.R.MemberReader.plain c.in_ok-member.member) (map pair_of (drop (i + 1) object)) total c.in_ok-member.ensures
    (rw (one_more object i m c.loop-key-test.true c.loop-key-item.is) at c.loop-key.invariant))

pub returns : goal.returns
returns g c =
    let f = member_at (g.R.MemberReader.reads c.args.reader.now) in
    let object = c.args.object.now in
    is_done_with f (map g.R.MemberReader.plain c.loop-key.read) (read_each (λ _. f) 0 (map pair_of object))
    (rw (drop_of_length-le object c.loop-key-test.false) at c.loop-key.invariant)
