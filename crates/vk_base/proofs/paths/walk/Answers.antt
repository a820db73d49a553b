use Rattle.std.proofs.Common.{◌∷◌, length, length-append, ap, subst, arith, rules}
use Rattle.std.specs.Str.{IsUtf8}
use Rattle.std.proofs.lemmas.Str.Pattern.{split_parts}
use Rattle.vk_base.specs.Paths.{Lacks}
use Rattle.vk_base.proofs.PathLemmas.{lacks_from, lacks_after, segment_first, segment_last, walked_next, walked_last}
use Rattle.vk_base.proofs.paths.walk.Goals as goal

pub go-requires-clause-slash : goal.go-requires-clause-slash
go-requires-clause-slash c =
    let parts = split_parts 47 c.loop-segment.rest.now c.split_once.result c.split_once.ensures.cases (omega arith) in
    let here = rw c.in-Some.is at parts in
    lacks_from 47 c.in-Some.segment.now here.1

pub go-requires-2-clause-slash : goal.go-requires-2-clause-slash
go-requires-2-clause-slash c =
    let parts = split_parts 47 c.loop-segment.rest.now c.split_once.result c.split_once.ensures.cases (omega arith) in
    lacks_from 47 c.loop-segment.rest.now (rw c.in_default.is at parts)

pub loop-segment-preserved : goal.loop-segment-preserved
loop-segment-preserved c =
    let parts = split_parts 47 c.loop-segment.rest.now c.split_once.result c.split_once.ensures.cases (omega arith) in
    let here = rw c.in-Some.is at parts in
    let first = segment_first c.loop-segment.rest.now c.in-Some.segment.now c.in-Some.after.now here.0 (lacks_from 47 c.in-Some.segment.now here.1) in
    let utf8 : IsUtf8 c.in-Some.after.now = search rules in (
      walked_next c.loop-segment.path c.go.new.self c.in-Some.segment.now _ _ _ first c.in_ok-go.ensures.place c.loop-segment.invariant.0,
      lacks_after 0 47 c.in-Some.segment.now c.in-Some.after.now (subst (Lacks 0) here.0 c.loop-segment.invariant.1),
      omega (arith, c.in_ok-go.ensures.ups, c.loop-segment.invariant.2, ap length here.0, length-append c.in-Some.segment.now (47 ∷ c.in-Some.after.now)),
      utf8,
    )

pub returns : goal.returns
returns c =
    let parts = split_parts 47 c.loop-segment.rest.now c.split_once.result c.split_once.ensures.cases (omega arith) in
    let last = segment_last c.loop-segment.rest.now (lacks_from 47 c.loop-segment.rest.now (rw c.in_default.is at parts)) in
    walked_last c.loop-segment.path c.go-2.new.self c.loop-segment.rest.now _ _ last c.in_ok-go-2.ensures.place c.loop-segment.invariant.0
