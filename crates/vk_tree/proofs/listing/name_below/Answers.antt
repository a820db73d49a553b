use Rattle.std.proofs.Common.{◌∙◌}
use Rattle.vk_tree.proofs.PartLemmas.{some_part, part_found, more_follow, name_is_part}
use Rattle.vk_tree.proofs.listing.name_below.Goals as goal

pub returns-in_err-name-clause-none : goal.returns-in_err-name-clause-none
returns-in_err-name-clause-none c is begun =
    some_part c.args.dir.now c.args.path.now c.parts_after-parts.result c.known.ensures (rw (← c.part_count.ensures, ← c.parts.ensures.parts) c.parts_after-parts.ensures) c.in_err-name.ensures.0 c.requires begun

pub returns-clause-some : goal.returns-clause-some
returns-clause-some c = (
  c.next.new.self,
  part_found c.args.dir.now c.args.path.now c.parts_after-parts.result c.next.new.self c.in_ok-name.name.now c.known.ensures (rw (← c.part_count.ensures, ← c.parts.ensures.parts) c.parts_after-parts.ensures) c.in_ok-name.ensures (c.begins.ensures.0 c.if-not-begins.false),
  c.is_some.ensures ∙ more_follow (λ part. part.now) c.next-2.result c.next.new.self c.next-2.new.self c.next-2.ensures,
)

pub returns-clause-part : goal.returns-clause-part
returns-clause-part c =
    name_is_part c.args.dir.now c.args.path.now c.next.new.self c.in_ok-name.name.now c.known.ensures c.parts.ensures.path
    (part_found c.args.dir.now c.args.path.now c.parts_after-parts.result c.next.new.self c.in_ok-name.name.now c.known.ensures (rw (← c.part_count.ensures, ← c.parts.ensures.parts) c.parts_after-parts.ensures) c.in_ok-name.ensures (c.begins.ensures.0 c.if-not-begins.false))
