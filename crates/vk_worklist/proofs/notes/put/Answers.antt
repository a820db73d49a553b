use Rattle.std.proofs.Common.{◌∙◌, ap, arith}
use Rattle.std.specs.Prelude.{unwrap_or}
use Rattle.indexmap.specs.Entry.{map_with_value}
use Rattle.vk_worklist.proofs.MapLemmas.{put_old, put_new}
use Rattle.vk_worklist.proofs.notes.put.Goals as goal

pub returns-clause-known : goal.returns-clause-known
returns-clause-known c = λ there.
    let p = put_old c.args.fact c.args.cause c.or_insert.result.now c.args.lines.now.entries (map_with_value c.in_ok-lines.field-0 c.or_insert.result.now).entries (c.in_ok-lines.ensures.update.1 c.or_insert.result.now) (c.or_insert.ensures.value ∙ ap (λ o. unwrap_or o c.args.cause) c.in_ok-lines.ensures.value) there in
    grind (arith, p)

pub returns-clause-new : goal.returns-clause-new
returns-clause-new c = λ unnoted.
    let p = put_new c.args.fact c.args.cause c.or_insert.result.now c.args.lines.now.entries (map_with_value c.in_ok-lines.field-0 c.or_insert.result.now).entries (c.in_ok-lines.ensures.update.1 c.or_insert.result.now) (c.or_insert.ensures.value ∙ ap (λ o. unwrap_or o c.args.cause) c.in_ok-lines.ensures.value) unnoted in
    grind (arith, p)
