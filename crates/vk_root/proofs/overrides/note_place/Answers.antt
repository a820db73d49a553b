use Rattle.std.proofs.Common.{◌∙◌, ap, arith}
use Rattle.std.specs.Prelude.{unwrap_or}
use Rattle.indexmap.specs.Entry.{map_with_value}
use Rattle.vk_root.proofs.OverrideLemmas.{more_places}
use Rattle.vk_root.proofs.overrides.note_place.Goals as goal

pub returns : goal.returns
returns c = λ before one many named are port.
    let value = c.or_insert.ensures.value ∙ ap (λ o. unwrap_or o c.args.place) c.in_ok-places.ensures.value in
    let new = (map_with_value c.in_ok-places.field-0 c.or_insert.result.now).entries in
    let put = (c.in_ok-places.ensures.update.0 c.or_insert.result.now).0 in
    let p = more_places before one c.or_insert.result.now c.args.places.now.entries new (rw (named, ← c.in_ok-copy_of.ensures) put) (rw (named, many, ← c.in_ok-copy_of.ensures) value) are port in
    grind (arith, p)
