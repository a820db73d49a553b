use Rattle.std.proofs.Common.{flat_map, sym, ap, ◌∙◌, ◌++◌, map-id}
use Rattle.std.specs.Prelude.{string_bytes}
use Rattle.std.proofs.lemmas.Iterator.{YieldsList-from_chars}
use Rattle.std.proofs.lemmas.Iterator.Consumers.{YieldsList-end}
use Rattle.vk_json.specs.Places.{escaped_char}
use Rattle.vk_json.proofs.places.push_escaped.Goals as goal

pub returns : goal.returns
returns c =
    let end = YieldsList-end (YieldsList-from_chars c.args.key.now c.utf8.key cc) c.loop-c.yielded _ c.loop-c.yielded_by _ _ c.in-None.is c.next.ensures.steps in
    c.loop-c.invariant ∙ ap (λ cs. string_bytes c.args.place.now ++ flat_map escaped_char cs) (sym (map-id c.loop-c.yielded) ∙ end.0)
