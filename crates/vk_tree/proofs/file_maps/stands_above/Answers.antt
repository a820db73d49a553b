use Rattle.std.proofs.Common.{◌≡◌, true, false, sym, ap, ◌∙◌}
use Rattle.std.specs.FinMap as map
use Rattle.vk_spec.specs.Paths.{path_cmp}
use Rattle.vk_spec.proofs.OrderLemmas.{less_below}
use Rattle.vk_spec.proofs.RoomLemmas.{none_above, room_above}
use Rattle.vk_tree.proofs.FileMapLemmas.{get_path, stored, found_at}
use Rattle.vk_tree.proofs.file_maps.stands_above.Goals as goal

pub returns-in-Some-clause-free : goal.returns-in-Some-clause-free
returns-in-Some-clause-free c is =
    let within = c.range.ensures.in_range tt in
    let last = within.3 _ c.next_back.new.self c.in-Some.ensures.steps in
    none_above (map.from_entries c.args.inner.now.entries) c.args.path.now c.in-Some.last.now c.requires (found_at c.args.inner.now.entries c.in-Some.last.now _ last.1) last.0.1
    (λ begins. let clash : true ≡ false = sym (c.begins.ensures.1 begins) ∙ is in (cc))
    (λ q less found. within.4 _ c.next_back.new.self c.in-Some.ensures.steps q (tt, less) (stored c.args.inner.now.entries q found))

pub returns-in-Some-clause-taken : goal.returns-in-Some-clause-taken
returns-in-Some-clause-taken c is =
    let within = c.range.ensures.in_range tt in
    let last = within.3 _ c.next_back.new.self c.in-Some.ensures.steps in
    room_above (map.from_entries c.args.inner.now.entries) c.args.path.now c.in-Some.last.now (found_at c.args.inner.now.entries c.in-Some.last.now _ last.1) last.0.1 (c.begins.ensures.0 is)

pub returns-in-None-clause-free : goal.returns-in-None-clause-free
returns-in-None-clause-free c is q part rest e =
    get_path c.args.inner.now.entries q ∙ (c.range.ensures.in_range tt).5 c.in-None.ensures.steps.0 q (tt, ap (path_cmp q) e ∙ less_below q part rest)
