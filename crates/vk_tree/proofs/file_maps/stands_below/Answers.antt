use Rattle.std.proofs.Common.{◌≡◌, true, false, sym, ◌∙◌}
use Rattle.std.specs.FinMap as map
use Rattle.vk_spec.proofs.OrderLemmas.{less_below}
use Rattle.vk_spec.proofs.RoomLemmas.{none_below}
use Rattle.vk_tree.proofs.FileMapLemmas.{get_path, stored, found_at, of_first, folder_at}
use Rattle.vk_tree.proofs.file_maps.stands_below.Goals as goal

pub returns-in-Some-clause-free : goal.returns-in-Some-clause-free
returns-in-Some-clause-free c is =
    let within = c.range.ensures.in_range tt in
    let first = of_first _ _ c.next.new.self _ c.in-Some.ensures.steps within.1 in
    none_below (map.from_entries c.args.inner.now.entries) c.args.path.now c.in-Some.first.now first.0.0
    (λ begins. let clash : true ≡ false = sym (c.begins.ensures.1 begins) ∙ is in (cc))
    (λ q less found. of_first _ _ c.next.new.self _ c.in-Some.ensures.steps (within.2 q (less, tt) (stored c.args.inner.now.entries q found)))

pub returns-in-Some-clause-taken : goal.returns-in-Some-clause-taken
returns-in-Some-clause-taken c is =
    let within = c.range.ensures.in_range tt in
    let first = of_first _ _ c.next.new.self _ c.in-Some.ensures.steps within.1 in
    folder_at (map.from_entries c.args.inner.now.entries) c.args.path.now c.in-Some.first.now (found_at c.args.inner.now.entries c.in-Some.first.now _ first.1) first.0.0 (c.begins.ensures.0 is)

pub returns-in-None-clause-free : goal.returns-in-None-clause-free
returns-in-None-clause-free c is part rest =
    get_path c.args.inner.now.entries _ ∙ (c.range.ensures.in_range tt).5 c.in-None.ensures.steps.0 _ (less_below c.args.path.now part rest, tt)
