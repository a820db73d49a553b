use Rattle.std.proofs.Common.{rules, map, ap, ◌∙◌}
use Rattle.std.specs.Ordering.{nat_cmp}
use Rattle.std.specs.Cmp.Lexicographic.{slice_cmp}
use Rattle.std.proofs.lemmas.Fn.{always_returns_same}
use Rattle.vk_registry.specs.Baselines.{IsInOrder, ask_for}
use Rattle.vk_registry.specs.BaselineViews.{entry_view}
use Rattle.vk_registry.proofs.EntryLemmas.{comparisons_rise, place_found, place_missing}
use Rattle.vk_registry.proofs.baselines.baseline_of.Goals as goal

pub returns-in-Ok : goal.returns-in-Ok
returns-in-Ok c =
    let equal =
    c.in-Ok.ensures.position (λ entry. slice_cmp nat_cmp entry.port c.args.port.now)
    (always_returns_same _ _ _ (λ a r f k. search rules)) in
    place_found c.args.port.now c.as_slice-entries.result.now
    (rw c.as_slice-entries.ensures c.baseline.invariant) c.in-Ok.place
    c.index-entries-place.result c.in-Ok.ensures.bound (equal c.index-entries-place.result)
    ∙ ap (λ l. ask_for c.args.port.now (map entry_view l)) c.as_slice-entries.ensures
    ∙ ap (ask_for c.args.port.now) c.baseline.view_is

pub returns-in-Err : goal.returns-in-Err
returns-in-Err c =
    let order : IsInOrder (map entry_view c.as_slice-entries.result.now) =
    rw c.as_slice-entries.ensures c.baseline.invariant in
    let parted =
    c.in-Err.ensures.position (λ entry. slice_cmp nat_cmp entry.port c.args.port.now)
    (always_returns_same _ _ _ (λ a r f k. search rules))
    (comparisons_rise c.args.port.now c.as_slice-entries.result.now order) in
    place_missing c.args.port.now c.as_slice-entries.result.now order c.in-Err.field-0 parted
    ∙ ap (λ l. ask_for c.args.port.now (map entry_view l)) c.as_slice-entries.ensures
    ∙ ap (ask_for c.args.port.now) c.baseline.view_is
