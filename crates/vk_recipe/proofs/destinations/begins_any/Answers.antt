use Rattle.std.proofs.Common.{◌≡◌, false, sym, subst}
use Rattle.std.specs.Ordering.{is_gt}
use Rattle.vk_spec.specs.Paths.{path_cmp}
use Rattle.vk_recipe.proofs.TakenLemmas.{has_path, stored, of_first, first_says, none_from}
use Rattle.vk_recipe.proofs.destinations.begins_any.Goals as goal

pub returns-in-Some : goal.returns-in-Some
returns-in-Some c paths taken =
    let within = c.range.ensures.in_range tt in
    let first = of_first _ _ c.next.new.self _ c.in-Some.ensures.steps within.1 in
    first_says paths c.args.path.now c.in-Some.first.now.now c.begins.result c.begins.ensures
    ((taken.members c.in-Some.first.now.now).0 (has_path c.args.taken.now.keys c.in-Some.first.now first.1)) first.0.0
    (λ q from at.
    let key = stored paths c.args.taken.now.keys taken q at in
    subst (λ p. is_gt (path_cmp c.in-Some.first.now.now p) ≡ false) key.1
    (of_first _ _ c.next.new.self _ c.in-Some.ensures.steps
    (within.2 key.0 (subst (λ p. is_gt (path_cmp c.args.path.now p) ≡ false) (sym key.1) from, tt) key.2)))

pub returns-in-None : goal.returns-in-None
returns-in-None c paths taken =
    none_from paths c.args.path.now (λ q from at.
    let key = stored paths c.args.taken.now.keys taken q at in
    let within = c.range.ensures.in_range tt in
    let none = within.5 c.in-None.ensures.steps.0 key.0 (subst (λ p. is_gt (path_cmp c.args.path.now p) ≡ false) (sym key.1) from, tt) in
    let found = key.2 in (cc))
