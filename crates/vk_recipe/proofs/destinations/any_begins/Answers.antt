use Rattle.std.proofs.Common.{◌≡◌, false, sym, subst}
use Rattle.std.specs.Ordering.{is_gt, is_lt}
use Rattle.vk_spec.specs.Paths.{path_cmp}
use Rattle.vk_recipe.proofs.TakenLemmas.{has_path, stored, last_says, none_upto}
use Rattle.vk_recipe.proofs.destinations.any_begins.Goals as goal

pub returns-in-Some : goal.returns-in-Some
returns-in-Some c paths taken =
    let within = c.range.ensures.in_range tt in
    let last = within.3 _ c.next_back.new.self c.in-Some.ensures.steps in
    last_says paths c.args.path.now taken.apart c.in-Some.last.now.now c.begins.result c.begins.ensures
    ((taken.members c.in-Some.last.now.now).0 (has_path c.args.taken.now.keys c.in-Some.last.now last.1)) last.0.1
    (λ q upto at.
    let key = stored paths c.args.taken.now.keys taken q at in
    subst (λ p. is_lt (path_cmp c.in-Some.last.now.now p) ≡ false) key.1
    (within.4 _ c.next_back.new.self c.in-Some.ensures.steps key.0
    (tt, subst (λ p. is_gt (path_cmp p c.args.path.now) ≡ false) (sym key.1) upto) key.2))

pub returns-in-None : goal.returns-in-None
returns-in-None c paths taken =
    none_upto paths c.args.path.now (λ q upto at.
    let key = stored paths c.args.taken.now.keys taken q at in
    let within = c.range.ensures.in_range tt in
    let none = within.5 c.in-None.ensures.steps.0 key.0 (tt, subst (λ p. is_gt (path_cmp p c.args.path.now) ≡ false) (sym key.1) upto) in
    let found = key.2 in (cc))
