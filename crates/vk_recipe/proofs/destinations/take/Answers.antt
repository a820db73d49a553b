use Rattle.std.proofs.Common.{sym, ◌∙◌}
use Rattle.vk_recipe.proofs.TakenLemmas.{taken_more, begun_overlaps, beginning_overlaps, none_overlaps}
use Rattle.vk_recipe.proofs.destinations.take.Goals.{then-begins_any-via-then-begins_any, then-begins_any-via-else-begins_any+then-any_begins}
use Rattle.vk_recipe.proofs.destinations.take.Goals as goal

pub returns-then-begins_any-clause-free : goal.returns-then-begins_any-clause-free
returns-then-begins_any-clause-free c paths taken = elim c.then-begins_any.branch [
  | then-begins_any-via-then-begins_any w ↦ begun_overlaps c.args.path.now paths (sym (c.begins_any.ensures paths taken) ∙ w.if-begins_any.true)
  | then-begins_any-via-else-begins_any+then-any_begins w ↦ beginning_overlaps c.args.path.now paths (sym (w.any_begins.ensures paths taken) ∙ w.if-any_begins.true)
]

pub returns-clause-free : goal.returns-clause-free
returns-clause-free c paths taken =
    none_overlaps c.args.path.now paths (sym (c.begins_any.ensures paths taken) ∙ c.if-begins_any.false)
    (sym (c.any_begins.ensures paths taken) ∙ c.if-any_begins.false)

pub returns-clause-taken : goal.returns-clause-taken
returns-clause-taken c paths taken new =
    taken_more paths c.args.taken.now.keys c.insert.new.self.keys c.args.path c.in_ok-insert.ensures.keys
    (sym (c.begins_any.ensures paths taken) ∙ c.if-begins_any.false)
    (sym (c.any_begins.ensures paths taken) ∙ c.if-any_begins.false) taken
