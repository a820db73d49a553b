use Rattle.std.proofs.Common.{◌∙◌, ◌∷◌, ◌++◌, [], ap, IsTrue}
use Rattle.std.proofs.lemmas.List.{append_assoc}
use Rattle.vk_base.specs.Paths.{is_part}
use Rattle.vk_walk.proofs.MachineLemmas.{entered_push, parts_left}
use Rattle.vk_walk.proofs.walks.put_entries.Goals as goal

pub loop-entry-preserved : goal.loop-entry-preserved
loop-entry-preserved c = record {
  done = c.in-Some.entry ∷ c.loop-entry.invariant.done;
  split = c.loop-entry.invariant.split ∙ ap (λ l. l ++ c.loop-entry.invariant.done) c.in-Some.ensures.items ∙ append_assoc c.pop.new.self.items (c.in-Some.entry ∷ []) c.loop-entry.invariant.done;
  parts = parts_left (λ l. IsTrue (is_part l.name)) c.loop-entry.entries.items c.pop.new.self.items c.in-Some.entry c.in-Some.ensures.items c.loop-entry.invariant.parts;
  entered = entered_push c.args.path.now c.in_ok-path.path c.args.left c.as_str.result.now c.in-Some.entry c.loop-entry.invariant.done c.args.todo.now c.loop-entry.todo c.push.new.self c.in_ok-path.ensures c.as_str.ensures c.in_ok-push.ensures.ok c.loop-entry.invariant.entered;
}
