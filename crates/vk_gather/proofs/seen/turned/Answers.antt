use Rattle.std.proofs.Common.{◌∙◌, ◌∷◌, ◌++◌, [], ap}
use Rattle.std.proofs.lemmas.List.{append_assoc}
use Rattle.std.proofs.lemmas.List.Elements.{All-cons}
use Rattle.vk_base.specs.Paths.{IsPath}
use Rattle.vk_gather.specs.EachOnce.{put_first}
use Rattle.vk_gather.proofs.seen.turned.Goals as goal

pub loop-path-preserved : goal.loop-path-preserved
loop-path-preserved c = record {
  done = c.in-Some.path ∷ c.loop-path.invariant.done;
  split = c.loop-path.invariant.split ∙ ap (λ l. l ++ c.loop-path.invariant.done) c.in-Some.ensures.items ∙ append_assoc c.pop.new.self.items (c.in-Some.path ∷ []) c.loop-path.invariant.done;
  once = c.in_ok-push_once.ensures.put ∙ ap (put_first c.in-Some.path) c.loop-path.invariant.once;
  paths = All-cons IsPath c.in-Some.path c.loop-path.invariant.done c.push_once.ensures.path c.loop-path.invariant.paths;
}
