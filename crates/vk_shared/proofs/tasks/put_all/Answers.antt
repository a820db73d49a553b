use Rattle.std.proofs.Common.{◌≡◌, ◌∷◌, ◌++◌, [], map}
use Rattle.std.specs.Vec.Iter.{into_iter_items}
use Rattle.vk_make.specs.Makes.{planned_after}
use Rattle.vk_shared.specs.Tasks.{planned_view, task_view}
use Rattle.vk_shared.proofs.TaskLemmas.{plans_more}
use Rattle.vk_shared.proofs.tasks.put_all.Goals as goal

pub loop-task-preserved : goal.loop-task-preserved
loop-task-preserved c =
    let step : into_iter_items c.loop-task.task-iterator ≡ c.in-Some.task ∷ into_iter_items c.next.new.self = c.in-Some.ensures.steps.0 in
    plans_more (into_iter_items c.next.new.self) (map planned_view c.args.todo.now.items ++ planned_after [] (map task_view c.args.tasks)) c.in_ok-put.ensures (rw step at c.loop-task.invariant)
