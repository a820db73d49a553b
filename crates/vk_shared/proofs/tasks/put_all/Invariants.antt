use Rattle.std.proofs.Common.{◌++◌, [], map}
use Rattle.std.specs.Vec.Iter.{into_iter_items}
use Rattle.vk_make.specs.Makes.{planned_after}
use Rattle.vk_shared.specs.Tasks.{planned_view, task_view}
use Rattle.vk_shared.proofs.TaskLemmas.{PlansOn}
use Rattle.vk_shared.proofs.tasks.put_all.Given as goal

abbrev pub invariant-loop-task : goal.invariant-loop-task
invariant-loop-task l = PlansOn l.digests.keys l.todo.items (into_iter_items l.task-iterator) (map planned_view l.initial.todo.items ++ planned_after [] (map task_view l.fn.tasks))
