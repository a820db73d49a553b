-- What the words ask for.
use Rattle.std.specs.Prelude.{◌≤◌, [], ◌∷◌, Result, Ok, Err, codes, unwrap_or}
use Rattle.vk_spec.specs.Reading.{◌>>=◌}
use Rattle.vk_words.specs.Words.{Words}
use Rattle.vk_words.specs.Commands.{reads_words, project_for}
use Rattle.vk_words.specs.declared.commands.Command.{Command}
use Rattle.vk_words.specs.declared.commands.Command.TheVariants as command
use Rattle.vk_words.specs.declared.faults.WordFault.{WordFault}
use Rattle.vk_words.specs.declared.faults.WordFault.TheVariants as fault
use Rattle.vk_model.specs.declared.projects.Project.{Project}
use Rattle.vk_app.specs.declared.requests.Task.{Task}
use Rattle.vk_app.specs.declared.requests.Task.TheVariants as task

-- the project of a load: in the working folder, for `x64-linux`, whose file is in the folder `triplets`; all else is as where no option is given
abbrev pub load_project : Project
load_project = record (project_for (codes "x64-linux") []) { overlay_triplets = (codes "." ∷ codes "triplets" ∷ []) ∷ [] }

-- what a command is to do: an ABI text is that of the port for the target, unless another triplet is named; a command that isn't built yet is as unknown as any other word
abbrev pub task_in : Command → Result Task WordFault
task_in (command.Plan project) = Ok (task.Plan project)
task_in (command.Abi project port triplet) = Ok (task.Abi project (record { port = port; triplet = unwrap_or triplet project.target }))
task_in (command.Install project store) = Err (fault.Unknown 1)
task_in (command.Check project report) = Ok (task.Check project report)
task_in (command.SelfLoad size) = Ok (task.SelfLoad size load_project)

-- the project that a task is about
abbrev pub project_of : Task → Project
project_of (task.Plan project) = project
project_of (task.Abi project instance) = project
project_of (task.Check project report) = project
project_of (task.SelfLoad size project) = project

-- the size of a load is from 1 to 2,000
abbrev pub HasSize : Task → Type 0
HasSize (task.Plan project) = Unit {0}
HasSize (task.Abi project instance) = Unit {0}
HasSize (task.Check project report) = Unit {0}
HasSize (task.SelfLoad size project) = (1 ≤ size) × (size ≤ 2000)

-- what the words ask for, or their first fault
abbrev pub Request : Type 0
Request = Result Task WordFault

abbrev pub request_of : Words → Request
request_of words = reads_words words >>= task_in
