-- The task that words ask for is one that is done.
use Rattle.std.proofs.Common.{◌≡◌, ◌≤◌, ℕ, refl, ap, sym, subst, ◌∙◌}
use Rattle.std.specs.Prelude.{Ok, unwrap_or}
use Rattle.vk_spec.proofs.ReadingLemmas.{bind_ok}
use Rattle.vk_words.specs.Words.{Words}
use Rattle.vk_words.specs.Commands.{reads_words}
use Rattle.vk_words.specs.declared.commands.Command.{Command}
use Rattle.vk_words.specs.declared.commands.Command.TheVariants as command
use Rattle.vk_app.specs.declared.requests.Task.{Task}
use Rattle.vk_app.specs.declared.requests.Task.TheVariants as task
use Rattle.vk_app.specs.Requests.{Request, request_of, task_in, load_project, HasSize}
use Rattle.vk_words.proofs.SizeLemmas.{size_allowed}

the_task : (r : Request) (t u : Task) → r ≡ Ok t → r ≡ Ok u → t ≡ u
the_task r t u one other = let same : Ok t ≡ Ok u = sym one ∙ other in (cc)

allowed_task : (c : Command) (t : Task) → ((n : ℕ) → c ≡ command.SelfLoad n → (1 ≤ n) × (n ≤ 2000)) → task_in c ≡ Ok t → HasSize t
allowed_task (command.Plan project) t size e = subst HasSize (the_task (task_in (command.Plan project)) (task.Plan project) t refl e) (tt {0})
allowed_task (command.Abi project port triplet) t size e = subst HasSize (the_task (task_in (command.Abi project port triplet)) (task.Abi project (record { port = port; triplet = unwrap_or triplet project.target })) t refl e) (tt {0})
allowed_task (command.Install project store) t size e = (cc)
allowed_task (command.Check project report) t size e = subst HasSize (the_task (task_in (command.Check project report)) (task.Check project report) t refl e) (tt {0})
allowed_task (command.SelfLoad n) t size e = subst HasSize (the_task (task_in (command.SelfLoad n)) (task.SelfLoad n load_project) t refl e) (size n refl)

pub allowed : (words : Words) (t : Task) → request_of words ≡ Ok t → HasSize t
allowed words t e =
    let read = bind_ok (reads_words words) task_in t e in
    allowed_task read.0 t (λ n is. size_allowed words n (read.1 ∙ ap (λ c. Ok c) is)) read.2
