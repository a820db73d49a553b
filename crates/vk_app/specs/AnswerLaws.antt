-- What the laws on answers say.
use Rattle.std.specs.Prelude.{◌≡◌, Ok, Err}
use Rattle.vk_spec.specs.Files.{Files, IsTree}
use Rattle.vk_words.specs.Words.{Words}
use Rattle.vk_abi.specs.LawsOnPlans.{ArePaths}
use Rattle.vk_app.specs.declared.requests.Task.TheVariants as task
use Rattle.vk_app.specs.Requests.{Request, request_of}
use Rattle.vk_app.specs.Shown.{Shown}
use Rattle.vk_app.specs.Answers.{IsAnswer}

-- words and files have one answer at most
abbrev pub AnswerIsOne : Type 0
AnswerIsOne = (words : Words) (files : Files) (one other : Shown) → IsAnswer words files one → IsAnswer words files other → one ≡ other

-- all but an ABI text needs no folder to be listed
abbrev pub ListsNothing : Request → Type 0
ListsNothing (Ok (task.Plan project)) = Unit {0}
ListsNothing (Ok (task.Abi project instance)) = ⊥
ListsNothing (Ok (task.Check project report)) = Unit {0}
ListsNothing (Ok (task.SelfLoad size project)) = Unit {0}
ListsNothing (Err fault) = Unit {0}

-- then they have one, whatever the files
abbrev pub AnswerExists : Type 0
AnswerExists = (words : Words) (files : Files) → ListsNothing (request_of words) → (shown : Shown) × IsAnswer words files shown

-- and always over files that stand at paths, none below another
abbrev pub TreeHasAnswer : Type 0
TreeHasAnswer = (words : Words) (files : Files) → IsTree files → ArePaths files → (shown : Shown) × IsAnswer words files shown
