use Rattle.vk_app.specs.Requests.{request_of}
use Rattle.vk_app.proofs.AnswerLemmas.{one_answer}
use Rattle.vk_app.proofs.ExistenceLemmas.{some_answer, some_unlisted}
use Rattle.vk_app.proofs.laws.words_and_files_have_one_answer.Goals as goal

pub returns-clause-exists : goal.returns-clause-exists
returns-clause-exists c = λ words files nothing. some_unlisted (request_of words) files nothing

pub returns-clause-tree : goal.returns-clause-tree
returns-clause-tree c = λ words files tree paths. some_answer (request_of words) files tree paths

pub returns-clause-one : goal.returns-clause-one
returns-clause-one c = λ words files one other a b. one_answer (request_of words) files one other a b
