use Rattle.vk_words.specs.WordViews.{words_view}
use Rattle.vk_app.specs.Ends.{end_view}
use Rattle.vk_app.specs.Requests.{request_of}
use Rattle.vk_app.proofs.AllowedLemmas.{allowed}
use Rattle.vk_app.proofs.EndLemmas.{ends_of_words, ends_asked}
use Rattle.vk_app.proofs.runs.end_of.Goals as goal

pub returns-in-Ok : goal.returns-in-Ok
returns-in-Ok g c = ends_asked (request_of (words_view c.args.words.now)) c.in-Ok.task _ _ _ (rw c.in-Ok.is at c.read_request.ensures) c.done-ended.ensures

pub returns-in-Err : goal.returns-in-Err
returns-in-Err g c = ends_of_words (request_of (words_view c.args.words.now)) c.in-Err.unread (end_view c.end_of_words.result) _ (rw c.in-Err.is at c.read_request.ensures) c.end_of_words.ensures

pub done-ended-requires : goal.done-ended-requires
done-ended-requires g c = allowed (words_view c.args.words.now) c.in-Ok.task (rw c.in-Ok.is at c.read_request.ensures)
