use Rattle.vk_words.specs.WordViews.{words_view}
use Rattle.vk_app.specs.Ends.{end_view}
use Rattle.vk_app.specs.Requests.{request_of}
use Rattle.vk_app.proofs.EndLemmas.{runs_as}
use Rattle.vk_app.proofs.runs.run.Goals as goal

pub returns : goal.returns
returns g c = runs_as (request_of (words_view c.args.words.now)) (end_view c.end_of-end.result.end) c.tell-status.result _ _ c.end_of-end.ensures c.tell-status.ensures
