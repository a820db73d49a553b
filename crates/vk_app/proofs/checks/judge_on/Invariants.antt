use Rattle.vk_app.proofs.checks.judge_on.Given as goal

abbrev pub ghosts-judged_by : goal.ghosts-judged_by
ghosts-judged_by g a = record { name = a.blank.name; parts = a.blank.parts }
