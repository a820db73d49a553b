use Rattle.vk_app.proofs.tasks.resolved_on.Given as goal

abbrev pub ghosts-resolved_by : goal.ghosts-resolved_by
ghosts-resolved_by g a = record { name = a.blank.name; parts = a.blank.parts }
