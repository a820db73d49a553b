use Rattle.vk_plan_rows.proofs.checks.certified.Given as goal

abbrev pub ghosts-certified_by : goal.ghosts-certified_by
ghosts-certified_by a = record { name = a.blank.name; parts = a.blank.parts }
