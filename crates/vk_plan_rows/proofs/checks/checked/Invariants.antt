use Rattle.vk_plan_rows.proofs.checks.checked.Given as goal

abbrev pub ghosts-checked_by : goal.ghosts-checked_by
ghosts-checked_by a = record { name = a.blank.name; parts = a.blank.parts }
