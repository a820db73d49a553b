use Rattle.vk_plan_rows.proofs.closings.closed.Given as goal

abbrev pub ghosts-closed_by : goal.ghosts-closed_by
ghosts-closed_by a = record { name = a.blank.name; parts = a.blank.parts }
