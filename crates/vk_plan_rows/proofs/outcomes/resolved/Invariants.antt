use Rattle.vk_plan_rows.proofs.outcomes.resolved.Given as goal

abbrev pub ghosts-resolved_by : goal.ghosts-resolved_by
ghosts-resolved_by a = record { name = a.blank.name; parts = a.blank.parts }
