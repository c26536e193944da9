use Rattle.buffer_plan.proofs.nets.net_plan.Given as goal

abbrev pub ghosts-plan_counted : goal.ghosts-plan_counted
ghosts-plan_counted g a = record { name = a.blank.name; parts = a.blank.parts }
