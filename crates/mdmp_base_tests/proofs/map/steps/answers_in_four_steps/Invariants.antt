use Rattle.mdmp_base_tests.proofs.map.steps.answers_in_four_steps.Given as goal

-- nothing reads the count
abbrev pub ghosts-answers_under : goal.ghosts-answers_under
ghosts-answers_under g a = record { name = a.blank.name; parts = a.blank.parts }
