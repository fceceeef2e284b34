use Rattle.mdmp_base_tests.proofs.map.table.found.Given as goal

-- nothing reads the count
abbrev pub ghosts-find_under : goal.ghosts-find_under
ghosts-find_under g a = record { name = a.blank.name; parts = a.blank.parts }
