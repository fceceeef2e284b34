use Rattle.mdmp_lister_tests.proofs.addresses.read_counted.Given as goal

-- nothing reads the count
abbrev pub ghosts-read_under : goal.ghosts-read_under
ghosts-read_under g a = record { name = a.blank.name; parts = a.blank.parts }
