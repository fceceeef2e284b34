use Rattle.mdmp_lister.proofs.lister.Lister.read_address.Given as goal

-- nothing reads the count
abbrev pub ghosts-read_address_under : goal.ghosts-read_address_under
ghosts-read_address_under g a = record { name = a.blank.name; parts = a.blank.parts }
