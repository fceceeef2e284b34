use Rattle.mdmp_map.proofs.map.AddressMap.look_up.Given as goal

-- nothing reads the count
abbrev pub ghosts-look_up_under : goal.ghosts-look_up_under
ghosts-look_up_under g a = record { name = a.blank.name; parts = a.blank.parts }
