use Rattle.mdmp_map.proofs.finding.place_of.Given as goal

-- nothing reads the count
abbrev pub ghosts-scan_under : goal.ghosts-scan_under
ghosts-scan_under a = record { name = a.blank.name; parts = a.blank.parts }
