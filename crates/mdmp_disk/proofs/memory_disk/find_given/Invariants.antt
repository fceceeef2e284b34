use Rattle.std.proofs.Common.{◌≡◌, drop}
use Rattle.mdmp_disk.specs.Memory.{given_at}
use Rattle.mdmp_disk.proofs.memory_disk.find_given.Given as goal

abbrev pub invariant-loop-file : goal.invariant-loop-file
invariant-loop-file l = given_at (drop l.file-index l.fn.files) l.fn.name ≡ given_at l.fn.files l.fn.name
