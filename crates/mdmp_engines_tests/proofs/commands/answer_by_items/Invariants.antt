use Rattle.std.proofs.Common.{◌≡◌, None}
use Rattle.mdmp_engines_tests.proofs.commands.answer_by_items.Given as goal

-- neither the end nor a fault was answered
abbrev pub invariant-loop-pdb : goal.invariant-loop-pdb
invariant-loop-pdb g l = record { going : l.lister.stop ≡ None }

abbrev pub decreases-loop-pdb : goal.decreases-loop-pdb
decreases-loop-pdb g l = l.lister.work
