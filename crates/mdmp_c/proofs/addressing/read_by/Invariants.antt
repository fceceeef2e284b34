use Rattle.std.proofs.Common.{◌≤◌, ◌-◌, Some, length, take}
use Rattle.mdmp_lister.specs.Addressing.{ReadsCells}
use Rattle.mdmp_c.specs.Memory.{kept_ranges}
use Rattle.mdmp_c.proofs.addressing.read_by.Given as goal

-- the first cells were read
abbrev pub invariant-loop-done : goal.invariant-loop-done
invariant-loop-done l = record {
  within : l.done ≤ length l.initial.out;
  read : ReadsCells (Some l.file) (kept_ranges (length l.file) l.rows) l.address (take l.done l.out) (take l.done l.known);
}

abbrev pub decreases-loop-done : goal.decreases-loop-done
decreases-loop-done l = length l.out - l.done
