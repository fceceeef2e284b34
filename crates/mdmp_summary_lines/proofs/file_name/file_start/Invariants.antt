use Rattle.std.proofs.Common.{◌≡◌, ◌≤◌, drop}
use Rattle.mdmp_wire.specs.Units.{units_in}
use Rattle.mdmp_summary_lines.specs.FileNames.{behind_last, file_part}
use Rattle.mdmp_summary_lines.proofs.file_name.file_start.Given as goal

-- of the units up to this one, `start` follows the last separator
abbrev pub invariant-loop-index : goal.invariant-loop-index
invariant-loop-index l = record {
  within : l.start ≤ l.index;
  part : behind_last (drop l.start (units_in l.path)) (drop l.index (units_in l.path)) ≡ file_part (units_in l.path);
}
