use Rattle.std.proofs.Common.{◌≡◌, length, true}
use Rattle.mdmp_names.specs.Table.{are_short, name_among, number_rows}
use Rattle.mdmp_names.proofs.table.name_in.Given as goal

abbrev pub invariant-loop-table : goal.invariant-loop-table
invariant-loop-table l =
    (are_short (number_rows l.table) ≡ true)
    × (name_among (number_rows l.table) l.number ≡ name_among (number_rows l.initial.table) l.number)

abbrev pub decreases-loop-table : goal.decreases-loop-table
decreases-loop-table l = length l.table
