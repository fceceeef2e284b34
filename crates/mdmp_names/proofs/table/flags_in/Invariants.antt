use Rattle.std.proofs.Common.{◌≡◌, length, true}
use Rattle.mdmp_names.specs.Table.{are_short_flags, flag_rows, flags_among}
use Rattle.mdmp_names.proofs.table.flags_in.Given as goal

abbrev pub invariant-loop-table : goal.invariant-loop-table
invariant-loop-table l =
    (are_short_flags (flag_rows l.table) ≡ true)
    × (flags_among (flag_rows l.table) l.code l.flags ≡ flags_among (flag_rows l.initial.table) l.code l.flags)

abbrev pub decreases-loop-table : goal.decreases-loop-table
decreases-loop-table l = length l.table
