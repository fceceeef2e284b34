use Rattle.std.proofs.Common.{◌≡◌, ◌+◌, ◌-◌, ◌<◌, ◌^◌, suc, drop, length}
use Rattle.std.specs.Fmt.{digits, digits_onto}
use Rattle.mdmp_print.proofs.hex.short_hex_at.Given as goal

-- the digits behind the first place are written, and what is left has room before them
abbrev pub invariant-loop-left : goal.invariant-loop-left
invariant-loop-left g l = record {
  long : length l.places ≡ g.row.N;
  inside : l.first < g.row.N;
  room : l.left < 16 ^ (l.first + 1);
  written : digits_onto (l.first + suc (64 - g.row.N)) 16 l.fn.upper l.left (drop (l.first + 1) l.places) ≡ digits 16 l.fn.upper l.number;
}

abbrev pub decreases-loop-left : goal.decreases-loop-left
decreases-loop-left g l = l.left
