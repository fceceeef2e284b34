use Rattle.std.proofs.Common.{◌≡◌, ◌≤◌, ◌+◌, ◌-◌, ◌*◌, map}
use Rattle.std.specs.List.{range_with_len}
use Rattle.mdmp_wire.specs.Entry.{entry_at}
use Rattle.mdmp_c.specs.Directory.{stream_row}
use Rattle.mdmp_c.specs.Giving.{put_front}
use Rattle.mdmp_c.proofs.header_rows.fill_streams.Given as goal

-- the first entries stand in the array
abbrev pub invariant-loop-number : goal.invariant-loop-number
invariant-loop-number l = record {
  within : l.number ≤ l.count;
  rows : l.out ≡ put_front (map (λ e. stream_row e (entry_at l.file (l.at + 12 * e))) (range_with_len 0 l.number)) l.initial.out;
}

abbrev pub decreases-loop-number : goal.decreases-loop-number
decreases-loop-number l = l.count - l.number
