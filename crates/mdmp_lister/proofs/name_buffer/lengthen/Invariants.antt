use Rattle.std.proofs.Common.{◌≡◌, ◌≤◌, ◌-◌, max, vec_capacity, vec_len}
use Rattle.mdmp_lister.proofs.name_buffer.lengthen.Given as goal

-- it grows up to the length that is wanted
abbrev pub invariant-bytes : goal.invariant-bytes
invariant-bytes g l = record {
  longer : vec_len l.initial.buffer ≤ vec_len l.buffer;
  most : vec_len l.buffer ≤ max (vec_len l.initial.buffer) l.len;
  capacity : vec_capacity l.buffer ≡ vec_capacity l.initial.buffer;
}

abbrev pub decreases-bytes : goal.decreases-bytes
decreases-bytes g l = l.len - vec_len l.buffer
