use Rattle.std.proofs.Common.{◌≡◌, ◌≤◌, ◌-◌, ℕ, max, take, vec_len, vec_capacity}
use Rattle.mdmp_source.proofs.window.lengthen.Given as goal

abbrev pub invariant-loop-buffer : goal.invariant-loop-buffer
invariant-loop-buffer g l =
    ((n : ℕ) → n ≤ vec_len l.fn.buffer → take n l.buffer.items ≡ take n l.fn.buffer.items)
    × (vec_len l.fn.buffer ≤ vec_len l.buffer)
    × (vec_len l.buffer ≤ max (vec_len l.fn.buffer) l.len)
    × (vec_capacity l.buffer ≡ vec_capacity l.fn.buffer)

abbrev pub decreases-loop-buffer : goal.decreases-loop-buffer
decreases-loop-buffer g l = l.len - vec_len l.buffer
