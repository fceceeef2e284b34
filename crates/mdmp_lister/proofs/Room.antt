-- Room for the records of a stream.
use Rattle.std.proofs.Common.{◌≤◌, ◌<◌, ◌+◌, ◌*◌, inl, inr, ℕ, suc, arith, mul-suc, mul_comm}
use Rattle.std.proofs.Math.Nat.{mul-le-mul_left}
use Rattle.mdmp_lister.specs.declared.kind.StreamKind.{StreamKind}
use Rattle.mdmp_lister.specs.declared.shape.Shape.{Shape}
use Rattle.mdmp_source.specs.Range.{IsInside}
use Rattle.mdmp_lister.specs.Format.Shape.{FitsIn}
use Rattle.mdmp_lister.specs.Format.Kind.{record_size}
use Rattle.mdmp_lister.specs.Format.KindLaws.{least_record}

-- record k of n, each of r bytes and s bytes apart, ends where they all do at the latest
record_room : (k n s r : ℕ) → k < n → r ≤ s → k * s + r ≤ n * s
record_room k n s r lt le =
    let more : suc k ≤ n = omega (arith, lt) in
    omega (arith, mul-le-mul_left s more, mul-suc s k, mul_comm s k, mul_comm s n, le)

module _ (at size : ℕ) (kind : StreamKind) (shape : Shape) (k : ℕ) (fits : FitsIn size kind shape) (lt : k < shape.count) where
  -- record k of a stream ends in it
  pub record-within : at + shape.first + k * shape.stride + record_size kind ≤ at + size
  record-within =
      let wide : record_size kind ≤ shape.stride = fits.stride (omega (arith, lt)) in
      omega (arith, fits.records, record_room k shape.count shape.stride (record_size kind) lt wide)

  -- which has bytes then, and so all of them lie inside a file of z bytes
  pub stream-whole : (z : ℕ) → IsInside at size z → at + size ≤ z
  stream-whole z (inl none) = absurd (omega (arith, none, record-within, least_record kind))
  stream-whole z (inr whole) = whole
