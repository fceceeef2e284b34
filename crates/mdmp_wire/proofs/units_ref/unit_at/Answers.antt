use Rattle.std.proofs.Common.{◌≡◌, ◌<◌, ◌+◌, ◌*◌, length, ◌/◌, sym, ◌∙◌, arith}
use Rattle.mdmp_wire.specs.NumberLaws.{length-numbers_at, slice_index-numbers_at}
use Rattle.mdmp_wire.proofs.units_ref.unit_at.Goals as goal

pub overflow_mul-index : goal.overflow_mul-index
overflow_mul-index c =
    let b = c.args.bytes.now in
    omega (arith, c.requires, length-numbers_at b 0 2 (length b / 2))

pub get_at-requires : goal.get_at-requires
get_at-requires c =
    let b = c.args.bytes.now in
    omega (arith, c.requires, length-numbers_at b 0 2 (length b / 2))

pub returns : goal.returns
returns c =
    let b = c.args.bytes.now in
    let lt : c.args.index < length b / 2 = omega (arith, c.requires, length-numbers_at b 0 2 (length b / 2)) in
    let place : 0 + 2 * c.args.index ≡ 2 * c.args.index = omega arith in
    c.get_at.ensures ∙ sym (rw place at (slice_index-numbers_at b 0 2 (length b / 2) c.args.index lt))
