use Rattle.std.proofs.Common.{◌≡◌, ◌<◌, ◌∙◌, arith, length, false, sym}
use Rattle.mdmp_index.specs.Slots.{covers, index_slot}
use Rattle.mdmp_index.proofs.Found.{in_none}
use Rattle.mdmp_index.proofs.search.slot_at.Goals as goal
use Rattle.mdmp_index.proofs.search.slot_at.Goals.{else-number-slots-via-then-number-slots+else-holds, else-number-slots-via-else-number-slots}

pub returns-else-number-slots-clause-index : goal.returns-else-number-slots-clause-index
returns-else-number-slots-clause-index c =
    let not : c.first_past-number.result < length c.args.slots.now → covers c.args.address (index_slot c.args.slots.now c.first_past-number.result) ≡ false =
    elim c.else-number-slots.branch [
      | else-number-slots-via-then-number-slots+else-holds w ↦ λ lt. sym w.holds.ensures ∙ w.if-holds.false
      | else-number-slots-via-else-number-slots w ↦ λ lt. absurd (omega (arith, lt, w.if-number-slots.false))
    ] in
    λ ranges is.
    is.none c.args.address c.ranges.address.fits
    (in_none c.args.slots.now c.args.address c.first_past-number.result is.apart (c.first_past-number.ensures.behind is.apart) c.first_past-number.ensures.past not)
