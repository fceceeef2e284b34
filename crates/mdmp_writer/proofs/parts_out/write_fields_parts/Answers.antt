use Rattle.std.proofs.Common.{◌≡◌, ◌∙◌, ◌+◌, ◌++◌, List, ℕ, ap, arith, get_or}
use Rattle.mdmp_wire.specs.declared.slot.Slot.{Slot}
use Rattle.mdmp_wire.specs.declared.slot.Slot.TheVariants.{Empty}
use Rattle.mdmp_dump.specs.declared.view.Fields.{Fields}
use Rattle.mdmp_dump.specs.Placed.{fields_room, size_at, size_in, slot_room}
use Rattle.mdmp_dump.specs.Shape.{StreamCursor}
use Rattle.mdmp_writer.specs.Gather.{gathered}
use Rattle.mdmp_writer.proofs.Padded.{fields_text, text_at}
use Rattle.mdmp_writer.proofs.Sending.{cut_before, cut_behind, cut_same, puts_puts, writes_same, writes_then}
use Rattle.mdmp_writer.proofs.Counting.{ok_then, some_then}
use Rattle.mdmp_writer.proofs.Causes.{handed, uses_then, uses_within}
use Rattle.mdmp_writer.proofs.parts_out.write_fields_parts.Goals as goal

pub returns-in_err-write_slot-clause-writes : goal.returns-in_err-write_slot-clause-writes
returns-in_err-write_slot-clause-writes g c x known sized same =
    let f = c.args.fields.now in
    let size = λ (k : ℕ). sized k ∙ ap (λ (h : Fields). size_in (size_at h k)) same in
    let texts = text_at c.slots.result x f in
    rw (handed c.from_residual.result _ c.from_residual.ensures.1) (cut_same _ _ _ _ (fields_text c.slots.result x f c.slots.ensures same)
    (cut_before _ _ (texts 0 ++ texts 1) (texts 2) (cut_before _ _ (texts 0) (texts 1) (c.in_err-write_slot.ensures.writes x.parts known (size 0)))))

pub returns-in_err-write_slot-2-clause-writes : goal.returns-in_err-write_slot-2-clause-writes
returns-in_err-write_slot-2-clause-writes g c x known sized same =
    let f = c.args.fields.now in
    let size = λ (k : ℕ). sized k ∙ ap (λ (h : Fields). size_in (size_at h k)) same in
    let texts = text_at c.slots.result x f in
    rw (handed c.from_residual-in_err-write_slot-2.result _ c.from_residual-in_err-write_slot-2.ensures.1) (cut_same _ _ _ _ (fields_text c.slots.result x f c.slots.ensures same)
    (cut_before _ _ (texts 0 ++ texts 1) (texts 2)
    (cut_behind _ _ _ (texts 0) (texts 1) (c.in_ok-write_slot.ensures.writes x.parts known (size 0)) (c.in_err-write_slot-2.ensures.writes x.parts (ap (λ (k : StreamCursor). k.parts) c.in_ok-write_slot.ensures.cursor ∙ known) (size 1)))))

pub returns-clause-writes : goal.returns-clause-writes
returns-clause-writes g c x known sized same =
    let f = c.args.fields.now in
    let state = g.O.Out.state in
    let size = λ (k : ℕ). sized k ∙ ap (λ (h : Fields). size_in (size_at h k)) same in
    let texts = text_at c.slots.result x f in
    let second = ap (λ (k : StreamCursor). k.parts) c.in_ok-write_slot.ensures.cursor ∙ known in
    writes_same c.write_slot-3.result (gathered (state c.args.out.now) c.args.gather.now) (gathered (state c.write_slot-3.new.out) c.write_slot-3.new.gather) _ _
    (fields_text c.slots.result x f c.slots.ensures same)
    (writes_then c.write_slot-3.result _ _ _ (texts 0 ++ texts 1) (texts 2)
    (puts_puts _ _ _ (texts 0) (texts 1) (c.in_ok-write_slot.ensures.writes x.parts known (size 0)) (c.in_ok-write_slot-2.ensures.writes x.parts second (size 1)))
    (c.write_slot-3.ensures.writes x.parts (ap (λ (k : StreamCursor). k.parts) c.in_ok-write_slot-2.ensures.cursor ∙ second) (size 2)))

pub returns-clause-some : goal.returns-clause-some
returns-clause-some g c =
    let f = c.args.fields.now in
    let room = λ (l : List Slot) (k : ℕ). slot_room (get_or l k Empty) (size_at f k) in
    let r = room c.slots.result in
    let all : r 0 + r 1 + r 2 ≡ fields_room f = ap (λ (l : List Slot). room l 0 + room l 1 + room l 2) c.slots.ensures in
    ok_then c.write_slot-3.result _ _ _ (r 0 + r 1) (r 2) (fields_room f) (omega (arith, all)) (some_then _ _ _ (r 0) (r 1) c.in_ok-write_slot.ensures.some c.in_ok-write_slot-2.ensures.some) c.write_slot-3.ensures.some

pub returns-clause-uses : goal.returns-clause-uses
returns-clause-uses g c =
    let n = λ (k : ℕ). size_in (size_at c.args.fields.now k) in
    uses_then (uses_then {passes = 0} {asks = n 0 + n 1} c.in_ok-write_slot.ensures.uses c.in_ok-write_slot-2.ensures.uses (omega arith) (omega arith)) c.write_slot-3.ensures.uses (omega arith) (omega arith)

pub returns-in_err-write_slot-2-clause-uses : goal.returns-in_err-write_slot-2-clause-uses
returns-in_err-write_slot-2-clause-uses g c =
    rw (handed c.from_residual-in_err-write_slot-2.result _ c.from_residual-in_err-write_slot-2.ensures.1) (uses_then c.in_ok-write_slot.ensures.uses c.in_err-write_slot-2.ensures.uses (omega arith) (omega arith))

pub returns-in_err-write_slot-clause-uses : goal.returns-in_err-write_slot-clause-uses
returns-in_err-write_slot-clause-uses g c = rw (handed c.from_residual.result _ c.from_residual.ensures.1) (uses_within c.in_err-write_slot.ensures.uses (omega arith) (omega arith))

pub returns-clause-moves : goal.returns-clause-moves
returns-clause-moves g c = g.met.V.DumpView.follows _ _ _ (g.met.V.DumpView.follows _ _ _ c.in_ok-write_slot.ensures.moves c.in_ok-write_slot-2.ensures.moves) c.write_slot-3.ensures.moves

pub returns-in_err-write_slot-2-clause-moves : goal.returns-in_err-write_slot-2-clause-moves
returns-in_err-write_slot-2-clause-moves g c = g.met.V.DumpView.follows _ _ _ c.in_ok-write_slot.ensures.moves c.in_err-write_slot-2.ensures.moves
