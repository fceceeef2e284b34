use Rattle.std.proofs.Common.{◌≡◌, ◌∙◌, ◌++◌, refl}
use Rattle.mdmp_wire.specs.AnyRecord.{any_bytes, any_size}
use Rattle.mdmp_wire.specs.declared.any_record.AnyRecord.{AnyRecord}
use Rattle.mdmp_wire.specs.declared.any_record.AnyRecord.TheVariants as any
use Rattle.mdmp_dump.specs.Shape.{row_of, type_told}
use Rattle.mdmp_writer.proofs.Counting.{some_of}
use Rattle.mdmp_writer.proofs.Sending.{holding, puts_held}
use Rattle.mdmp_writer.proofs.record_bytes.write_any.Goals as goal

row_size : (w : AnyRecord) → any_size w ≡ row_of (type_told w)
row_size (any.Thread fields) = refl
row_size _ = refl

pub returns-then-hold_record-clause-some : goal.returns-then-hold_record-clause-some
returns-then-hold_record-clause-some g c =
    let holds = c.hold_record.ensures in
    let taken = (g.O.Out.state c.args.out.now).taken in
    let held = c.args.gather.now in
    let bytes = any_bytes c.args.row.now in
    rw (holds.held c.if-hold_record.true)
    (some_of (holding taken held) (holding taken (held ++ bytes)) bytes (row_of (type_told c.args.row.now)) (puts_held taken held bytes) (holds.size c.if-hold_record.true ∙ row_size c.args.row.now))
