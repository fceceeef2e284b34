use Rattle.std.proofs.Common.{◌≡◌, ◌∙◌, ◌*◌, Err, Option, refl, sym, ap, arith}
use Rattle.mdmp_lister.specs.declared.kind.StreamKind.{StreamKind}
use Rattle.mdmp_dump.specs.Shape.{StreamCursor, head_by, row_by, seen_at}
use Rattle.mdmp_dump.specs.ShapeLaws.{last_told}
use Rattle.mdmp_writer.specs.RecordTexts.{bytes_of_rows}
use Rattle.mdmp_writer.specs.Written.{head_by_kind, rows}
use Rattle.mdmp_writer.proofs.Blocks.{begun_seen, known_count}
use Rattle.mdmp_writer.proofs.Causes.{handed, told_ok, uses_passed, uses_none, uses_out, uses_pass, uses_sent, uses_then, uses_within}
use Rattle.mdmp_writer.proofs.Counting.{no_rows, ok_is, ok_then}
use Rattle.mdmp_writer.proofs.Sending.{writes_then}
use Rattle.mdmp_writer.proofs.body_out.write_body.Goals as goal

pub returns-clause-writes : goal.returns-clause-writes
returns-clause-writes g c x known =
    let begins = rw (told_ok c.rewind.result tt c.in_ok-map_err.ensures.cases) at c.rewind.ensures.begins in
    let s = g.V.DumpView.shape c.args.view.now in
    let k = c.args.stream in
    let xs = (seen_at x k).records in
    writes_then c.write_record_texts.result _ _ _ (head_by_kind c.args.kind c.args.count c.args.place.far) (rows c.args.place.at xs) c.in_ok-write_head.ensures.writes
    (c.write_record_texts.ensures.writes xs (ap (λ (u : StreamCursor). u.seen) begins ∙ begun_seen s x k known)
    (sym (known_count s x k c.args.count (g.met.V.DumpView.sound c.args.view.now x known) c.requires.count)))

pub returns-clause-some : goal.returns-clause-some
returns-clause-some g c t is of =
    let kind = c.args.kind in
    let begun = rw (told_ok c.rewind.result tt c.in_ok-map_err.ensures.cases) at c.rewind.ensures.begins in
    let rows : bytes_of_rows (g.V.DumpView.cursor c.rewind.new.self).kind (g.V.DumpView.cursor c.rewind.new.self).records ≡ c.args.count * row_by kind =
    rw (begun, is, sym c.requires.count) (ap (λ (o : Option StreamKind). c.args.count * row_by o) (sym of)) in
    ok_then c.write_record_texts.result _ _ _ (head_by kind) (c.args.count * row_by kind) _ refl c.in_ok-write_head.ensures.some
    (ok_is c.write_record_texts.result _ _ _ _ rows c.write_record_texts.ensures.some)

pub write_record_texts-requires-clause-stray : goal.write_record_texts-requires-clause-stray
write_record_texts-requires-clause-stray g c none = no_rows _ _ none

pub returns-clause-uses : goal.returns-clause-uses
returns-clause-uses g c =
    uses_then
    (uses_sent (uses_pass _ uses_none c.rewind.ensures.shape c.rewind.ensures.passed c.rewind.ensures.asked) c.in_ok-write_head.ensures.cause)
    c.write_record_texts.ensures.uses (omega arith) (omega arith)

pub returns-in_err-write_head-clause-uses : goal.returns-in_err-write_head-clause-uses
returns-in_err-write_head-clause-uses g c =
    rw (handed c.from_residual-in_err-write_head.result _ c.from_residual-in_err-write_head.ensures.1) (uses_within
    (uses_out (uses_pass _ uses_none c.rewind.ensures.shape c.rewind.ensures.passed c.rewind.ensures.asked) c.in_err-write_head.ensures.cause) (omega arith) (omega arith))

pub returns-in_err-map_err-clause-uses : goal.returns-in_err-map_err-clause-uses
returns-in_err-map_err-clause-uses g c =
    let of = c.rewind.ensures in
    rw (handed c.from_residual.result _ c.from_residual.ensures.1)
    (uses_passed c.rewind.result (Err c.in_err-map_err.field-0.0) c.in_err-map_err.ensures.cases uses_none of.shape of.reliable of.passed (omega (arith, of.asked)) (last_told _ _ c.rewind.result of.told))

pub returns-clause-moves : goal.returns-clause-moves
returns-clause-moves g c = g.met.V.DumpView.follows _ _ _ c.rewind.ensures.moves c.write_record_texts.ensures.moves
