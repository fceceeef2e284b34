use Rattle.std.proofs.Common.{length, arith}
use Rattle.std.proofs.lemmas.Result.{MatchResult-from_err}
use Rattle.mdmp_lister.specs.Addressing.{cells}
use Rattle.mdmp_print.specs.HexText.{line_text, line_numbers}
use Rattle.mdmp_print.proofs.HexLemmas.{PutsAll-item, PutsAll-items, PutsPrefix-item, IsItem-line, length-cells, length-line_numbers}
use Rattle.mdmp_print.proofs.hex_lines.print_hex_lines.Goals as goal

pub returns-in_err-print_numbered : goal.returns-in_err-print_numbered
returns-in_err-print_numbered g c =
    let cs = cells c.args.bytes.now c.args.known.now in
    MatchResult-from_err _ _ _ c.from_residual.ensures.0 (λ _. rw (length-cells c.args.bytes.now c.args.known.now c.requires.same)
    (PutsPrefix-item (line_text c.args.address cs) _ _ _ _ _ _
    (IsItem-line (length c.args.bytes.now) c.loop-line.line (omega (arith, c.div_ceil-line-end.ensures))) c.loop-line.invariant c.in_err-print_numbered.ensures))

pub loop-line-preserved : goal.loop-line-preserved
loop-line-preserved g c =
    let cs = cells c.args.bytes.now c.args.known.now in
    PutsAll-item (line_text c.args.address cs) _ _ _ _ _ _
    (IsItem-line (length c.args.bytes.now) c.loop-line.line (omega (arith, c.div_ceil-line-end.ensures))) c.loop-line.invariant c.in_ok-print_numbered.ensures

pub returns : goal.returns
returns g c =
    let cs = cells c.args.bytes.now c.args.known.now in
    let count = length c.args.bytes.now in
    rw (length-cells c.args.bytes.now c.args.known.now c.requires.same) (PutsAll-items (line_text c.args.address cs) (line_numbers count) _ _ _
    (omega (arith, length-line_numbers count, c.div_ceil-line-end.ensures)) c.loop-line.invariant)
