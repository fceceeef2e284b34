use Rattle.std.proofs.Common.{◌*◌, arith}
use Rattle.mdmp_print.proofs.HexLemmas.{line_cells}
use Rattle.mdmp_print.proofs.hex_lines.print_numbered.Goals as goal

pub returns : goal.returns
returns g c =
    rw (line_cells c.args.bytes.now c.args.known.now (16 * c.args.line) c.min-end.result c.requires.same (omega (arith, c.min-end.ensures))) c.print.ensures
