use Rattle.std.proofs.Common.{◌+◌, arith, drop, length, length-drop}
use Rattle.mdmp_wire.specs.Units.{units_in}
use Rattle.mdmp_print.proofs.Unitwise.{text-end}
use Rattle.mdmp_summary_lines.proofs.json_text.QuotedFromParts.places.Goals as goal

pub returns-clause-end : goal.returns-clause-end
returns-clause-end c =
    let t = c.args.self.now in
    let units = units_in t.units in
    text-end units (t.start + length (drop t.start units)) (omega (arith, length-drop t.start units))
