use Rattle.std.proofs.Common.{◌≡◌, ◌+◌, ◌-◌, ◌∙◌, length, length-drop, min, take, drop, ap, arith}
use Rattle.mdmp_wire.proofs.EscapeLemmas.{same_taken}
use Rattle.mdmp_wire.specs.Escape.{escaped}
use Rattle.mdmp_wire.specs.Units.{units_of}
use Rattle.mdmp_wire.proofs.escape.put_chunk.Goals as goal

pub returns : goal.returns
returns g c =
    let units = units_of c.args.units.bytes.now in
    let rest = drop c.args.start units in
    let count : c.args.start + c.min.result - c.args.start ≡ min (length rest) 64 = omega (arith, c.min.ensures, c.len.ensures, length-drop c.args.start units) in
    let text : take c.escape_at-len.result c.escape_at-len.new.text ≡ escaped (take 64 rest) =
    c.escape_at-len.ensures.text ∙ ap escaped (same_taken 64 _ rest count) in
    rw text at c.write_all.ensures.puts
