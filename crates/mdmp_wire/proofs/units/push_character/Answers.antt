use Rattle.std.proofs.Common.{◌<◌, arith}
use Rattle.std.specs.Char.Escape.{encode_utf16}
use Rattle.mdmp_wire.specs.Number.{le}
use Rattle.mdmp_wire.specs.UnitsLaws.{units_of-append}
use Rattle.mdmp_wire.proofs.Utf16.{encode_utf16-fits}
use Rattle.mdmp_wire.proofs.units.push_character.Goals as goal

pub returns-clause-units : goal.returns-clause-units
unfolding le
returns-clause-units g c =
    let top : c.args.character < 0x110000 = omega arith in
    rw (c.in_ok-extend_from_slice.ensures.items, c.write_u16_into.ensures, c.encode_utf16-units.ensures.value)
    (units_of-append c.args.bytes.now.items (encode_utf16 c.args.character) c.requires (encode_utf16-fits c.args.character top))
