use Rattle.std.proofs.Common.{[], ◌∷◌, arith, length-set}
use Rattle.std.proofs.lemmas.List.{take_more_set}
use Rattle.mdmp_wire.specs.Units.{units_in}
use Rattle.mdmp_print.proofs.PlainUnits.{plain_next}
use Rattle.mdmp_print.proofs.json_units.write_character.Goals as goal

pub returns-then-is_plain-clause-put : goal.returns-then-is_plain-clause-put
returns-then-is_plain-clause-put c =
    let u = c.get-unit.result in
    record {
      part = u ∷ [];
      whole = plain_next (units_in c.args.units.now) c.args.place u c.requires.place c.get-unit.ensures (c.is_plain.ensures c.if-is_plain.true);
      put = record {
        text = take_more_set c.args.buffer.now c.args.len u (omega arith);
        within = omega arith;
        same = length-set c.args.buffer.now c.args.len u;
      };
    }
