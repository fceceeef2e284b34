use Rattle.mdmp_dump.proofs.Founding.{long_told, none_told, units_told}
use Rattle.mdmp_dump.proofs.Limits.{name_low}
use Rattle.mdmp_dump.proofs.found_record.name_part.Goals as goal

pub returns-in-None-clause-finds : goal.returns-in-None-clause-finds
returns-in-None-clause-finds c = λ file told few named is. none_told file c.args.rva c.args.limit c.args.entry c.args.index told (rw c.in-None.is at named) is

pub returns-in-Units-clause-finds : goal.returns-in-Units-clause-finds
returns-in-Units-clause-finds c = λ file told few named is.
    units_told file c.args.rva c.args.limit c.args.entry c.args.index c.in-Units.length (name_low file c.args.rva 0 told few is) told (rw c.in-Units.is at named) is c.counted_name.result c.counted_name.ensures

pub returns-in-Long-clause-finds : goal.returns-in-Long-clause-finds
returns-in-Long-clause-finds c = λ file told few named is.
    long_told file c.args.rva c.args.limit c.args.entry c.args.index c.in-Long.length (name_low file c.args.rva 0 told few is) told (rw c.in-Long.is at named) is c.counted_name-in-Long.result c.counted_name-in-Long.ensures
