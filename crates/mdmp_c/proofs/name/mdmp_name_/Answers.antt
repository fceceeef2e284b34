use Rattle.std.proofs.Common.{◌≡◌, ◌∙◌, [], refl}
use Rattle.std.specs.Prelude.{Ok, Err}
use Rattle.mdmp_wire.specs.Units.{units_over}
use Rattle.mdmp_lister.specs.declared.name.Name.TheVariants as names
use Rattle.mdmp_lister.specs.Format.Name.{name_at}
use Rattle.mdmp_c.proofs.Named.{Ends-name}
use Rattle.mdmp_c.proofs.name.mdmp_name_.Goals as goal

pub returns-in-Ok-None : goal.returns-in-Ok-None
returns-in-Ok-None c =
    let read : Ok names.None ≡ name_at c.args.file.now c.args.rva c.args.limit = rw c.in-Ok-None.field-0-is at c.in-Ok-None.ensures in
    Ends-name c.args.file.now c.args.rva c.args.limit (Ok names.None) _ _ [] _ _ _ _ _ read refl refl refl c.give.ensures

pub returns-in-Ok : goal.returns-in-Ok
returns-in-Ok c =
    let units = units_over c.in-Ok-Units.units.bytes.now in
    let read : Ok (names.Units units) ≡ name_at c.args.file.now c.args.rva c.args.limit = rw c.in-Ok-Units.field-0-is at c.in-Ok-Units.ensures in
    Ends-name c.args.file.now c.args.rva c.args.limit (Ok (names.Units units)) _ _ _ _ _ _ _ _ read refl refl (c.as_bytes.ensures.value ∙ c.in-Ok.ensures) c.give-in-Ok.ensures

pub returns-in-Ok-Long : goal.returns-in-Ok-Long
returns-in-Ok-Long c =
    let read : Ok (names.Long c.in-Ok-Long.length) ≡ name_at c.args.file.now c.args.rva c.args.limit = rw c.in-Ok-Long.field-0-is at c.in-Ok-Long.ensures in
    Ends-name c.args.file.now c.args.rva c.args.limit (Ok (names.Long c.in-Ok-Long.length)) _ _ [] _ _ _ _ _ read refl c.long_fault.ensures refl c.give-in-Ok-Long.ensures

pub returns-in-Err : goal.returns-in-Err
returns-in-Err c =
    Ends-name c.args.file.now c.args.rva c.args.limit (Err c.in-Err.found) _ _ [] _ _ _ _ _ c.in-Err.ensures refl c.name_fault.ensures refl c.give-in-Err.ensures
