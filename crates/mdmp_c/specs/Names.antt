-- A name as text.
use Rattle.std.specs.Prelude.{◌≡◌, ℕ, List, [], None, Result, Ok, Err}
use Rattle.mdmp_wire.specs.Units.{units_in, utf8_of}
use Rattle.mdmp_lister.specs.declared.fault.Fault.{Fault}
use Rattle.mdmp_lister.specs.declared.name.Name.{Name}
use Rattle.mdmp_lister.specs.declared.name.Name.TheVariants as names
use Rattle.mdmp_lister.specs.Format.Name.{name_at}
use Rattle.mdmp_c.specs.declared.fault.PlainFault.{PlainFault}
use Rattle.mdmp_c.specs.Fault.{plain_list_fault, no_fault, of_kind}

-- a name of more bytes than the limit is told by their number
abbrev pub long_fault : ℕ → PlainFault
long_fault length = record (of_kind 33) { size = length }

-- the fault of a name, of no entry
abbrev pub name_fault : Fault → PlainFault
name_fault f = plain_list_fault (record { entry = 0; index = None; kind = f.kind; offset = f.offset; size = f.size })

-- what is told of a name, and its text
abbrev pub name_fault_told : Result Name Fault → PlainFault
name_fault_told (Ok names.None) = no_fault
name_fault_told (Ok (names.Units u)) = no_fault
name_fault_told (Ok (names.Long length)) = long_fault length
name_fault_told (Err f) = name_fault f

abbrev pub name_in_utf8 : Result Name Fault → List ℕ
name_in_utf8 (Ok names.None) = []
name_in_utf8 (Ok (names.Units u)) = utf8_of (units_in u)
name_in_utf8 (Ok (names.Long length)) = []
name_in_utf8 (Err f) = []

-- the name at an RVA of F
pub record IsToldName (F : List ℕ) (rva limit : ℕ) (told : PlainFault) (text : List ℕ) : Type 0 where
  pub told_is : told ≡ name_fault_told (name_at F rva limit)
  pub text_is : text ≡ name_in_utf8 (name_at F rva limit)
