-- What a module tells of its symbol file, as a plain structure.
use Rattle.std.specs.Prelude.{◌≡◌, ◌≤◌, ◌<◌, ◌+◌, ◌%◌, ◌^◌, ℕ, List, length, min, replicate, if◌then◌else◌}
use Rattle.mdmp_source.specs.declared.location.Location.{Location}
use Rattle.mdmp_wire.specs.CodeView.{CodeViewValue, Rsds, Other, Short, codeview_of}
use Rattle.mdmp_c.specs.declared.fault.PlainFault.{PlainFault}
use Rattle.mdmp_c.specs.declared.parts.PartPlace.{PartPlace}
use Rattle.mdmp_c.specs.declared.symbols.Symbols.{Symbols}
use Rattle.mdmp_c.specs.Fault.{no_fault, of_kind, status_of}
use Rattle.mdmp_c.specs.Giving.{bad_limits}

-- some bytes stand there, inside F
abbrev pub IsPlaceInside : List ℕ → PartPlace → Type 0
IsPlaceInside F place = (0 < place.size) × (place.rva + place.size ≤ length F)

abbrev pub no_symbols : Symbols
no_symbols = record {
  name_offset = 0;
  kind = 0;
  age = 0;
  name_size = 0;
  name_ended = 0;
  guid = replicate 16 0;
  signature = replicate 4 0;
  reserved = replicate 3 0;
}

-- what a record at a place tells: the name of a symbol file stands behind its first 24 bytes
abbrev pub symbols_row : PartPlace → CodeViewValue → Symbols
symbols_row place (Rsds guid age name ended) = record no_symbols {
  age = age;
  guid = guid;
  name_offset = place.rva + min place.size 24;
  name_size = length name % 2 ^ 32;
  name_ended = if ended then 1 else 0;
}
symbols_row place (Other signature size) = record no_symbols { kind = 1; signature = signature }
symbols_row place (Short size) = record no_symbols { kind = 2 }

abbrev pub place_location : PartPlace → Location
place_location place = record { size = place.size; rva = place.rva }

-- the record at a place was told, of whose name at most limit bytes are read
pub record GivesSymbols (F : List ℕ) (limit : ℕ) (place : PartPlace) (status : ℕ) (fault : PlainFault) (after : Symbols) : Type 0 where
  pub status_is : status ≡ 0
  pub fault_is : fault ≡ no_fault
  pub out : after ≡ symbols_row place (codeview_of F (place_location place) limit)

-- no bytes stand at a place, or not inside the file
pub record RefusesPlace (place : PartPlace) (status : ℕ) (fault : PlainFault) (after : Symbols) : Type 0 where
  pub status_is : status ≡ 1
  pub fault_is : fault ≡ record (of_kind 32) { offset = place.rva; size = place.size; part = 3 }
  pub out : after ≡ no_symbols

-- the limits are not good
pub record RefusesLimits (status : ℕ) (fault : PlainFault) (after : Symbols) : Type 0 where
  pub status_is : status ≡ status_of bad_limits
  pub fault_is : fault ≡ bad_limits
  pub out : after ≡ no_symbols
