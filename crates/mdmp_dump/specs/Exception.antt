-- The exception of a dump: MINIDUMP_EXCEPTION_STREAM, with the MINIDUMP_EXCEPTION inside it.
-- Made by bindings/generate from bindings/kinds.toml.
use Rattle.std.specs.Prelude.{◌≡◌, ℕ, List, ◌<◌, ◌^◌, [], ◌∷◌, slice_index, length}
use Rattle.mdmp_source.specs.declared.location.Location.{Location}
use Rattle.mdmp_wire.specs.declared.exception.ExceptionRecord.{ExceptionRecord}
use Rattle.mdmp_wire.specs.Exception.{exception_at}
use Rattle.mdmp_dump.specs.declared.exception.Exception.{Exception}
use Rattle.mdmp_dump.specs.Part.{IsPart, PartFits}
use Rattle.mdmp_wire.specs.declared.any_record.AnyRecord.TheVariants as any
use Rattle.mdmp_dump.specs.Seen.{Seen, seen, nowhere, size_of, bytes_of}
use Rattle.mdmp_dump.specs.declared.view.PartSize.TheVariants.{NoPart}

module _ {Z : Type 0} where
  -- its record in a file, with the location of its context
  abbrev pub exception_record : Exception Z → Location → ExceptionRecord
  exception_record x context = record {
    thread_id = x.thread_id;
    exception_code = x.exception_code;
    exception_flags = x.exception_flags;
    exception_record = x.exception_record;
    exception_address = x.exception_address;
    number_parameters = x.number_parameters;
    exception_information = x.exception_information;
    thread_context = context;
  }

  -- x is the exception of the record at o: its context is where that record says
  pub record IsException (F : List ℕ) (o : ℕ) (x : Exception Z) : Type 0 where
    pub fields : exception_at F o ≡ exception_record x (exception_at F o).thread_context
    pub context : IsPart F (exception_at F o).thread_context x.context

  -- as a view gives it
  abbrev pub exception_seen : Exception Z → Seen
  exception_seen x =
      seen (any.Exception (exception_record x nowhere)) (size_of x.context ∷ NoPart ∷ NoPart ∷ [])
      (bytes_of x.context ∷ [] ∷ [] ∷ [])

  -- its numbers fit their fields
  pub record ExceptionFits (x : Exception Z) : Type 0 where
    pub thread_id : x.thread_id < 2 ^ 32
    pub exception_code : x.exception_code < 2 ^ 32
    pub exception_flags : x.exception_flags < 2 ^ 32
    pub exception_record : x.exception_record < 2 ^ 64
    pub exception_address : x.exception_address < 2 ^ 64
    pub number_parameters : x.number_parameters < 2 ^ 32
    pub exception_information : (i : ℕ) → slice_index x.exception_information i < 2 ^ 64
    pub information_count : length x.exception_information ≡ 15
    pub context : PartFits x.context
