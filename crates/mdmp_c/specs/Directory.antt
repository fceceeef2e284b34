-- The header of a file, and its directory, as plain structures.
use Rattle.std.specs.Prelude.{◌≡◌, ℕ, List, map, Option, Some, None, replicate}
use Rattle.std.specs.List.{range_with_len}
use Rattle.mdmp_wire.specs.declared.entry.Entry.{Entry}
use Rattle.mdmp_wire.specs.declared.header.Header.{Header}
use Rattle.mdmp_wire.specs.Header.{header_at}
use Rattle.mdmp_lister.specs.declared.fault.OpenFault.{OpenFault}
use Rattle.mdmp_lister.specs.Format.Listing.{entry_count, entry_of}
use Rattle.mdmp_lister.specs.Format.Refusal.{directory_refusal}
use Rattle.mdmp_c.specs.declared.fault.PlainFault.{PlainFault}
use Rattle.mdmp_c.specs.declared.header_rows.HeaderRow.{HeaderRow}
use Rattle.mdmp_c.specs.declared.header_rows.StreamRow.{StreamRow}
use Rattle.mdmp_c.specs.Fault.{no_fault, status_of, told_unless}

abbrev pub header_row : Header → HeaderRow
header_row h = record {
  flags = h.flags;
  signature = h.signature;
  version = h.version;
  number_of_streams = h.number_of_streams;
  stream_directory_rva = h.stream_directory_rva;
  checksum = h.checksum;
  time_date_stamp = h.time_date_stamp;
  reserved = replicate 2 0;
}

abbrev pub stream_row : ℕ → Entry → StreamRow
stream_row e entry = record { entry = e; stream_type = entry.stream_type; size = entry.location.size; rva = entry.location.rva; reserved = replicate 2 0 }

-- the entries of the directory, by their numbers
abbrev pub stream_rows : List ℕ → List StreamRow
stream_rows F = map (λ e. stream_row e (entry_of F e)) (range_with_len 0 (entry_count F))

-- the header of a file that is not refused, and else what was there
abbrev pub header_unless : Option OpenFault → HeaderRow → HeaderRow → HeaderRow
header_unless (Some fault) row before = before
header_unless None row before = row

-- the header was given, or why there is none
pub record GivesHeader (F : List ℕ) (status : ℕ) (fault : PlainFault) (before after : HeaderRow) : Type 0 where
  pub fault_is : fault ≡ told_unless (directory_refusal F) no_fault
  pub status_is : status ≡ status_of (told_unless (directory_refusal F) no_fault)
  pub out : after ≡ header_unless (directory_refusal F) (header_row (header_at F 0)) before
