-- The header, an entry and a location are read of their own bytes again, where their numbers fit.
use Rattle.std.proofs.Common.{◌≡◌, ◌^◌, ◌<◌, [], length, refl}
use Rattle.mdmp_source.specs.declared.location.Location.{Location}
use Rattle.mdmp_wire.specs.declared.header.Header.{Header}
use Rattle.mdmp_wire.specs.declared.entry.Entry.{Entry}
use Rattle.mdmp_wire.specs.Number.{number_at, le}
use Rattle.mdmp_wire.specs.NumberLaws.{number_at-le}
use Rattle.mdmp_wire.specs.Location.{location_at, location_bytes}
use Rattle.mdmp_wire.specs.Header.{header_at, header_bytes}
use Rattle.mdmp_wire.specs.Entry.{entry_at, entry_bytes}

pub record LocationFits (l : Location) : Type 0 where
  pub size : l.size < 2 ^ 32
  pub rva : l.rva < 2 ^ 32

pub record HeaderFits (h : Header) : Type 0 where
  pub signature : h.signature < 2 ^ 32
  pub version : h.version < 2 ^ 32
  pub number_of_streams : h.number_of_streams < 2 ^ 32
  pub stream_directory_rva : h.stream_directory_rva < 2 ^ 32
  pub checksum : h.checksum < 2 ^ 32
  pub time_date_stamp : h.time_date_stamp < 2 ^ 32
  pub flags : h.flags < 2 ^ 64

pub header_back : (h : Header) → HeaderFits h → header_at (header_bytes h) 0 ≡ h
unfolding number_at le
header_back h f = λ i. record {
  signature = number_at-le 4 h.signature [] f.signature i;
  version = number_at-le 4 h.version [] f.version i;
  number_of_streams = number_at-le 4 h.number_of_streams [] f.number_of_streams i;
  stream_directory_rva = number_at-le 4 h.stream_directory_rva [] f.stream_directory_rva i;
  checksum = number_at-le 4 h.checksum [] f.checksum i;
  time_date_stamp = number_at-le 4 h.time_date_stamp [] f.time_date_stamp i;
  flags = number_at-le 8 h.flags [] f.flags i;
}

pub length-header_bytes : (h : Header) → length (header_bytes h) ≡ 32
unfolding le
length-header_bytes h = refl

pub location_back : (l : Location) → LocationFits l → location_at (location_bytes l) 0 ≡ l
unfolding number_at le
location_back l f = λ i. record { size = number_at-le 4 l.size [] f.size i; rva = number_at-le 4 l.rva [] f.rva i }

pub entry_back : (e : Entry) → e.stream_type < 2 ^ 32 → LocationFits e.location → entry_at (entry_bytes e) 0 ≡ e
unfolding number_at le
entry_back e t f = λ i. record { stream_type = number_at-le 4 e.stream_type [] t i; location = location_back e.location f i }

pub length-entry_bytes : (e : Entry) → length (entry_bytes e) ≡ 12
unfolding le
length-entry_bytes e = refl
