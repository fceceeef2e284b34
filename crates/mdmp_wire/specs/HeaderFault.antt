-- What makes a file a minidump.
use Rattle.std.specs.Prelude.{◌≡◌, ◌≤◌, ℕ, ◌%◌, List, length, Option, Some, None, not, ◌==◌, if◌then◌else◌}
use Rattle.mdmp_wire.specs.declared.header.Header.{Header}
use Rattle.mdmp_wire.specs.declared.header_fault.HeaderFault.{HeaderFault}
use Rattle.mdmp_wire.specs.declared.header_fault.HeaderFault.TheVariants.{BadSignature, BadVersion}
use Rattle.mdmp_wire.specs.Header.{header_at}

-- the bytes `MDMP`, as a number
abbrev pub minidump_signature : ℕ
minidump_signature = 0x504D444D

-- the low half of the version; the high half belongs to the producer
abbrev pub minidump_version : ℕ
minidump_version = 0xA793

-- what is wrong with a header, or none
abbrev pub header_fault_of : Header → Option HeaderFault
header_fault_of h =
    if not (h.signature == minidump_signature) then Some BadSignature
    else if not (h.version % 65536 == minidump_version) then Some (BadVersion (h.version % 65536))
    else None

-- what is wrong with the header in the first 32 bytes, or none
abbrev pub header_fault : List ℕ → Option HeaderFault
header_fault F = header_fault_of (header_at F 0)

-- F begins with the header h of a minidump
pub record HasHeader (F : List ℕ) (h : Header) : Type 0 where
  pub room : 32 ≤ length F
  pub signature : h.signature ≡ minidump_signature
  pub version : h.version % 65536 ≡ minidump_version
  pub fields : h ≡ header_at F 0
