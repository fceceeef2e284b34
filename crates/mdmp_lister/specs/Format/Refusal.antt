-- Whether a file can be listed at all.
use Rattle.std.specs.Prelude.{ℕ, ◌*◌, ◌^◌, List, length, Option, Some, None, nat_lt, if◌then◌else◌}
use Rattle.mdmp_source.specs.Range.{is_inside}
use Rattle.mdmp_wire.specs.declared.header_fault.HeaderFault.{HeaderFault}
use Rattle.mdmp_wire.specs.declared.header_fault.HeaderFault.TheVariants as header
use Rattle.mdmp_wire.specs.Header.{header_at}
use Rattle.mdmp_wire.specs.HeaderFault.{header_fault}
use Rattle.mdmp_lister.specs.declared.choice.Choice.{Choice}
use Rattle.mdmp_lister.specs.declared.fault.OpenFault.{OpenFault}
use Rattle.mdmp_lister.specs.declared.fault.OpenFault.TheVariants.{TooShort, BadSignature, BadVersion, DirectoryOutside, TooManyRanges}
use Rattle.mdmp_lister.specs.Format.Listing.{entry_count}
use Rattle.mdmp_lister.specs.Format.Numbers.{range_count}

-- the most ranges that a lister takes
abbrev pub most_ranges : ℕ
most_ranges = 2 ^ 28

-- ---- the header and the directory

abbrev pub directory_fault : List ℕ → Option OpenFault
directory_fault F =
    let at = (header_at F 0).stream_directory_rva in
    let size = 12 * entry_count F in
    if is_inside at size (length F) then None else Some (DirectoryOutside at size)

abbrev pub behind_header : List ℕ → Option HeaderFault → Option OpenFault
behind_header F (Some header.BadSignature) = Some BadSignature
behind_header F (Some (header.BadVersion low)) = Some (BadVersion low)
behind_header F None = directory_fault F

-- the first fault of the header and the directory, or none
abbrev pub directory_refusal : List ℕ → Option OpenFault
directory_refusal F = if nat_lt (length F) 32 then Some (TooShort (length F)) else behind_header F (header_fault F)

-- ---- the ranges of the chosen memory lists

abbrev pub range_fault : List ℕ → Choice → Option OpenFault
range_fault F choice =
    let count = range_count F choice in
    if nat_lt most_ranges count then Some (TooManyRanges count) else None

abbrev pub behind_directory : List ℕ → Choice → Option OpenFault → Option OpenFault
behind_directory F choice (Some fault) = Some fault
behind_directory F choice None = range_fault F choice

-- the first fault that keeps a file from being opened, or none
abbrev pub opening_fault : List ℕ → Choice → Option OpenFault
opening_fault F choice = behind_directory F choice (directory_refusal F)
