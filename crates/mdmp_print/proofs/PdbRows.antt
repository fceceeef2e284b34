-- The lines of some CodeView records, computed by the definitions.
use Rattle.std.proofs.Common.{◌≡◌, ℕ, List, [], ◌∷◌, ◌++◌, refl, true}
use Rattle.std.specs.Prelude.{codes}
use Rattle.std.specs.Fmt.{digits}
use Rattle.uuid.specs.Text.{by_index}
use Rattle.mdmp_wire.specs.CodeView.{Rsds, codeview_of}
use Rattle.mdmp_wire.specs.Digits.{hex}
use Rattle.mdmp_wire.specs.Number.{number_at, array_at, le}
use Rattle.mdmp_print.specs.Ids.{build_debug_id, stamp_id}
use Rattle.mdmp_print.specs.PdbLines.{pdb_line}
use Rattle.mdmp_print.specs.UpperHex.{upper_hex}

-- the bytes of an identity: three numbers, the lower bytes first, and eight bytes
abbrev identity : List ℕ
identity =
    le 4 0x00112233 ++ le 2 0x4455 ++ le 2 0x6677 ++ 0x88 ∷ 0x99 ∷ 0xaa ∷ 0xbb ∷ 0xcc ∷ 0xdd ∷ 0xee ∷ 0xff ∷ []

-- a record of 30 bytes whose first one is given
abbrev pub codeview_bytes : ℕ → List ℕ
codeview_bytes first = first ∷ codes "SDS" ++ identity ++ le 4 1 ++ codes "a.pdb" ++ 0 ∷ []

-- the line of such a record of size bytes at the start of a file, where names are fetched up to a limit
abbrev line_of : ℕ → ℕ → ℕ → List ℕ
line_of first size limit = pdb_line (codeview_of (codeview_bytes first) (record { size = size; rva = 0 }) limit)

symbol_file-line : line_of 0x52 30 4096 ≡ codes "pdb 00112233-4455-6677-8899-aabbccddeeff age 1 name \"a.pdb\"\n"
unfolding number_at array_at le by_index digits
symbol_file-line = refl

-- the limit ends the name
limited-line : line_of 0x52 30 3 ≡ codes "pdb 00112233-4455-6677-8899-aabbccddeeff age 1 name \"a.p\" cut\n"
unfolding number_at array_at le by_index digits
limited-line = refl

-- the record does
nameless-line : line_of 0x52 24 4096 ≡ codes "pdb 00112233-4455-6677-8899-aabbccddeeff age 1 name \"\" cut\n"
unfolding number_at array_at le by_index digits
nameless-line = refl

no_limit-line : line_of 0x52 30 0 ≡ codes "pdb 00112233-4455-6677-8899-aabbccddeeff age 1 name \"\" cut\n"
unfolding number_at array_at le by_index digits
no_limit-line = refl

short-line : line_of 0x52 23 4096 ≡ codes "pdb short 23\n"
unfolding number_at array_at le digits
short-line = refl

-- the four bytes of the signature in the order of the file
other-line : line_of 0x4e 30 4096 ≡ codes "pdb other 4e534453 size 30\n"
unfolding number_at array_at le digits hex
other-line = refl

-- a backslash, a quote, bytes that are no characters of ASCII, and the last plain one
escaped-line : pdb_line (Rsds identity 4294967295 (92 ∷ 34 ∷ 31 ∷ 32 ∷ 126 ∷ 127 ∷ 255 ∷ []) true)
    ≡ codes "pdb 33221100-5544-7766-8899-aabbccddeeff age 4294967295 name \"\\x5c\"\\x1f ~\\x7f\\xff\"\n"
unfolding le by_index digits hex
escaped-line = refl

-- ---- ids

-- the GUID of a build id has its first three numbers turned, and the age is 0
build-id : build_debug_id (1 ∷ 2 ∷ 3 ∷ 4 ∷ 5 ∷ 6 ∷ 7 ∷ 8 ∷ 9 ∷ 10 ∷ 11 ∷ 12 ∷ 13 ∷ 14 ∷ 15 ∷ 16 ∷ 17 ∷ []) ≡ codes "0403020106050807090A0B0C0D0E0F100"
unfolding by_index digits
build-id = refl

-- a build id of four bytes has zeros behind them
brief-build-id : build_debug_id (1 ∷ 2 ∷ 3 ∷ 4 ∷ []) ≡ codes "040302010000000000000000000000000"
unfolding by_index digits
brief-build-id = refl

-- the time has zeros in front, and the number has none
time-and-number : stamp_id 0x0a5b7c9d 0x1f ≡ codes "0A5B7C9D1f"
unfolding upper_hex digits
time-and-number = refl
