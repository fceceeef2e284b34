-- Worked headers, names and CodeView records, computed by the definitions.
use Rattle.std.proofs.Common.{◌≡◌, ℕ, List, [], ◌∷◌, ◌++◌, Some, None, refl, take, drop, true, false}
use Rattle.std.specs.Prelude.{codes, replicate}
use Rattle.std.specs.Str.{chars}
use Rattle.std.specs.Char.Utf16.{utf16_chars}
use lib.Utf8.{encode}
use Rattle.mdmp_wire.specs.Units.{utf16_of, utf8_of}
use Rattle.mdmp_wire.specs.declared.header_fault.HeaderFault.TheVariants.{BadSignature, BadVersion}
use Rattle.mdmp_wire.specs.Number.{number_at, numbers_at, array_at, le, zeros}
use Rattle.mdmp_wire.specs.Digits.{hex}
use Rattle.mdmp_wire.specs.HeaderFault.{header_fault}
use Rattle.mdmp_wire.specs.Escape.{escaped, escaped_bytes}
use Rattle.mdmp_wire.specs.Exception.{exception_at, exception_bytes}
use Rattle.mdmp_wire.specs.MemoryInfo.{memory_info_at, memory_info_bytes}
use Rattle.mdmp_wire.specs.CodeView.{Rsds, Other, Short, codeview_in, codeview_of}

bad_signature : header_fault (codes "PMDM" ++ le 4 0xA794 ++ zeros 24) ≡ Some BadSignature
unfolding number_at le
bad_signature = refl

bad_version : header_fault (codes "MDMP" ++ le 4 0xA794 ++ zeros 24) ≡ Some (BadVersion 0xA794)
unfolding number_at le
bad_version = refl

high_version : header_fault (codes "MDMP" ++ le 4 0x12AAA793 ++ zeros 24) ≡ None
unfolding number_at le
high_version = refl

-- bytes that hold nothing are written as 0
exception-alignment : exception_bytes (exception_at (replicate 168 0xff) 0) ≡ replicate 4 0xff ++ zeros 4 ++ replicate 28 0xff ++ zeros 4 ++ replicate 128 0xff
unfolding number_at numbers_at le
exception-alignment = refl

memory_info-alignment : memory_info_bytes (memory_info_at (replicate 48 0xff) 0) ≡ replicate 20 0xff ++ zeros 4 ++ replicate 20 0xff ++ zeros 4
unfolding number_at le
memory_info-alignment = refl

-- ---- names

-- a quotation mark is printed as it is
escaped-quote : escaped (0x22 ∷ 0x5c ∷ 0x7f ∷ []) ≡ 34 ∷ 92 ∷ codes "u005c" ++ 92 ∷ codes "u007f"
unfolding hex
escaped-quote = refl

-- the letter a and U+1F600
face-units : utf16_of (0x61 ∷ 0xf0 ∷ 0x9f ∷ 0x98 ∷ 0x80 ∷ []) ≡ 0x0061 ∷ 0xd83d ∷ 0xde00 ∷ []
unfolding chars
face-units = refl

face-text : utf8_of (0x0061 ∷ 0xd83d ∷ 0xde00 ∷ []) ≡ 0x61 ∷ 0xf0 ∷ 0x9f ∷ 0x98 ∷ 0x80 ∷ []
unfolding utf16_chars encode
face-text = refl

lone_surrogate : utf8_of (0xd83d ∷ []) ≡ 0xef ∷ 0xbf ∷ 0xbd ∷ []
unfolding utf16_chars encode
lone_surrogate = refl

face-escaped : escaped (0x0061 ∷ 0xd83d ∷ 0xde00 ∷ []) ≡ codes "a" ++ 92 ∷ codes "ud83d" ++ 92 ∷ codes "ude00"
unfolding hex
face-escaped = refl

escaped-bytes : escaped_bytes (0x61 ∷ 0x5c ∷ 0x80 ∷ []) ≡ codes "a" ++ 92 ∷ codes "x5c" ++ 92 ∷ codes "x80"
unfolding hex
escaped-bytes = refl

-- ---- CodeView records

abbrev guid_bytes : List ℕ
guid_bytes = 0x00 ∷ 0x11 ∷ 0x22 ∷ 0x33 ∷ 0x44 ∷ 0x55 ∷ 0x66 ∷ 0x77 ∷ 0x88 ∷ 0x99 ∷ 0xaa ∷ 0xbb ∷ 0xcc ∷ 0xdd ∷ 0xee ∷ 0xff ∷ []

-- a record of 30 bytes whose first one is given
abbrev codeview_bytes : ℕ → List ℕ
codeview_bytes first = first ∷ codes "SDS" ++ 0x33 ∷ 0x22 ∷ 0x11 ∷ 0x00 ∷ 0x55 ∷ 0x44 ∷ 0x77 ∷ 0x66 ∷ 0x88 ∷ 0x99 ∷ 0xaa ∷ 0xbb ∷ 0xcc ∷ 0xdd ∷ 0xee ∷ 0xff ∷ [] ++ le 4 1 ++ codes "a.pdb" ++ 0 ∷ []

symbol_file : codeview_in (take 24 (codeview_bytes 0x52)) (drop 24 (codeview_bytes 0x52)) 30 ≡ Rsds guid_bytes 1 (codes "a.pdb") true
unfolding number_at array_at le
symbol_file = refl

symbol_file-rest : codeview_in (take 24 (codeview_bytes 0x52)) (take 3 (drop 24 (codeview_bytes 0x52))) 30 ≡ Rsds guid_bytes 1 (codes "a.p") false
unfolding number_at array_at le
symbol_file-rest = refl

symbol_file-of : codeview_of (zeros 7 ++ codeview_bytes 0x52) (record { size = 30; rva = 7 }) 4096 ≡ Rsds guid_bytes 1 (codes "a.pdb") true
unfolding number_at array_at le
symbol_file-of = refl

symbol_file-limit : codeview_of (zeros 7 ++ codeview_bytes 0x52) (record { size = 30; rva = 7 }) 3 ≡ Rsds guid_bytes 1 (codes "a.p") false
unfolding number_at array_at le
symbol_file-limit = refl

symbol_file-short : codeview_of (codeview_bytes 0x52) (record { size = 23; rva = 0 }) 4096 ≡ Short 23
unfolding number_at array_at le
symbol_file-short = refl

symbol_file-other : codeview_of (codeview_bytes 0x4e) (record { size = 30; rva = 0 }) 4096 ≡ Other (0x4e ∷ 0x53 ∷ 0x44 ∷ 0x53 ∷ []) 30
unfolding number_at array_at le
symbol_file-other = refl

other-short : codeview_of (codeview_bytes 0x4e) (record { size = 3; rva = 0 }) 4096 ≡ Short 3
unfolding number_at array_at le
other-short = refl

-- a record of no name, of which nothing ends it
nameless : codeview_of (codeview_bytes 0x52) (record { size = 24; rva = 0 }) 4096 ≡ Rsds guid_bytes 1 [] false
unfolding number_at array_at le
nameless = refl
