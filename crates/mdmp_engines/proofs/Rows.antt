-- What small files print, computed by the definitions.
use Rattle.std.proofs.Common.{◌≡◌, ℕ, List, [], ◌∷◌, ◌++◌, true, false, refl}
use Rattle.std.specs.Prelude.{codes}
use Rattle.std.specs.List.{concat}
use Rattle.std.specs.Fmt.{digits}
use Rattle.uuid.specs.Text.{by_index}
use Rattle.mdmp_wire.specs.Number.{number_at, numbers_at, array_at, le, zeros}
use Rattle.mdmp_wire.specs.Digits.{hex}
use Rattle.mdmp_lister.specs.Format.Item.{sizes_before}
use Rattle.mdmp_lister.specs.Format.Listing.{entries_from, only_chosen}
use Rattle.mdmp_lister.specs.Format.Name.{name_at}
use Rattle.mdmp_lister.specs.Format.Shape.{shape_of}
use Rattle.mdmp_engines.specs.Text.{list_text}
use Rattle.mdmp_print.specs.declared.form.LineForm.TheVariants.{Text}
use Rattle.mdmp_print.proofs.PdbRows.{codeview_bytes}

-- a header of so many streams, whose directory stands at an offset
abbrev head : ℕ → ℕ → List ℕ
head streams directory = codes "MDMP" ++ le 4 0xa793 ++ le 4 streams ++ le 4 directory ++ zeros 16

abbrev entry : ℕ → ℕ → ℕ → List ℕ
entry stream_type size rva = le 4 stream_type ++ le 4 size ++ le 4 rva

-- a system, and a module whose name lies outside
abbrev faulty_file : List ℕ
faulty_file = head 2 32 ++ entry 7 56 56 ++ entry 4 112 112 ++ zeros 56 ++ le 4 1 ++ zeros 20 ++ le 4 0xffffffff ++ zeros 84

-- with no streams the directory is not looked at
empty-text : list_text Text false (head 0 0xffffffff) 0 ≡ codes "dump version 0x0000 streams 0 directory 4294967295 checksum 0 time 0 flags 0x0000000000000000\n"
unfolding number_at numbers_at array_at le hex digits name_at shape_of entries_from only_chosen sizes_before
empty-text = refl

-- a file that is refused prints nothing
refused-text : list_text Text false (head 1 32 ++ zeros 11) 0 ≡ []
unfolding number_at numbers_at array_at le hex digits name_at shape_of entries_from only_chosen sizes_before
refused-text = refl

-- the location of an unused entry is printed and not tested
unused-text : list_text Text false (head 1 32 ++ entry 0 7 0xffffffff) 0 ≡ concat (codes "dump version 0x0000 streams 1 directory 32 checksum 0 time 0 flags 0x0000000000000000\n"
    ∷ codes "stream 0 type 0 size 7 rva 4294967295\n" ∷ [])
unfolding number_at numbers_at array_at le hex digits name_at shape_of entries_from only_chosen sizes_before
unused-text = refl

-- the lines up to the first fault
faulty-text : list_text Text true faulty_file 0 ≡ concat (codes "dump version 0x0000 streams 2 directory 32 checksum 0 time 0 flags 0x0000000000000000\n"
    ∷ codes "stream 0 type 7 size 56 rva 56\n"
    ∷ codes "system architecture 0 level 0 revision 0 processors 0 product 0 version 0.0.0 platform 0 suite 0 csd none\n"
    ∷ codes "stream 1 type 4 size 112 rva 112\n" ∷ [])
unfolding number_at numbers_at array_at le hex digits name_at shape_of entries_from only_chosen sizes_before
faulty-text = refl

-- ---- CodeView records

-- a module, and the record that it says to be its CodeView record behind it
abbrev module_file : List ℕ
module_file = head 1 32 ++ entry 4 112 44 ++ le 4 1 ++ zeros 76 ++ le 4 30 ++ le 4 156 ++ zeros 24 ++ codeview_bytes 0x52

-- without the lines of such records
module-text : list_text Text false module_file 4096 ≡ concat (codes "dump version 0x0000 streams 1 directory 32 checksum 0 time 0 flags 0x0000000000000000\n"
    ∷ codes "stream 0 type 4 size 112 rva 44\n"
    ∷ codes "module 0 base 0x0000000000000000 size 0 checksum 0 time 0 version 0.0.0.0 cv inside 30@156 misc empty name none\n" ∷ [])
unfolding number_at numbers_at array_at le hex digits name_at shape_of entries_from only_chosen sizes_before
module-text = refl

symbol_file-text : list_text Text true module_file 4096 ≡ concat (codes "dump version 0x0000 streams 1 directory 32 checksum 0 time 0 flags 0x0000000000000000\n"
    ∷ codes "stream 0 type 4 size 112 rva 44\n"
    ∷ codes "module 0 base 0x0000000000000000 size 0 checksum 0 time 0 version 0.0.0.0 cv inside 30@156 misc empty name none\n"
    ∷ codes "pdb 00112233-4455-6677-8899-aabbccddeeff age 1 name \"a.pdb\"\n" ∷ [])
unfolding number_at numbers_at array_at le hex digits by_index name_at shape_of entries_from only_chosen sizes_before
symbol_file-text = refl

-- its name is cut where names are limited to three bytes
limited-text : list_text Text true module_file 3 ≡ concat (codes "dump version 0x0000 streams 1 directory 32 checksum 0 time 0 flags 0x0000000000000000\n"
    ∷ codes "stream 0 type 4 size 112 rva 44\n"
    ∷ codes "module 0 base 0x0000000000000000 size 0 checksum 0 time 0 version 0.0.0.0 cv inside 30@156 misc empty name none\n"
    ∷ codes "pdb 00112233-4455-6677-8899-aabbccddeeff age 1 name \"a.p\" cut\n" ∷ [])
unfolding number_at numbers_at array_at le hex digits by_index name_at shape_of entries_from only_chosen sizes_before
limited-text = refl
