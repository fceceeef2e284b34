-- Worked identities.
use Rattle.std.proofs.Common.{◌≡◌, ℕ, List, [], ◌∷◌, ◌++◌, Some, None, refl, take, true, false}
use Rattle.std.specs.Prelude.{codes, replicate}
use Rattle.mdmp_wire.specs.CodeView.{Rsds, Other}
use Rattle.mdmp_wire.specs.Module.{module_at}
use Rattle.mdmp_wire.specs.Number.{number_at, array_at, le, zeros}
use Rattle.mdmp_summary.specs.Identity.{build_id_in, code_id_of, debug_id_built, debug_id_told, pdb20_in}

-- a module of this time and size
abbrev module_bytes : ℕ → ℕ → List ℕ
module_bytes time size = le 8 0x140000000 ++ le 4 size ++ zeros 4 ++ le 4 time ++ zeros 88

code : code_id_of (module_at (module_bytes 0x4A5BDF01 0x1B000) 0) ≡ Some (record { time_date_stamp = 0x4A5BDF01; size_of_image = 0x1B000 })
unfolding number_at array_at le
code = refl

timeless : code_id_of (module_at (module_bytes 0 0x1B000) 0) ≡ None
unfolding number_at array_at le
timeless = refl

-- twenty bytes of a build id
abbrev build : List ℕ
build = 0x2d ∷ 0x1f ∷ 0x3c ∷ 0x4b ∷ 0x5a ∷ 0x69 ∷ 0x78 ∷ 0x87 ∷ 0x96 ∷ 0xa5 ∷ 0xb4 ∷ 0xc3 ∷ 0xd2 ∷ 0xe1 ∷ 0xf0 ∷ 0x0f ∷ 0x1e ∷ 0x2e ∷ 0x3e ∷ 0x4e ∷ []

abbrev elf : List ℕ
elf = 0x4c ∷ 0x45 ∷ 0x70 ∷ 0x42 ∷ build

elf-whole : build_id_in elf 24 ≡ Some (record { bytes = build; cut = false })
unfolding number_at
elf-whole = refl

elf-long : build_id_in elf 36 ≡ Some (record { bytes = build; cut = true })
unfolding number_at
elf-long = refl

elf-short : build_id_in (take 12 elf) 12 ≡ Some (record { bytes = take 8 build; cut = false })
unfolding number_at
elf-short = refl

elf-bare : build_id_in (take 4 elf) 4 ≡ Some (record { bytes = []; cut = false })
unfolding number_at
elf-bare = refl

elf-none : build_id_in (take 3 elf) 3 ≡ None
unfolding number_at
elf-none = refl

rsds-none : build_id_in (0x52 ∷ 0x53 ∷ 0x44 ∷ 0x53 ∷ build) 24 ≡ None
unfolding number_at
rsds-none = refl

-- 4B3C1F2D-695A-8778-96A5-B4C3D2E1F00F, and the age 0
built : debug_id_built build ≡ record { guid = 0x4b ∷ 0x3c ∷ 0x1f ∷ 0x2d ∷ 0x69 ∷ 0x5a ∷ 0x87 ∷ 0x78 ∷ 0x96 ∷ 0xa5 ∷ 0xb4 ∷ 0xc3 ∷ 0xd2 ∷ 0xe1 ∷ 0xf0 ∷ 0x0f ∷ []; age = 0 }
built = refl

-- the zeros that fill it up move with the fields of the GUID
built-short : debug_id_built (1 ∷ 2 ∷ 3 ∷ []) ≡ record { guid = 0 ∷ 3 ∷ 2 ∷ 1 ∷ replicate 12 0; age = 0 }
built-short = refl

told : debug_id_told (Rsds build 7 [] true) ≡ Some (record { guid = build; age = 7 })
told = refl

untold : debug_id_told (Other (1 ∷ 2 ∷ 3 ∷ 4 ∷ []) 9) ≡ None
untold = refl

-- a record of PDB 2.0, and one a byte too short
nb10 : pdb20_in (codes "NB10" ++ zeros 4 ++ le 4 0x3B7D8410 ++ le 4 5 ++ codes "app.pdb" ++ 0 ∷ []) 24 ≡ Some (record { time = 0x3B7D8410; age = 5 })
unfolding number_at le
nb10 = refl

nb10-short : pdb20_in (codes "NB10" ++ zeros 11) 15 ≡ None
unfolding number_at le
nb10-short = refl
