-- The version of a module, 52 bytes: VS_FIXEDFILEINFO of verrsrc.h.
use Rattle.std.specs.Prelude.{◌≡◌, ◌≤◌, ℕ, ◌+◌, List, ◌++◌, take, drop}
use Rattle.std.proofs.Common.{arith}
use Rattle.mdmp_wire.specs.declared.version.VersionInfo.{VersionInfo}
use Rattle.mdmp_wire.specs.Number.{number_at, le}
use Rattle.mdmp_wire.specs.NumberLaws.{number_at-within}

-- the version whose structure stands at o in F
abbrev pub version_at : List ℕ → ℕ → VersionInfo
version_at F o = record {
  signature = number_at F o 4;
  structure_version = number_at F (o + 4) 4;
  file_version_ms = number_at F (o + 8) 4;
  file_version_ls = number_at F (o + 12) 4;
  product_version_ms = number_at F (o + 16) 4;
  product_version_ls = number_at F (o + 20) 4;
  file_flags_mask = number_at F (o + 24) 4;
  file_flags = number_at F (o + 28) 4;
  file_os = number_at F (o + 32) 4;
  file_type = number_at F (o + 36) 4;
  file_subtype = number_at F (o + 40) 4;
  file_date_ms = number_at F (o + 44) 4;
  file_date_ls = number_at F (o + 48) 4;
}

-- its bytes
abbrev pub version_bytes : VersionInfo → List ℕ
version_bytes x =
    le 4 x.signature ++ le 4 x.structure_version ++ le 4 x.file_version_ms ++ le 4 x.file_version_ls
    ++ le 4 x.product_version_ms ++ le 4 x.product_version_ls ++ le 4 x.file_flags_mask ++ le 4 x.file_flags
    ++ le 4 x.file_os ++ le 4 x.file_type ++ le 4 x.file_subtype ++ le 4 x.file_date_ms
    ++ le 4 x.file_date_ls

-- it is read of its own 52 bytes alone
pub version_at-part : (n o : ℕ) (F : List ℕ) → 52 ≤ n → version_at (take n (drop o F)) 0 ≡ version_at F o
version_at-part n o F room = grind (arith, number_at-within)
