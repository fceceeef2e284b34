-- The first bytes of a context hold the registers.
use Rattle.std.proofs.Common.{◌≡◌, ◌≤◌, ◌+◌, ℕ, List, Bool, true, false, Option, Some, None, length, take, min, ap, arith, refl, ◌∙◌}
use Rattle.std.specs.Prelude.{if◌then◌else◌, nat_le, ◌==◌, ◌||◌}
use Rattle.std.proofs.lemmas.Bool.Decides.{nat_tests}
use Rattle.std.proofs.lemmas.List.{length-take}
use Rattle.mdmp_wire.specs.Number.{number_at}
use Rattle.mdmp_wire.specs.NumberLaws.{number_at-within}
use Rattle.mdmp_summary.specs.Context.{arm, arm64, registers_at, registers_by, registers_end, registers_within, width_of, x64, x86}
use Rattle.mdmp_summary.specs.declared.context.RegisterTable.{RegisterTable}

-- a register that ends at 272 or before
register_kept : (bytes : List ℕ) (at width : ℕ) → at + width ≤ 272 → number_at (take 272 bytes) at width ≡ number_at bytes at width
register_kept bytes at width within = number_at-within 272 0 at at width bytes within (omega arith)

same_test : (end n : ℕ) → end ≤ 272 → nat_le end (min 272 n) ≡ nat_le end n
same_test end n within = grind (arith, nat_tests)

-- the registers of a table that ends at 272 or before
table_kept : (bytes : List ℕ) (table : RegisterTable) → registers_end table ≤ 272 → registers_within (take 272 bytes) (Some table) ≡ registers_within bytes (Some table)
table_kept bytes table within =
    let width = width_of table.width in
    let test : nat_le (registers_end table) (length (take 272 bytes)) ≡ nat_le (registers_end table) (length bytes) =
    ap (nat_le (registers_end table)) (length-take 272 bytes) ∙ same_test (registers_end table) (length bytes) within in
    let read : registers_by (take 272 bytes) table ≡ registers_by bytes table = λ i. record {
      instruction = register_kept bytes table.instruction width (omega arith) i;
      stack = register_kept bytes table.stack width (omega arith) i;
      frame = register_kept bytes table.frame width (omega arith) i;
    } in
    λ i. if test i then Some (read i) else None

either_kept : (bytes : List ℕ) (test : Bool) (x y : Option RegisterTable) → registers_within (take 272 bytes) x ≡ registers_within bytes x → registers_within (take 272 bytes) y ≡ registers_within bytes y
    → registers_within (take 272 bytes) (if test then x else y) ≡ registers_within bytes (if test then x else y)
either_kept bytes true x y first second = first
either_kept bytes false x y first second = second

pub room_suffices : (architecture : ℕ) (bytes : List ℕ) → registers_at architecture (take 272 bytes) ≡ registers_at architecture bytes
room_suffices architecture bytes =
    either_kept bytes (architecture == 0 || architecture == 10) (Some x86) _ (table_kept bytes x86 (omega arith))
    (either_kept bytes (architecture == 5) (Some arm) _ (table_kept bytes arm (omega arith))
    (either_kept bytes (architecture == 9) (Some x64) _ (table_kept bytes x64 (omega arith))
    (either_kept bytes (architecture == 12 || architecture == 0x8003) (Some arm64) None (table_kept bytes arm64 (omega arith)) refl)))
