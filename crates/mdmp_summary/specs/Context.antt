-- The registers of a CPU context that tell where a thread was.
use Rattle.std.specs.Prelude.{ℕ, ◌+◌, List, Option, Some, None, length, max, nat_le, ◌==◌, ◌||◌, if◌then◌else◌}
use Rattle.mdmp_wire.specs.Number.{number_at}
use Rattle.mdmp_summary.specs.declared.context.RegisterTable.{RegisterTable}
use Rattle.mdmp_summary.specs.declared.context.RegisterWidth.{RegisterWidth}
use Rattle.mdmp_summary.specs.declared.context.RegisterWidth.TheVariants.{Four, Eight}
use Rattle.mdmp_summary.specs.declared.context.Registers.{Registers}

-- the width of a register, in bytes
abbrev pub width_of : RegisterWidth → ℕ
width_of Four = 4
width_of Eight = 8

-- ---- offsets

abbrev pub x86 : RegisterTable
x86 = record { width = Four; instruction = 184; stack = 196; frame = 180 }

abbrev pub x64 : RegisterTable
x64 = record { width = Eight; instruction = 248; stack = 152; frame = 160 }

abbrev pub arm : RegisterTable
arm = record { width = Four; instruction = 64; stack = 56; frame = 48 }

abbrev pub arm64 : RegisterTable
arm64 = record { width = Eight; instruction = 264; stack = 256; frame = 240 }

-- the offsets of a ProcessorArchitecture, if they are known
abbrev pub table_of : ℕ → Option RegisterTable
table_of architecture =
    if architecture == 0 || architecture == 10 then Some x86
    else if architecture == 5 then Some arm
    else if architecture == 9 then Some x64
    else if architecture == 12 || architecture == 0x8003 then Some arm64
    else None

-- the end of the last of the three registers
abbrev pub registers_end : RegisterTable → ℕ
registers_end table = max table.instruction (max table.stack table.frame) + width_of table.width

-- ---- values

-- the registers at these offsets of a context
abbrev pub registers_by : List ℕ → RegisterTable → Registers
registers_by bytes table = record {
  instruction = number_at bytes table.instruction (width_of table.width);
  stack = number_at bytes table.stack (width_of table.width);
  frame = number_at bytes table.frame (width_of table.width);
}

-- the same, or none if the context ends before the last of them does
abbrev pub registers_within : List ℕ → Option RegisterTable → Option Registers
registers_within bytes None = None
registers_within bytes (Some table) = if nat_le (registers_end table) (length bytes) then Some (registers_by bytes table) else None

-- the registers in a context, by the system's ProcessorArchitecture
abbrev pub registers_at : ℕ → List ℕ → Option Registers
registers_at architecture bytes = registers_within bytes (table_of architecture)
