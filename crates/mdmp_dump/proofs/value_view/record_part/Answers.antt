use Rattle.std.proofs.Common.{◌≡◌, arith}
use Rattle.std.proofs.lemmas.List.{length-map}
use Rattle.mdmp_dump.proofs.value_view.record_part.Goals as goal

pub part_at-requires : goal.part_at-requires
part_at-requires g c = rw c.as_slice-records.ensures (rw (c.in-Threads.is, length-map c.in-Threads.list) at c.requires)

pub returns-in-Threads : goal.returns-in-Threads
returns-in-Threads g c = rw c.in-Threads.is (rw c.as_slice-records.ensures at c.part_at.ensures)

pub part_at-requires-in-Modules : goal.part_at-requires-in-Modules
part_at-requires-in-Modules g c = rw c.as_slice-records-in-Modules.ensures (rw (c.in-Modules.is, length-map c.in-Modules.list) at c.requires)

pub returns-in-Modules : goal.returns-in-Modules
returns-in-Modules g c = rw c.in-Modules.is (rw c.as_slice-records-in-Modules.ensures at c.part_at-in-Modules.ensures)

pub part_at-requires-in-Memory : goal.part_at-requires-in-Memory
part_at-requires-in-Memory g c = rw c.as_slice-records-in-Memory.ensures (rw (c.in-Memory.is, length-map c.in-Memory.list) at c.requires)

pub returns-in-Memory : goal.returns-in-Memory
returns-in-Memory g c = rw c.in-Memory.is (rw c.as_slice-records-in-Memory.ensures at c.part_at-in-Memory.ensures)

pub part_at-requires-in-Memory64 : goal.part_at-requires-in-Memory64
part_at-requires-in-Memory64 g c = rw c.as_slice-records-in-Memory64.ensures (rw (c.in-Memory64.is, length-map c.in-Memory64.list) at c.requires)

pub returns-in-Memory64 : goal.returns-in-Memory64
returns-in-Memory64 g c = rw c.in-Memory64.is (rw c.as_slice-records-in-Memory64.ensures at c.part_at-in-Memory64.ensures)

pub part_at-requires-in-Unloaded : goal.part_at-requires-in-Unloaded
part_at-requires-in-Unloaded g c = rw c.as_slice-records-in-Unloaded.ensures (rw (c.in-Unloaded.is, length-map c.in-Unloaded.list) at c.requires)

pub returns-in-Unloaded : goal.returns-in-Unloaded
returns-in-Unloaded g c = rw c.in-Unloaded.is (rw c.as_slice-records-in-Unloaded.ensures at c.part_at-in-Unloaded.ensures)

pub part_at-requires-in-MemoryInfo : goal.part_at-requires-in-MemoryInfo
part_at-requires-in-MemoryInfo g c = rw c.as_slice-records-in-MemoryInfo.ensures (rw (c.in-MemoryInfo.is, length-map c.in-MemoryInfo.list) at c.requires)

pub returns-in-MemoryInfo : goal.returns-in-MemoryInfo
returns-in-MemoryInfo g c = rw c.in-MemoryInfo.is (rw c.as_slice-records-in-MemoryInfo.ensures at c.part_at-in-MemoryInfo.ensures)

pub part_at-requires-in-ThreadNames : goal.part_at-requires-in-ThreadNames
part_at-requires-in-ThreadNames g c = rw c.as_slice-records-in-ThreadNames.ensures (rw (c.in-ThreadNames.is, length-map c.in-ThreadNames.list) at c.requires)

pub returns-in-ThreadNames : goal.returns-in-ThreadNames
returns-in-ThreadNames g c = rw c.in-ThreadNames.is (rw c.as_slice-records-in-ThreadNames.ensures at c.part_at-in-ThreadNames.ensures)

pub returns-in-Exception : goal.returns-in-Exception
returns-in-Exception g c = let first : c.args.index ≡ 0 = omega (arith, rw c.in-Exception.is at c.requires) in rw (c.in-Exception.is, first) c.part.ensures

pub returns-in-System : goal.returns-in-System
returns-in-System g c = let first : c.args.index ≡ 0 = omega (arith, rw c.in-System.is at c.requires) in rw (c.in-System.is, first) c.part-in-System.ensures
