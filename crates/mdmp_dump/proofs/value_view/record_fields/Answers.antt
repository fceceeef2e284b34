use Rattle.std.proofs.Common.{◌≡◌, arith}
use Rattle.std.proofs.lemmas.List.{length-map}
use Rattle.mdmp_dump.proofs.value_view.record_fields.Goals as goal

pub fields_at-requires : goal.fields_at-requires
fields_at-requires g c = rw c.as_slice-records.ensures (rw (c.in-Threads.is, length-map c.in-Threads.list) at c.requires)

pub returns-in-Threads : goal.returns-in-Threads
returns-in-Threads g c = rw c.in-Threads.is (rw c.as_slice-records.ensures at c.fields_at.ensures)

pub fields_at-requires-in-Modules : goal.fields_at-requires-in-Modules
fields_at-requires-in-Modules g c = rw c.as_slice-records-in-Modules.ensures (rw (c.in-Modules.is, length-map c.in-Modules.list) at c.requires)

pub returns-in-Modules : goal.returns-in-Modules
returns-in-Modules g c = rw c.in-Modules.is (rw c.as_slice-records-in-Modules.ensures at c.fields_at-in-Modules.ensures)

pub fields_at-requires-in-Memory : goal.fields_at-requires-in-Memory
fields_at-requires-in-Memory g c = rw c.as_slice-records-in-Memory.ensures (rw (c.in-Memory.is, length-map c.in-Memory.list) at c.requires)

pub returns-in-Memory : goal.returns-in-Memory
returns-in-Memory g c = rw c.in-Memory.is (rw c.as_slice-records-in-Memory.ensures at c.fields_at-in-Memory.ensures)

pub fields_at-requires-in-Memory64 : goal.fields_at-requires-in-Memory64
fields_at-requires-in-Memory64 g c = rw c.as_slice-records-in-Memory64.ensures (rw (c.in-Memory64.is, length-map c.in-Memory64.list) at c.requires)

pub returns-in-Memory64 : goal.returns-in-Memory64
returns-in-Memory64 g c = rw c.in-Memory64.is (rw c.as_slice-records-in-Memory64.ensures at c.fields_at-in-Memory64.ensures)

pub fields_at-requires-in-Unloaded : goal.fields_at-requires-in-Unloaded
fields_at-requires-in-Unloaded g c = rw c.as_slice-records-in-Unloaded.ensures (rw (c.in-Unloaded.is, length-map c.in-Unloaded.list) at c.requires)

pub returns-in-Unloaded : goal.returns-in-Unloaded
returns-in-Unloaded g c = rw c.in-Unloaded.is (rw c.as_slice-records-in-Unloaded.ensures at c.fields_at-in-Unloaded.ensures)

pub fields_at-requires-in-MemoryInfo : goal.fields_at-requires-in-MemoryInfo
fields_at-requires-in-MemoryInfo g c = rw c.as_slice-records-in-MemoryInfo.ensures (rw (c.in-MemoryInfo.is, length-map c.in-MemoryInfo.list) at c.requires)

pub returns-in-MemoryInfo : goal.returns-in-MemoryInfo
returns-in-MemoryInfo g c = rw c.in-MemoryInfo.is (rw c.as_slice-records-in-MemoryInfo.ensures at c.fields_at-in-MemoryInfo.ensures)

pub fields_at-requires-in-ThreadNames : goal.fields_at-requires-in-ThreadNames
fields_at-requires-in-ThreadNames g c = rw c.as_slice-records-in-ThreadNames.ensures (rw (c.in-ThreadNames.is, length-map c.in-ThreadNames.list) at c.requires)

pub returns-in-ThreadNames : goal.returns-in-ThreadNames
returns-in-ThreadNames g c = rw c.in-ThreadNames.is (rw c.as_slice-records-in-ThreadNames.ensures at c.fields_at-in-ThreadNames.ensures)

pub returns-in-Exception : goal.returns-in-Exception
returns-in-Exception g c = let first : c.args.index ≡ 0 = omega (arith, rw c.in-Exception.is at c.requires) in rw (c.in-Exception.is, first) c.fields.ensures

pub returns-in-System : goal.returns-in-System
returns-in-System g c = let first : c.args.index ≡ 0 = omega (arith, rw c.in-System.is at c.requires) in rw (c.in-System.is, first) c.fields-in-System.ensures
