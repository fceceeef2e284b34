use Rattle.mdmp_dump.proofs.value_view.parts_size.Goals as goal

pub returns-in-Threads : goal.returns-in-Threads
returns-in-Threads g c = rw c.in-Threads.is (rw (c.is_memory64.ensures, c.as_slice-records.ensures) at c.all_taken.ensures)

pub returns-in-Modules : goal.returns-in-Modules
returns-in-Modules g c = rw c.in-Modules.is (rw (c.is_memory64-in-Modules.ensures, c.as_slice-records-in-Modules.ensures) at c.all_taken-in-Modules.ensures)

pub returns-in-Memory : goal.returns-in-Memory
returns-in-Memory g c = rw c.in-Memory.is (rw (c.is_memory64-in-Memory.ensures, c.as_slice-records-in-Memory.ensures) at c.all_taken-in-Memory.ensures)

pub returns-in-Memory64 : goal.returns-in-Memory64
returns-in-Memory64 g c = rw c.in-Memory64.is (rw (c.is_memory64-in-Memory64.ensures, c.as_slice-records-in-Memory64.ensures) at c.all_taken-in-Memory64.ensures)

pub returns-in-Unloaded : goal.returns-in-Unloaded
returns-in-Unloaded g c = rw c.in-Unloaded.is (rw (c.is_memory64-in-Unloaded.ensures, c.as_slice-records-in-Unloaded.ensures) at c.all_taken-in-Unloaded.ensures)

pub returns-in-MemoryInfo : goal.returns-in-MemoryInfo
returns-in-MemoryInfo g c = rw c.in-MemoryInfo.is (rw (c.is_memory64-in-MemoryInfo.ensures, c.as_slice-records-in-MemoryInfo.ensures) at c.all_taken-in-MemoryInfo.ensures)

pub returns-in-ThreadNames : goal.returns-in-ThreadNames
returns-in-ThreadNames g c = rw c.in-ThreadNames.is (rw (c.is_memory64-in-ThreadNames.ensures, c.as_slice-records-in-ThreadNames.ensures) at c.all_taken-in-ThreadNames.ensures)

pub returns-in-Exception : goal.returns-in-Exception
returns-in-Exception g c = rw c.in-Exception.is (rw c.is_memory64-in-Exception.ensures at c.one_taken.ensures)

pub returns-in-System : goal.returns-in-System
returns-in-System g c = rw c.in-System.is (rw c.is_memory64-in-System.ensures at c.one_taken-in-System.ensures)
