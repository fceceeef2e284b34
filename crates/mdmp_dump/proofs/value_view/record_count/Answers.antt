use Rattle.std.proofs.Common.{refl, sym}
use Rattle.std.proofs.lemmas.List.{length-map}
use Rattle.mdmp_dump.proofs.value_view.record_count.Goals as goal

pub returns-in-Threads : goal.returns-in-Threads
returns-in-Threads g c = rw (c.in-Threads.is, c.as_slice-records.ensures) (sym (length-map c.in-Threads.list _))

pub returns-in-Modules : goal.returns-in-Modules
returns-in-Modules g c = rw (c.in-Modules.is, c.as_slice-records-in-Modules.ensures) (sym (length-map c.in-Modules.list _))

pub returns-in-Memory : goal.returns-in-Memory
returns-in-Memory g c = rw (c.in-Memory.is, c.as_slice-records-in-Memory.ensures) (sym (length-map c.in-Memory.list _))

pub returns-in-Memory64 : goal.returns-in-Memory64
returns-in-Memory64 g c = rw (c.in-Memory64.is, c.as_slice-records-in-Memory64.ensures) (sym (length-map c.in-Memory64.list _))

pub returns-in-Unloaded : goal.returns-in-Unloaded
returns-in-Unloaded g c = rw (c.in-Unloaded.is, c.as_slice-records-in-Unloaded.ensures) (sym (length-map c.in-Unloaded.list _))

pub returns-in-MemoryInfo : goal.returns-in-MemoryInfo
returns-in-MemoryInfo g c = rw (c.in-MemoryInfo.is, c.as_slice-records-in-MemoryInfo.ensures) (sym (length-map c.in-MemoryInfo.list _))

pub returns-in-ThreadNames : goal.returns-in-ThreadNames
returns-in-ThreadNames g c = rw (c.in-ThreadNames.is, c.as_slice-records-in-ThreadNames.ensures) (sym (length-map c.in-ThreadNames.list _))

pub returns-in-Exception : goal.returns-in-Exception
returns-in-Exception g c = rw c.in-Exception.is refl

pub returns-in-System : goal.returns-in-System
returns-in-System g c = rw c.in-System.is refl
