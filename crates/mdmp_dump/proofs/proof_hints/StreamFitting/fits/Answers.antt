use Rattle.mdmp_dump.proofs.proof_hints.StreamFitting.fits.Goals as goal

pub returns-in-Threads : goal.returns-in-Threads
returns-in-Threads g c = rw (c.in-Threads.is, ← c.as_slice-records.ensures) c.all_fit.ensures

pub returns-in-Modules : goal.returns-in-Modules
returns-in-Modules g c = rw (c.in-Modules.is, ← c.as_slice-records-in-Modules.ensures) c.all_fit-in-Modules.ensures

pub returns-in-Memory : goal.returns-in-Memory
returns-in-Memory g c = rw (c.in-Memory.is, ← c.as_slice-records-in-Memory.ensures) c.all_fit-in-Memory.ensures

pub returns-in-Memory64 : goal.returns-in-Memory64
returns-in-Memory64 g c = rw (c.in-Memory64.is, ← c.as_slice-records-in-Memory64.ensures) c.all_fit-in-Memory64.ensures

pub returns-in-Unloaded : goal.returns-in-Unloaded
returns-in-Unloaded g c = rw (c.in-Unloaded.is, ← c.as_slice-records-in-Unloaded.ensures) c.all_fit-in-Unloaded.ensures

pub returns-in-MemoryInfo : goal.returns-in-MemoryInfo
returns-in-MemoryInfo g c = rw (c.in-MemoryInfo.is, ← c.as_slice-records-in-MemoryInfo.ensures) c.all_fit-in-MemoryInfo.ensures

pub returns-in-ThreadNames : goal.returns-in-ThreadNames
returns-in-ThreadNames g c = rw (c.in-ThreadNames.is, ← c.as_slice-records-in-ThreadNames.ensures) c.all_fit-in-ThreadNames.ensures

pub returns-in-Exception : goal.returns-in-Exception
returns-in-Exception g c = rw c.in-Exception.is c.fits.ensures

pub returns-in-System : goal.returns-in-System
returns-in-System g c = rw c.in-System.is c.fits-in-System.ensures
