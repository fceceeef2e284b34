use Rattle.std.proofs.Common.{rules}
use Rattle.mdmp_source.proofs.memory_store.MemoryStoreStore.read_at.Goals as goal

pub returns-clause-bytes : goal.returns-clause-bytes
returns-clause-bytes c = search rules
