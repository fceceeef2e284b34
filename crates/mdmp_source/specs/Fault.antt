-- Where a fetch failed, and why.
use Rattle.std.specs.Prelude.{ℕ}
use Rattle.mdmp_source.specs.declared.fault.SourceFault.{SourceFault}
use Rattle.mdmp_source.specs.declared.fault.SourceFault.TheVariants.{Failed, ShortRead, Changed}

-- the offset of the first byte that was not obtained, or of those that do not agree
abbrev pub fault_at : SourceFault → ℕ
fault_at (Failed at) = at
fault_at (ShortRead at) = at
fault_at (Changed at) = at

-- the cause of a fault of a fetch, of these two: the store failed, or it answered no bytes
abbrev pub HasFetchCause : SourceFault → Type 0 → Type 0 → Type 0
HasFetchCause (Failed at) failed empty = failed
HasFetchCause (ShortRead at) failed empty = empty
HasFetchCause (Changed at) failed empty = ⊥
