-- The error of a look at the items that are left, and what a pass over all entries leaves.
use Rattle.std.specs.Prelude.{◌≡◌, ◌+◌, Some}
use Rattle.mdmp_source.specs.Source.{FetchesSome}
use Rattle.mdmp_lister.specs.declared.fault.ListFault.{ListFault}
use Rattle.mdmp_lister.specs.Counts.{AreHeld, numbers_of}
use Rattle.mdmp_lister.specs.Fault.{IsToldIn, IsUnobtained, TellsNoChange}
use Rattle.mdmp_lister.specs.Lister.{IsRefusedIn, ListerState, standpoint_in}
use Rattle.mdmp_lister.specs.NextFetch.{TellsSomeFetch}
use Rattle.mdmp_summary.specs.InEntry.{IsInChosen}

-- ---- the error of a look

-- where the error comes from, if bytes were not read: the store's is the one that its last read returned, at the place where
-- reading stopped, and never `Changed`; that of the read limit is of the next read, which was not made
pub record IsLookFault (old new : ListerState) (f : ListFault) : Type 0 where
  pub told : IsToldIn new.current f old.source new.source
  pub unchanged : TellsNoChange f.kind
  pub refused : IsRefusedIn f new
  pub next : TellsSomeFetch (standpoint_in new) f.kind f.offset f.size new.counts.fetched

-- the error of a pass: bytes were not read, in a chosen entry, which it names. The listing has failed with it
pub record IsPassFault (old new : ListerState) (f : ListFault) : Type 0 where
  pub unobtained : IsUnobtained f.kind
  pub look : IsLookFault old new f
  pub entry : IsInChosen new
  pub number : f.entry + 1 ≡ new.passed
  pub stop : new.stop ≡ Some (Some f)

-- ---- what a pass leaves

-- a listing of the same file, of the same choice and limits
pub record IsSameListing (old new : ListerState) : Type 0 where
  pub header_is : new.header ≡ old.header
  pub entries : new.entries ≡ old.entries
  pub choice : new.choice ≡ old.choice
  pub limit : new.limit ≡ old.limit
  -- and in the same memory
  pub rooms : new.rooms ≡ old.rooms
  pub budget : new.counts.budget ≡ old.counts.budget
  -- and what its source had counted as it was opened
  pub start : new.counts.start ≡ old.counts.start
  pub same_file : FetchesSome old.source new.source

-- the same listing, which kept to its budget: what it has fetched is within that, and is what its source has counted
pub record KeepsItsBudget (old new : ListerState) : Type 0 where
  pub same : IsSameListing old new
  pub held : AreHeld new (numbers_of new)
