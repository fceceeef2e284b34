-- The entry of its directory in which a listing stands.
use Rattle.std.specs.Prelude.{◌≡◌, ◌+◌, ℕ, List, Some, Result, Err, IsTrue, false, slice_get}
use Rattle.mdmp_wire.specs.declared.entry.Entry.{Entry}
use Rattle.mdmp_lister.specs.declared.choice.Choice.{Choice}
use Rattle.mdmp_lister.specs.declared.sink.RunFault.{RunFault}
use Rattle.mdmp_lister.specs.declared.sink.RunFault.TheVariants as run
use Rattle.mdmp_lister.specs.Following.{through}
use Rattle.mdmp_lister.specs.Format.Listing.{is_chosen}
use Rattle.mdmp_lister.specs.Lister.{ListerState}
use Rattle.mdmp_lister.specs.Sink.{TellsRunFetch}
use Rattle.mdmp_lister.specs.Walker.{WalkerState, is_sought}
use Rattle.mdmp_summary.specs.declared.visiting.VisitFault.{VisitFault}
use Rattle.mdmp_summary.specs.declared.visiting.VisitFault.TheVariants as faults

-- this is an entry of a directory, and one of the chosen
pub record IsChosenEntry (choice : Choice) (entries : List Entry) (e : Entry) : Type 0 where
  pub number : ℕ
  pub is : slice_get entries number ≡ Some e
  pub chosen : IsTrue (is_chosen choice e.stream_type)

-- the current entry of a listing is one
abbrev pub IsInChosen : ListerState → Type 0
IsInChosen v = IsChosenEntry v.choice v.entries v.current

-- so it is if something may be left of it
abbrev pub StandsInChosen : ListerState → Type 0
StandsInChosen v = (v.standing ≡ through → ⊥) → IsInChosen v

-- the same of a walker, unless an entry is sought
abbrev pub WalksInChosen : WalkerState → Type 0
WalksInChosen v = is_sought v ≡ false → StandsInChosen v.list

-- an error of the listing is told of a chosen entry
abbrev pub EndsInChosen : Result (Unit {0}) RunFault → ListerState → Type 0
EndsInChosen (Err (run.At fault)) v = IsInChosen v
EndsInChosen result v = Unit {0}

abbrev pub VisitsInChosen : VisitFault → ListerState → Type 0
VisitsInChosen (faults.List fault) v = IsInChosen v
VisitsInChosen (faults.Ended end) v = Unit {0}

-- an error names the entry in which the listing stands: the one before the next
abbrev pub NamesEntry : Result (Unit {0}) RunFault → ListerState → Type 0
NamesEntry (Err (run.At fault)) v = fault.entry + 1 ≡ v.passed
NamesEntry result v = Unit {0}

-- a run that ends by the read limit tells a read that came next in the current entry, which is a chosen one if the run began in one. Its
-- error names that entry
pub record EndsInEntry (old : ListerState) (result : Result (Unit {0}) RunFault) (new : ListerState) : Type 0 where
  pub next : TellsRunFetch result new
  pub chosen : StandsInChosen old → EndsInChosen result new
  pub names : NamesEntry result new
