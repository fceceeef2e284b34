-- A source that a call drops: it was left as a source is that is handed back. `may_go` is `LetGo`'s, so the source that is told
-- is the one that was dropped.
use Rattle.std.specs.Prelude.{ℕ, Result}
use Rattle.mdmp_source.specs.Source.{SourceState}
use Rattle.mdmp_lister.specs.declared.choice.Choice.{Choice}
use Rattle.mdmp_lister.specs.declared.limits.Limits.{Limits}
use Rattle.mdmp_dump.specs.declared.fault.ReadFault.{ReadFault}
use Rattle.mdmp_dump.specs.Opened.{HandsSourceBack}
use Rattle.mdmp_dump.specs.Reading.{IsReadWithin}

-- that of a view that is refused
pub record DropsSource (may_go : SourceState → Type 0) (limits : Limits) (choice : Choice) (old : SourceState) (fault : ReadFault) : Type 0 where
  pub gone : SourceState
  pub dropped : may_go gone
  pub left : HandsSourceBack limits choice old fault gone

-- that of a reading
pub record IsReadAndDropped {T : Type 0} (may_go : SourceState → Type 0) (choice : Choice) (limits : Limits) (parts : ℕ) (result : Result T ReadFault) (old : SourceState) : Type 0 where
  pub within : IsReadWithin choice limits parts result old
  pub dropped : may_go within.after
