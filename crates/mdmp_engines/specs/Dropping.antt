-- A source that a command drops: it was left as a source is that is handed back. `may_go` is `LetGo`'s, so the source that is told
-- is the one that was dropped.
use Rattle.std.specs.Prelude.{◌≡◌, ℕ, List, Some, Result}
use Rattle.mdmp_source.specs.Source.{SourceState}
use Rattle.mdmp_source.specs.Store.{StoreState}
use Rattle.mdmp_lister.specs.declared.limits.Limits.{Limits}
use Rattle.mdmp_engines.specs.declared.fault.ToolFault.{ToolFault}
use Rattle.mdmp_engines.specs.Copying.{SpendsCopy, SpendsWithin, first_not_copied}
use Rattle.mdmp_engines.specs.Engines.{ReadsSource}
use Rattle.mdmp_engines.specs.ReadThrough.{Access, ReadsStore, source_over}

-- that of a command over a listing
pub record DropsStore {T : Type 0} (may_go : SourceState → Type 0) (access : Access) (store : StoreState) (answer : Result T ToolFault) : Type 0 where
  pub read : ReadsStore access store answer
  pub dropped : may_go read.gone

-- that of a copy
pub record DropsCopied (may_go : SourceState → Type 0) (Z : Type 0) (types : List ℕ) (limits : Limits) (store : StoreState) (answer : Result ℕ ToolFault) : Type 0 where
  pub gone : SourceState
  pub dropped : may_go gone
  pub reads : ReadsSource (source_over store) answer gone
  -- nothing was read if a type is refused
  pub unread : (t : ℕ) → first_not_copied types ≡ Some t → gone ≡ source_over store
  pub spends : SpendsCopy Z types limits.window (source_over store) answer gone
  pub within : SpendsWithin limits.budget (source_over store) answer gone
