-- An output that gathers lines in a buffer for another one.
use Rattle.std.specs.Prelude.{◌≡◌, ◌≤◌, ◌+◌, ◌++◌, ℕ, List, Result, Ok, length}
use Rattle.std.specs.Io.KnownBytes.{append_known}
use Rattle.mdmp_source.specs.Output.{OutState, Takes}
use Rattle.mdmp_print.specs.declared.piece.TheConstants.{LINE_ROOM}

-- such an output as its callers see it: the inner one, and the bytes that it has yet to take, at most `room` of them
pub record BlockState : Type 0 where
  pub inner : OutState
  pub pending : List ℕ
  pub room : ℕ

-- the bytes that it took are those of the inner output and those that are pending; it refuses where that one does
abbrev pub output_state : BlockState → OutState
output_state b = record { taken = append_known b.inner.taken b.pending; failures = b.inner.failures }

-- this text was put behind what is pending, and nothing was asked of the inner output
abbrev pub with_pending : BlockState → List ℕ → BlockState
with_pending block text = record block { pending = block.pending ++ text }

-- as long as the block has room for a line, what is printed goes into the block, and nothing is asked of the inner output
abbrev pub FillsBlock : {E : Type 0} → BlockState → List ℕ → Result (Unit {0}) E → BlockState → Type 0
FillsBlock old text result new = length old.pending + LINE_ROOM ≤ old.room → (result ≡ Ok tt) × (new ≡ with_pending old text)

-- bytes moved from the front of what was pending to the inner output
pub record MovesFront (inner_before : OutState) (pending_before : List ℕ) (inner_after : OutState) (pending_after : List ℕ) : Type 0 where
  pub sent : List ℕ
  pub whole : pending_before ≡ sent ++ pending_after
  pub took : Takes inner_before.taken sent inner_after.taken
