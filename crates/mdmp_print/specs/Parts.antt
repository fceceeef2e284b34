-- A text that is put into a buffer part by part.
use Rattle.std.specs.Prelude.{◌≡◌, ◌≤◌, ◌+◌, ℕ, List, ◌++◌, Result, MatchResult, length}
use Rattle.mdmp_source.specs.Output.{OutState, PutsAll}
use Rattle.mdmp_print.specs.Blocks.{BlockState}
use Rattle.mdmp_print.specs.Buffer.{IsPutBehind}
use Rattle.mdmp_print.specs.declared.piece.TheConstants.{LINE_ROOM}

-- of a text a first part, of at most `most` bytes, stands behind the first `len` bytes of a buffer, and the rest is left
pub record IsPartPut (before : List ℕ) (len : ℕ) (text rest : List ℕ) (most : ℕ) (after : List ℕ) (end : ℕ) : Type 0 where
  pub part : List ℕ
  pub whole : text ≡ part ++ rest
  pub put : IsPutBehind before len part most after end

-- of a text all went out but what is left
pub record IsUnprinted (before : OutState) (text rest : List ℕ) (after : OutState) : Type 0 where
  pub sent : List ℕ
  pub whole : text ≡ sent ++ rest
  pub went : PutsAll before sent after

-- a first part of a text was put behind what is pending, and the rest is left
pub record IsPartAppended (before : BlockState) (text rest : List ℕ) (after : BlockState) : Type 0 where
  pub part : List ℕ
  pub whole : text ≡ part ++ rest
  pub put : after ≡ record before { pending = before.pending ++ part }

-- as long as the block has room for a line, a first part of a text goes into the block, and nothing is asked of the inner output;
-- from the place that is told on the rest is left
abbrev pub FillsPart : {E : Type 0} → BlockState → List ℕ → (ℕ → List ℕ) → Result ℕ E → BlockState → Type 0
FillsPart old text rest_from result new = length old.pending + LINE_ROOM ≤ old.room → MatchResult result (λ next. IsPartAppended old text (rest_from next) new) (λ _. ⊥)
