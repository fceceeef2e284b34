-- Texts that go to an output of lines.
use Rattle.std.proofs.Common.{◌≡◌, ℕ, List, [], Result, Ok, Err, subst, sym}
use Rattle.std.specs.Prelude.{is_err}
use Rattle.mdmp_print.specs.Blocks.{BlockState, MovesFront, output_state}
use Rattle.mdmp_print.specs.BlockLaws.{PutsAll-moved, PutsPrefix-moved}
use Rattle.mdmp_source.specs.Output.{OutState, Puts, refused_if}

-- a flush puts no text of its own
pub Puts-moved : {T E : Type 0} (r : Result T E) (before after : BlockState) → MovesFront before.inner before.pending after.inner after.pending
    → after.inner.failures ≡ refused_if (is_err r) before.inner.failures → Puts r (output_state before) [] (output_state after)
Puts-moved (Ok x) before after moved steady = PutsAll-moved before after moved steady
Puts-moved (Err e) before after moved once = PutsPrefix-moved before after moved once

-- the same text in other words
pub Puts-as : {T E : Type 0} (r : Result T E) (before after : OutState) (told text : List ℕ) → Puts r before told after → text ≡ told → Puts r before text after
Puts-as r before after told text puts same = subst (λ (x : List ℕ). Puts r before x after) (sym same) puts
