-- Bytes that move from what is pending to the inner output.
use Rattle.std.proofs.Common.{◌≡◌, ◌++◌, ◌∙◌, ℕ, List, [], Option, Some, None, take, drop, ap, sym, refl, append_assoc, append-nil}
use Rattle.std.proofs.lemmas.List.{take-append-drop}
use Rattle.std.specs.Io.KnownBytes.{append_known}
use Rattle.mdmp_source.specs.Output.{OutState, Keeps, Takes, PutsAll, PutsPrefix, refused_once}
use Rattle.mdmp_source.specs.OutputLaws.{HasRefused-once}
use Rattle.mdmp_print.specs.Blocks.{BlockState, MovesFront, output_state}

kept : (a b : Option (List ℕ)) (pending sent left : List ℕ) → pending ≡ sent ++ left → Takes a sent b
    → Keeps (append_known a pending) (append_known b left)
kept None b pending sent left whole took start known = absurd (cc)
kept (Some c) b pending sent left whole took start known =
    let taken : b ≡ Some (c ++ sent) = took c refl in
    rw taken (ap Some (append_assoc c sent left ∙ ap (λ x. c ++ x) (sym whole)) ∙ known)

-- what stays as it was takes no more
taking_nothing : (a b : Option (List ℕ)) → Keeps a b → Takes a [] b
taking_nothing a b keeps start known = keeps start known ∙ ap Some (sym (append-nil start))

-- what was taken, with what is pending, stays as it was
pub Keeps-moved : (before : OutState) (pending : List ℕ) (after : OutState) (left : List ℕ) → MovesFront before pending after left
    → Keeps (append_known before.taken pending) (append_known after.taken left)
Keeps-moved before pending after left moved = kept before.taken after.taken pending moved.sent left moved.whole moved.took

-- the first so many bytes moved
pub MovesFront-take : (before : OutState) (pending : List ℕ) (after : OutState) (left : List ℕ) (n : ℕ)
    → Takes before.taken (take n pending) after.taken → left ≡ drop n pending → MovesFront before pending after left
MovesFront-take before pending after left n took same = record {
  sent = take n pending;
  whole = rw same (sym (take-append-drop n pending));
  took = took;
}

-- a call that moves bytes to the inner output puts no text of its own
pub PutsAll-moved : (before after : BlockState) → MovesFront before.inner before.pending after.inner after.pending
    → after.inner.failures ≡ before.inner.failures → PutsAll (output_state before) [] (output_state after)
PutsAll-moved before after moved steady = record {
  took = taking_nothing _ _ (Keeps-moved before.inner before.pending after.inner after.pending moved);
  steady = steady;
}

-- and where the inner output refuses, so does the call
pub PutsPrefix-moved : (before after : BlockState) → MovesFront before.inner before.pending after.inner after.pending
    → after.inner.failures ≡ refused_once before.inner.failures → PutsPrefix (output_state before) [] (output_state after)
PutsPrefix-moved before after moved once = record {
  took = record {
    sent = [];
    rest = [];
    whole = refl;
    took = taking_nothing _ _ (Keeps-moved before.inner before.pending after.inner after.pending moved);
  };
  refused = rw once (HasRefused-once before.inner.failures);
}
