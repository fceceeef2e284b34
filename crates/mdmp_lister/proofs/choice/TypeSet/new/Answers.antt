use Rattle.std.proofs.Common.{arith, inl, inr}
use Rattle.mdmp_lister.proofs.choice.TypeSet.new.Goals as goal

pub returns-then-count-lt1-clause-valid : goal.returns-then-count-lt1-clause-valid
returns-then-count-lt1-clause-valid c = (
  (λ some. absurd (cc)),
  (λ fits. elim c.then-count-lt1.either [ inl few ↦ absurd (omega arith) | inr many ↦ absurd (omega arith) ]),
)
