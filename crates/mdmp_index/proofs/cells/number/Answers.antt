use Rattle.std.proofs.Common.{◌≡◌, ◌∙◌, ℕ, ap, arith, inl, inr, sym}
use Rattle.std.proofs.lemmas.Bool.{cases_lt}
use Rattle.mdmp_index.specs.Cells.{cell_of, owner_at}
use Rattle.mdmp_index.proofs.Cutting.{placed_more}
use Rattle.mdmp_index.proofs.cells.number.Goals as goal

pub loop-number-preserved : goal.loop-number-preserved
loop-number-preserved c =
    let before = c.loop-number.invariant in
    let number : ℕ = c.loop-number.number in
    let own : owner_at c.loop-number.cells number ≡ owner_at c.args.cells.now number = before.owners number in
    record {
      own = λ k lt. elim (cases_lt k number) [
        | inl below ↦ c.place.ensures.other_cells k (λ same. omega (arith, same, below)) ∙ before.own k below
        | inr ge ↦
            let same : k ≡ number = omega (arith, ge, lt) in
            rw same c.place.ensures.own
      ];
      starts = λ k. c.place.ensures.starts k ∙ before.starts k;
      owners = λ k. c.place.ensures.owners k ∙ before.owners k;
      placed = λ cuts is.
          placed_more cuts c.args.cells.now c.loop-number.cells c.place.new.cells number (omega (arith, c.loop-number-test.true, c.place.auto.cells)) is
          (omega (arith, c.place.auto.cells, c.loop-number.auto.cells)) (λ k. c.place.ensures.starts k ∙ before.starts k) before.starts c.loop-number.auto.cells
          (ap (cell_of c.place.new.cells) (sym own) ∙ c.place.ensures.cut)
          (λ k other. c.place.ensures.other_cuts k (λ same. other (same ∙ own)))
          (before.placed cuts is);
    }

pub returns-clause-placed : goal.returns-clause-placed
returns-clause-placed c = λ cuts is k lt. c.loop-number.invariant.placed cuts is k (omega (arith, lt))
