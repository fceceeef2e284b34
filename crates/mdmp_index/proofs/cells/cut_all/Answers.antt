use Rattle.std.proofs.Common.{◌≡◌, ◌<◌, ◌∙◌, ℕ, ap, arith, length, rules, subst}
use Rattle.std.specs.List.Sorted.{IsNonDecreasingBy}
use Rattle.std.proofs.lemmas.List.Sorted.{IsNonDecreasingBy-from_sort, answers_always}
use Rattle.mdmp_index.specs.declared.slot.IndexSlot.{IndexSlot}
use Rattle.mdmp_index.specs.Cells.{IsCellOfCut, owner_at, start_at}
use Rattle.mdmp_index.specs.Slots.{no_slot}
use Rattle.mdmp_index.proofs.Cutting.{all_numbered, every_number}
use Rattle.mdmp_index.proofs.cells.cut_all.Goals as goal

pub number-requires : goal.number-requires
number-requires g c = λ k within.
    let own : (k : ℕ) → k < length c.cut.new.cells → owner_at c.cut.new.cells k ≡ k = λ k lt. c.cut.ensures.numbers k (omega (arith, lt, c.cut.auto.cells, c.requires)) in
    omega (arith, (all_numbered c.cut.new.cells c.sort_unstable_by_key.new.self own c.sort_unstable_by_key.ensures.permutation k within).0, c.sort_unstable_by_key.ensures.len)

pub returns-clause-placed : goal.returns-clause-placed
returns-clause-placed g c =
    let cuts = c.cut.new.cells in
    let cells = c.sort_unstable_by_key.new.self in
    let own : (k : ℕ) → k < length cuts → owner_at cuts k ≡ k = λ k lt. c.cut.ensures.numbers k (omega (arith, lt, c.cut.auto.cells, c.requires)) in
    let is : (k : ℕ) → k < length cells → start_at cells k ≡ start_at cuts (owner_at cells k) =
    λ k lt. (all_numbered cuts cells own c.sort_unstable_by_key.ensures.permutation k lt).1 in
    let at : (cut address : ℕ) → cut < length cuts → start_at cuts cut ≡ address → IsCellOfCut c.number.new.cells cut address =
    λ cut address lt starts.
    let found = every_number cuts cells own c.sort_unstable_by_key.ensures.permutation cut lt in
    let placed : IsCellOfCut c.number.new.cells (owner_at cells found.0) (start_at cells found.0) = c.number.ensures.placed cuts is found.0 found.1 in
    let begins : start_at cells found.0 ≡ address = is found.0 found.1 ∙ ap (start_at cuts) found.2 ∙ starts in
    let moved : IsCellOfCut c.number.new.cells cut (start_at cells found.0) = subst (λ (n : ℕ). IsCellOfCut c.number.new.cells n (start_at cells found.0)) found.2 placed in
    subst (λ (a : ℕ). IsCellOfCut c.number.new.cells cut a) begins moved in
    record {
      starts = λ n lt. at _ _ (omega (arith, lt, c.cut.auto.cells, c.requires)) (c.cut.ensures.starts n lt);
      ends = λ n lt below. at _ _ (omega (arith, lt, c.cut.auto.cells, c.requires)) (c.cut.ensures.ends n lt below);
    }

pub returns-clause-rise : goal.returns-clause-rise
returns-clause-rise g c =
    let cells = c.sort_unstable_by_key.new.self in
    let rise : IsNonDecreasingBy (λ (s : IndexSlot). s.start) cells =
    IsNonDecreasingBy-from_sort (λ (s : IndexSlot). s.start) _ (c.sort_unstable_by_key.ensures.sorted (λ (s : IndexSlot). s.start) (answers_always _ _ _ (λ f a r g h. search rules))) in
    λ k n le within.
    omega (arith, c.number.ensures.starts k, c.number.ensures.starts n, rise k n no_slot le (omega (arith, within, c.number.auto.cells)))
