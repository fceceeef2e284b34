-- Cells that are sorted.
use Rattle.std.proofs.Common.{◌≡◌, ◌≢◌, ◌<◌, ◌+◌, ◌∙◌, ℕ, List, sym, ap, arith, length, inl, inr}
use Rattle.std.specs.List.Sorted.{IsPermutation}
use Rattle.std.proofs.lemmas.Bool.{cases_eq, cases_lt}
use Rattle.std.proofs.lemmas.List.{get_or_default}
use Rattle.std.proofs.lemmas.List.Elements.{All-from_get_or, All-get_or, Contains-get_or}
use Rattle.std.proofs.lemmas.List.Sorted.{All-permutation, Contains-permutation}
use Rattle.mdmp_index.specs.declared.slot.IndexSlot.{IndexSlot}
use Rattle.mdmp_index.specs.Cells.{IsCellOfCut, cell_of, owner_at, start_at}
use Rattle.mdmp_index.specs.Slots.{no_slot, index_slot}

-- a cell knows where it was among others
abbrev pub IsNumbered : List IndexSlot → IndexSlot → Type 0
IsNumbered cuts s = (s.owner < length cuts) × (s.start ≡ start_at cuts s.owner)

-- each still does once they are sorted
pub all_numbered : (cuts cells : List IndexSlot) → ((k : ℕ) → k < length cuts → owner_at cuts k ≡ k) → IsPermutation cuts cells
    → (k : ℕ) → k < length cells → IsNumbered cuts (index_slot cells k)
all_numbered cuts cells own sorted k within =
    All-get_or (IsNumbered cuts) cells k no_slot within (All-permutation (IsNumbered cuts) cuts cells sorted
    (All-from_get_or (IsNumbered cuts) cuts no_slot (λ i lt. (omega (arith, own i lt, lt), sym (ap (start_at cuts) (own i lt))))))

-- and each number is there
pub every_number : (cuts cells : List IndexSlot) → ((k : ℕ) → k < length cuts → owner_at cuts k ≡ k) → IsPermutation cuts cells
    → (n : ℕ) → n < length cuts → (k : ℕ) × (k < length cells) × (owner_at cells k ≡ n)
every_number cuts cells own sorted n within =
    let is = Contains-permutation cuts cells (index_slot cuts n) sorted (Contains-get_or cuts n no_slot within) in
    (is.0, is.1, ap (λ (s : IndexSlot). s.owner) (get_or_default cells is.0 no_slot (index_slot cuts n) is.1 ∙ is.2) ∙ own n within)

-- a cell that gets its cut
pub placed_more : (cuts old cells new : List IndexSlot) (number : ℕ) → number < length new
    → ((k : ℕ) → k < length old → start_at old k ≡ start_at cuts (owner_at old k)) → length new ≡ length old
    → ((k : ℕ) → start_at new k ≡ start_at old k) → ((k : ℕ) → start_at cells k ≡ start_at old k) → length cells ≡ length old
    → cell_of new (owner_at old number) ≡ number → ((k : ℕ) → k ≢ owner_at old number → cell_of new k ≡ cell_of cells k)
    → ((k : ℕ) → k < number → IsCellOfCut cells (owner_at old k) (start_at old k))
    → (k : ℕ) → k < number + 1 → IsCellOfCut new (owner_at old k) (start_at old k)
placed_more cuts old cells new number within is count starts before count_before own others placed k lt =
    elim (cases_eq (owner_at old k) (owner_at old number)) [
      | inl same ↦
          let at : cell_of new (owner_at old k) ≡ number = ap (cell_of new) same ∙ own in
          record {
            within = omega (arith, at, within);
            start = ap (start_at new) at ∙ starts number ∙ is number (omega (arith, within, count)) ∙ ap (start_at cuts) (sym same) ∙ sym (is k (omega (arith, lt, within, count)));
          }
      | inr other ↦
          let below : k < number = elim (cases_lt k number) [ inl lt ↦ lt | inr ge ↦ absurd (other (ap (owner_at old) (omega (arith, ge, lt)))) ] in
          let at = placed k below in
          let same : cell_of new (owner_at old k) ≡ cell_of cells (owner_at old k) = others (owner_at old k) other in
          record {
            within = omega (arith, same, at.within, count, count_before);
            start = ap (start_at new) same ∙ starts (cell_of cells (owner_at old k)) ∙ sym (before (cell_of cells (owner_at old k))) ∙ at.start;
          }
    ]
