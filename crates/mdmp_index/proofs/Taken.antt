-- A range that takes cells.
use Rattle.std.proofs.Common.{◌≡◌, ◌≤◌, ◌<◌, ◌+◌, ◌*◌, ◌∙◌, ℕ, List, true, false, sym, ap, arith, length, inl, inr, subst}
use Rattle.std.proofs.lemmas.Bool.{cases_lt, cases_Bool}
use Rattle.mdmp_map.specs.declared.range.Range.{Range}
use Rattle.mdmp_map.specs.Ranges.{address_end, holds, range_end}
use Rattle.mdmp_index.specs.declared.slot.IndexSlot.{IndexSlot}
use Rattle.mdmp_index.specs.Cells.{ArePlaced, AreTaken, HasAddress, IsCellOfCut, KeepsCells, StartsRise, TakesCells, cell_of, edge_at, is_taken, start_at}
use Rattle.mdmp_index.specs.Index.{IsFirstToHold}
use Rattle.mdmp_index.specs.Slots.{range_at}
use Rattle.mdmp_index.proofs.Holding.{begins_behind, edge_before, ends_before, held}

-- the cells between which a range's addresses are
pub record IsBetween (ranges : List Range) (cells : List IndexSlot) (n low high : ℕ) : Type 0 where
  pub first : low ≡ cell_of cells (2 * n)
  pub end : range_end (range_at ranges n) < address_end → high ≡ cell_of cells (2 * n + 1)
  pub all : address_end ≤ range_end (range_at ranges n) → high ≡ length cells

between_holds : (ranges : List Range) (cells : List IndexSlot) (n low high k : ℕ) → ArePlaced ranges cells → StartsRise cells → n < length ranges → IsBetween ranges cells n low high
    → k < length cells → HasAddress cells k → low ≤ k → k < high → holds (start_at cells k) (range_at ranges n) ≡ true
between_holds ranges cells n low high k placed rise in_n is within some from to =
    let start = placed.starts n in_n in
    held (start_at cells k) (range_at ranges n) some.1 (omega (arith, start.start, rise (cell_of cells (2 * n)) k (omega (arith, is.first, from)) within))
    (elim (cases_lt (range_end (range_at ranges n)) address_end) [
      | inl lt ↦
          let end = placed.ends n in_n lt in
          omega (arith, end.start, some.0, edge_before cells k (cell_of cells (2 * n + 1)) rise (omega (arith, is.end lt, to)) end.within)
      | inr le ↦ omega (arith, le, some.1)
    ])

below_holds_not : (ranges : List Range) (cells : List IndexSlot) (n low high k : ℕ) → ArePlaced ranges cells → StartsRise cells → n < length ranges → IsBetween ranges cells n low high
    → k < length cells → HasAddress cells k → k < low → holds (start_at cells k) (range_at ranges n) ≡ false
below_holds_not ranges cells n low high k placed rise in_n is within some before =
    let start = placed.starts n in_n in
    begins_behind (start_at cells k) (range_at ranges n)
    (omega (arith, start.start, some.0, edge_before cells k (cell_of cells (2 * n)) rise (omega (arith, is.first, before)) start.within))

behind_holds_not : (ranges : List Range) (cells : List IndexSlot) (n low high k : ℕ) → ArePlaced ranges cells → StartsRise cells → n < length ranges → IsBetween ranges cells n low high
    → k < length cells → HasAddress cells k → high ≤ k → holds (start_at cells k) (range_at ranges n) ≡ false
behind_holds_not ranges cells n low high k placed rise in_n is within some past =
    ends_before (start_at cells k) (range_at ranges n)
    (elim (cases_lt (range_end (range_at ranges n)) address_end) [
      | inl lt ↦
          let end = placed.ends n in_n lt in
          omega (arith, end.start, rise (cell_of cells (2 * n + 1)) k (omega (arith, is.end lt, past)) within)
      | inr le ↦ absurd (omega (arith, is.all le, past, within))
    ])

-- where cells begin stays placed
pub placed_kept : (ranges : List Range) (old new : List IndexSlot) → length new ≡ length old → KeepsCells old new → ArePlaced ranges old → ArePlaced ranges new
placed_kept ranges old new count keeps is =
    let moved : (cut address : ℕ) → IsCellOfCut old cut address → IsCellOfCut new cut address =
    λ cut address at. record {
      within = omega (arith, keeps.cells cut, at.within, count);
      start = ap (start_at new) (keeps.cells cut) ∙ keeps.starts (cell_of old cut) ∙ at.start;
    } in
    record {
      starts = λ n lt. moved (2 * n) (range_at ranges n).start (is.starts n lt);
      ends = λ n lt below. moved (2 * n + 1) (range_end (range_at ranges n)) (is.ends n lt below);
    }

-- an edge stays with the starts
same_edge : (old new : List IndexSlot) (k : ℕ) → length new ≡ length old → ((k : ℕ) → start_at new k ≡ start_at old k) → edge_at new k ≡ edge_at old k
same_edge old new k count same = cc (count, same k)

had_address : (old new : List IndexSlot) (k : ℕ) → length new ≡ length old → ((k : ℕ) → start_at new k ≡ start_at old k) → HasAddress new k → HasAddress old k
had_address old new k count same some = (omega (arith, some.0, same k, same_edge old new (k + 1) count same), omega (arith, some.1, same k))

-- the cells that a range takes are those that it holds
pub taken_more : (ranges : List Range) (old new : List IndexSlot) (n low high : ℕ) → ArePlaced ranges old → StartsRise old → n < length ranges → IsBetween ranges old n low high
    → length new ≡ length old → KeepsCells old new → TakesCells low high n old new → AreTaken ranges n old → AreTaken ranges (n + 1) new
taken_more ranges old new n low high placed rise in_n is count keeps takes before =
    let first_at = λ (k m : ℕ) (f : IsFirstToHold ranges (start_at old k) m). subst (λ (a : ℕ). IsFirstToHold ranges a m) (sym (keeps.starts k)) f in
    record {
      taken = λ k within some now.
          let had = had_address old new k count keeps.starts some in
          let inside : k < length old = omega (arith, within, count) in
          elim (cases_Bool (is_taken old k)) [
            | inl was ↦ rw (keeps.starts k, takes.before k was) (before.taken k inside had was)
            | inr free ↦
                elim (cases_lt k low) [
                  | inl lt ↦ absurd (cc (takes.below k lt, free, now))
                  | inr from ↦
                      elim (cases_lt k high) [
                        | inr past ↦ absurd (cc (takes.behind k past, free, now))
                        | inl to ↦
                            rw (keeps.starts k, takes.newly k from to free) (record {
                              within = in_n;
                              held = between_holds ranges old n low high k placed rise in_n is inside had from to;
                              first = λ m lt. before.free k m inside had free lt;
                            })
                      ]
                ]
          ];
      free = λ k m within some free lt.
          let had = had_address old new k count keeps.starts some in
          let inside : k < length old = omega (arith, within, count) in
          rw (keeps.starts k) (elim (cases_lt k low) [
            | inl below ↦
                elim (cases_lt m n) [
                  | inl earlier ↦ before.free k m inside had (sym (takes.below k below) ∙ free) earlier
                  | inr last ↦
                      let same : m ≡ n = omega (arith, last, lt) in
                      rw same (below_holds_not ranges old n low high k placed rise in_n is inside had below)
                ]
            | inr from ↦
                elim (cases_lt k high) [
                  | inl to ↦ absurd (cc (takes.taken k from to, free))
                  | inr past ↦
                      elim (cases_lt m n) [
                        | inl earlier ↦ before.free k m inside had (sym (takes.behind k past) ∙ free) earlier
                        | inr last ↦
                            let same : m ≡ n = omega (arith, last, lt) in
                            rw same (behind_holds_not ranges old n low high k placed rise in_n is inside had past)
                      ]
                ]
          ]);
    }
