use Rattle.std.proofs.Common.{◌≡◌, ◌≢◌, ◌≤◌, ◌<◌, ◌+◌, ◌∙◌, ℕ, ap, arith, false, true, length, refl, rules, subst, sym, take}
use Rattle.std.proofs.lemmas.List.{take_more_set, get_or-set_other}
use Rattle.mdmp_map.specs.Ranges.{address_end}
use Rattle.mdmp_index.specs.declared.slot.IndexSlot.{IndexSlot}
use Rattle.mdmp_index.specs.Cells.{edge_at, is_taken, start_at}
use Rattle.mdmp_index.specs.Index.{IsHeldByNone, IsSlotOf}
use Rattle.mdmp_index.specs.Slots.{no_slot, index_slot, slot_end}
use Rattle.mdmp_index.proofs.Holding.{edge_rises, edge_within, first_of_cell, none_in_cell, same_edge_at}
use Rattle.mdmp_index.proofs.Indexing.{index_passed, index_pushed, no_index}
use Rattle.mdmp_index.proofs.building.keep.Goals as goal
use Rattle.mdmp_index.proofs.building.keep.Goals.{then-cell-number+then-start-end, else-cell-number, else-cell-number-via-then-cell-number+else-start-end, else-cell-number-via-else-cell-number}

pub loop-number-init : goal.loop-number-init
loop-number-init g c = record {
  kept = omega arith;
  same = λ k le. refl;
  index = no_index (g.R.Ranges.ranges c.args.ranges.now) c.args.cells.now c.requires.placed c.requires.rise;
}

pub slot_of-requires-clause-first : goal.slot_of-requires-clause-first
slot_of-requires-clause-first g c =
    let ranges = g.R.Ranges.ranges c.args.ranges.now in
    let cells = c.args.cells.now in
    let number : ℕ = c.loop-number.number in
    let within : number < length cells = omega (arith, c.loop-number-test.true) in
    let same : index_slot c.loop-number.cells number ≡ index_slot cells number = c.loop-number.invariant.same number (omega arith) in
    let start : c.edge-start.result ≡ start_at cells number =
    c.edge-start.ensures.edge ∙ same_edge_at cells c.loop-number.cells number c.loop-number.auto.cells same ∙ edge_within cells number within in
    let end : c.edge-end.result ≡ edge_at cells (number + 1) =
    c.edge-end.ensures.edge ∙ same_edge_at cells c.loop-number.cells (number + 1) c.loop-number.auto.cells (c.loop-number.invariant.same (number + 1) (omega arith)) in
    let some : start_at cells number < edge_at cells (number + 1) = omega (arith, start, end, c.if-start-end.true) in
    let below : start_at cells number < address_end = omega (arith, some, end, c.edge-end.ensures.below) in
    let is : is_taken cells number ≡ true = search rules in
    rw same (λ address from before.
    first_of_cell ranges cells number address (index_slot cells number).owner c.requires.placed c.requires.rise within from (omega (arith, before, end))
    (omega (arith, before, c.edge-end.ensures.below)) (c.requires.taken.taken number within (some, below) is))

pub loop-number-preserved : goal.loop-number-preserved
loop-number-preserved g c =
    let ranges = g.R.Ranges.ranges c.args.ranges.now in
    let cells = c.args.cells.now in
    let before = c.loop-number.invariant in
    let number : ℕ = c.loop-number.number in
    let within : number < length cells = omega (arith, c.loop-number-test.true) in
    let same : index_slot c.loop-number.cells number ≡ index_slot cells number = before.same number (omega arith) in
    let start : c.edge-start.result ≡ edge_at cells number =
    c.edge-start.ensures.edge ∙ same_edge_at cells c.loop-number.cells number c.loop-number.auto.cells same in
    let end : c.edge-end.result ≡ edge_at cells (number + 1) =
    c.edge-end.ensures.edge ∙ same_edge_at cells c.loop-number.cells (number + 1) c.loop-number.auto.cells (before.same (number + 1) (omega arith)) in
    let begins : edge_at cells number ≡ start_at cells number = edge_within cells number within in
    elim c.if-cell-number.branch [
      | then-cell-number+then-start-end w ↦
          let s : IndexSlot = w.slot_of.result in
          let room : c.loop-number.kept < length c.loop-number.cells = omega (arith, before.kept, c.loop-number-test.true) in
          let starts : s.start ≡ edge_at cells number = w.slot_of.ensures.start ∙ ap (λ (x : IndexSlot). x.start) same ∙ sym begins in
          let ends : slot_end s ≡ edge_at cells (number + 1) = w.slot_of.ensures.length ∙ end in
          let of : IsSlotOf ranges (edge_at cells (number + 1)) s = subst (λ (edge : ℕ). IsSlotOf ranges edge s) end w.slot_of.ensures.slot in
          rw (w.cells-is, w.kept-is) (record {
            kept = omega (arith, before.kept);
            same = λ k le.
                let other : k ≢ c.loop-number.kept = omega (arith, le, before.kept) in
                get_or-set_other c.loop-number.cells c.loop-number.kept k s no_slot other ∙ before.same k (omega (arith, le));
            index = rw (take_more_set c.loop-number.cells c.loop-number.kept s room)
                (index_pushed ranges (edge_at cells number) (edge_at cells (number + 1)) (take c.loop-number.kept c.loop-number.cells) s starts ends of before.index);
          })
      | else-cell-number w ↦
          let none : (address : ℕ) → edge_at cells number ≤ address → address < edge_at cells (number + 1) → IsHeldByNone ranges address =
          λ address from ahead.
          let some : start_at cells number < edge_at cells (number + 1) = omega (arith, begins, from, ahead) in
          let below : address < address_end = omega (arith, ahead, end, c.edge-end.ensures.below) in
          let is : is_taken cells number ≡ false =
          elim w.else-cell-number.branch [
            | else-cell-number-via-then-cell-number+else-start-end v ↦ absurd (omega (arith, v.if-start-end.false, start, end, from, ahead))
            | else-cell-number-via-else-cell-number v ↦ search rules
          ] in
          none_in_cell ranges cells number address c.requires.placed c.requires.rise within (omega (arith, begins, from)) ahead below
          (λ n in_n. c.requires.taken.free number n within (some, omega (arith, begins, from, below)) is in_n) in
          rw (w.cells-is, w.kept-is) (record {
            kept = omega (arith, before.kept);
            same = λ k le. before.same k (omega (arith, le));
            index = index_passed ranges (edge_at cells number) (edge_at cells (number + 1)) (take c.loop-number.kept c.loop-number.cells)
                (edge_rises cells number c.requires.rise within (omega (arith, start, c.edge-start.ensures.below))) none before.index;
          })
    ]
