-- Slots that are put behind an index.
use Rattle.std.proofs.Common.{◌≡◌, ◌≤◌, ◌<◌, ◌+◌, ◌∷◌, ◌++◌, [], ◌∙◌, ℕ, List, sym, ap, arith, length, inl, inr, subst}
use Rattle.std.proofs.lemmas.Bool.{cases_lt}
use Rattle.std.proofs.lemmas.List.{get_or_push, get_or_append_left, length_push}
use Rattle.mdmp_map.specs.declared.range.Range.{Range}
use Rattle.mdmp_index.specs.declared.slot.IndexSlot.{IndexSlot}
use Rattle.mdmp_index.specs.Cells.{ArePlaced, StartsRise, edge_at}
use Rattle.mdmp_index.specs.Index.{IsHeldByNone, IsIndexTo, IsSlotOf}
use Rattle.mdmp_index.specs.Slots.{covers, no_slot, index_slot, slot_end}
use Rattle.mdmp_index.proofs.Holding.{covered, none_before}

further : (ranges : List Range) (edge far : ℕ) (s : IndexSlot) → edge ≤ far → IsSlotOf ranges edge s → IsSlotOf ranges far s
further ranges edge far s le is = record { some = is.some; below = omega (arith, is.below, le); first = is.first; offset = is.offset }

-- no range holds the addresses from an edge on, up to another
pub index_passed : (ranges : List Range) (edge far : ℕ) (slots : List IndexSlot) → edge ≤ far → ((address : ℕ) → edge ≤ address → address < far → IsHeldByNone ranges address)
    → IsIndexTo ranges edge slots → IsIndexTo ranges far slots
index_passed ranges edge far slots le none is = record {
  apart = is.apart;
  each = λ k lt. further ranges edge far (index_slot slots k) le (is.each k lt);
  none = λ address before in_none. elim (cases_lt address edge) [
    | inl lt ↦ is.none address lt in_none
    | inr ge ↦ none address ge before
  ];
}

in_front : (slots : List IndexSlot) (s : IndexSlot) (k : ℕ) → k < length slots → index_slot (slots ++ s ∷ []) k ≡ index_slot slots k
in_front slots s k lt = get_or_append_left slots (s ∷ []) no_slot k lt

at_end : (slots : List IndexSlot) (s : IndexSlot) (k : ℕ) → length slots ≡ k → index_slot (slots ++ s ∷ []) k ≡ s
at_end slots s k is = get_or_push slots s no_slot k is

-- a slot has the addresses from an edge on, up to another
pub index_pushed : (ranges : List Range) (edge far : ℕ) (slots : List IndexSlot) (s : IndexSlot) → s.start ≡ edge → slot_end s ≡ far → IsSlotOf ranges far s
    → IsIndexTo ranges edge slots → IsIndexTo ranges far (slots ++ s ∷ [])
index_pushed ranges edge far slots s start end of is =
    let count : length (slots ++ s ∷ []) ≡ length slots + 1 = length_push slots s in
    record {
      apart = λ k n lt within.
          let first : index_slot (slots ++ s ∷ []) k ≡ index_slot slots k = in_front slots s k (omega (arith, lt, within, count)) in
          elim (cases_lt n (length slots)) [
            | inl here ↦
                let second : index_slot (slots ++ s ∷ []) n ≡ index_slot slots n = in_front slots s n here in
                rw (first, second) (is.apart k n lt here)
            | inr past ↦
                let last : index_slot (slots ++ s ∷ []) n ≡ s = at_end slots s n (omega (arith, past, within, count)) in
                rw (first, last) (omega (arith, (is.each k (omega (arith, lt, within, count))).below, start))
          ];
      each = λ k within. elim (cases_lt k (length slots)) [
        | inl here ↦ subst (λ (x : IndexSlot). IsSlotOf ranges far x) (sym (in_front slots s k here)) (further ranges edge far (index_slot slots k) (omega (arith, of.some, start, end)) (is.each k here))
        | inr past ↦ subst (λ (x : IndexSlot). IsSlotOf ranges far x) (sym (at_end slots s k (omega (arith, past, within, count)))) of
      ];
      none = λ address before in_none. elim (cases_lt address edge) [
        | inl lt ↦ is.none address lt (λ k within. sym (ap (covers address) (in_front slots s k within)) ∙ in_none k (omega (arith, within, count)))
        | inr ge ↦
            let is_in = covered address s (omega (arith, ge, start)) (omega (arith, before, end)) in
            let not_in = sym (ap (covers address) (at_end slots s (length slots) (omega arith))) ∙ in_none (length slots) (omega (arith, count)) in
            absurd (cc (is_in, not_in))
      ];
    }

-- before the first cell there is none
pub no_index : (ranges : List Range) (cells : List IndexSlot) → ArePlaced ranges cells → StartsRise cells → IsIndexTo ranges (edge_at cells 0) []
no_index ranges cells placed rise = record {
  apart = λ k n lt within. absurd (omega (arith, within));
  each = λ k within. absurd (omega (arith, within));
  none = λ address before in_none. none_before ranges cells address placed rise before;
}
