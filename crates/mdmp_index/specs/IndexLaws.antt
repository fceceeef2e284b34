-- What an index says of the ranges that it is made of.
use Rattle.std.proofs.Common.{◌≡◌, ◌∙◌, ◌∷◌, [], ℕ, zero, suc, List, Some, None, refl, arith}
use Rattle.mdmp_map.specs.declared.range.Range.{Range}
use Rattle.mdmp_map.specs.RangeLaws.{first_range-holds, first_range-passes}
use Rattle.mdmp_map.specs.Ranges.{first_range}
use Rattle.mdmp_index.specs.Index.{IsFirstToHold, IsHeldByNone}
use Rattle.mdmp_index.specs.Slots.{range_at}

-- the first range that holds an address is the one with the number of its slot's owner
pub first_range_is : (ranges : List Range) (address number : ℕ) → IsFirstToHold ranges address number → first_range ranges address ≡ Some (range_at ranges number)
first_range_is [] address number is = absurd (omega (arith, is.within))
first_range_is (r ∷ ranges) address zero is = first_range-holds address r ranges is.held
first_range_is (r ∷ ranges) address (suc number) is =
    first_range-passes address r ranges (is.first 0 (omega arith))
    ∙ first_range_is ranges address number (record {
      within = omega (arith, is.within);
      held = is.held;
      first = λ k lt. is.first (suc k) (omega (arith, lt));
    })

-- and if no range holds an address, there is no first one
pub no_first_range : (ranges : List Range) (address : ℕ) → IsHeldByNone ranges address → first_range ranges address ≡ None
no_first_range [] address none = refl
no_first_range (r ∷ ranges) address none =
    first_range-passes address r ranges (none 0 (omega arith)) ∙ no_first_range ranges address (λ k lt. none (suc k) (omega (arith, lt)))
