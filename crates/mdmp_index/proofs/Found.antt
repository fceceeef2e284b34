-- A search among slots that are apart.
use Rattle.std.proofs.Common.{◌≡◌, ◌≤◌, ◌<◌, ℕ, List, false, arith, length, inl, inr}
use Rattle.std.proofs.lemmas.Bool.{cases_lt}
use Rattle.std.proofs.lemmas.Bool.Decides.{nat_tests}
use Rattle.mdmp_index.specs.declared.slot.IndexSlot.{IndexSlot}
use Rattle.mdmp_index.specs.Index.{AreApart, IsInNoSlot}
use Rattle.mdmp_index.specs.Slots.{covers, index_slot, slot_end}

pub not_yet : (a : ℕ) (s : IndexSlot) → a < s.start → covers a s ≡ false
not_yet a s lt = grind (arith, nat_tests)

pub no_more : (a : ℕ) (s : IndexSlot) → slot_end s ≤ a → covers a s ≡ false
no_more a s le = grind (arith, nat_tests)

begins_behind : (a : ℕ) (s : IndexSlot) → covers a s ≡ false → a < slot_end s → a < s.start
begins_behind a s not to = grind (arith, nat_tests)

-- where the first that ends past the address does not hold it, none does
pub in_none : (slots : List IndexSlot) (address number : ℕ) → AreApart slots → ((k : ℕ) → k < number → slot_end (index_slot slots k) ≤ address)
    → (number < length slots → address < slot_end (index_slot slots number)) → (number < length slots → covers address (index_slot slots number) ≡ false) → IsInNoSlot slots address
in_none slots address number apart behind past not k within = elim (cases_lt k number) [
  | inl lt ↦ no_more address (index_slot slots k) (behind k lt)
  | inr ge ↦
      let first = begins_behind address (index_slot slots number) (not (omega (arith, ge, within))) (past (omega (arith, ge, within))) in
      elim (cases_lt number k) [
        | inl lt ↦ not_yet address (index_slot slots k) (omega (arith, first, apart number k lt within))
        | inr le ↦
            let same : k ≡ number = omega (arith, le, ge) in
            rw same (not (omega (arith, ge, within)))
      ]
]
