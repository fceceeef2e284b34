-- Runs whose items' steps are all taken.
use Rattle.std.proofs.Common.{◌≡◌, ◌+◌, ℕ, List, Option, None, refl}
use Rattle.std.specs.Prelude.{flat_map}
use Rattle.std.proofs.lemmas.Grind.{flat_map-append}
use Rattle.mdmp_lister.specs.declared.item.Item.{Item}
use Rattle.mdmp_lister.specs.declared.fault.ListFault.{ListFault}
use Rattle.mdmp_lister.specs.Format.Listing.{Run, joined, nothing, with_item}
use Rattle.mdmp_dump.specs.Refusal.{item_steps}
use Rattle.mdmp_dump.proofs.Within.Steps.{IsTaken, both_taken, none_taken}

-- there is no fault, and what the items of a file of z bytes ask is taken
pub record IsRunTaken (z : ℕ) (run : Run) (bytes : ℕ) : Type 0 where
  pub good : run.fault ≡ None
  pub steps : IsTaken (flat_map (item_steps z) run.items) bytes

module _ {z : ℕ} where
  pub nothing_taken : IsRunTaken z nothing 0
  nothing_taken = record { good = refl; steps = none_taken }

  pub item_taken : {item : Item} {run : Run} {m n : ℕ} → IsTaken (item_steps z item) m → IsRunTaken z run n → IsRunTaken z (with_item item run) (m + n)
  item_taken first rest = record { good = rest.good; steps = both_taken first rest.steps }

  joined_by : (items : List Item) (fault : Option ListFault) (next : Run) (m n : ℕ) → fault ≡ None → IsTaken (flat_map (item_steps z) items) m → IsRunTaken z next n
      → IsRunTaken z (joined (record { items = items; fault = fault }) next) (m + n)
  joined_by items fault next m n none first rest = rw none (record {
    good = rest.good;
    steps = rw flat_map-append (both_taken first rest.steps);
  })

  pub joined_taken : {first next : Run} {m n : ℕ} → IsRunTaken z first m → IsRunTaken z next n → IsRunTaken z (joined first next) (m + n)
  joined_taken {first = first} {next = next} {m = m} {n = n} a b = joined_by first.items first.fault next m n a.good a.steps b
