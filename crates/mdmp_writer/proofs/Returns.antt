-- Why what was written is not read back.
use Rattle.std.proofs.Common.{◌≡◌, ◌∙◌, ℕ, refl, sym, None, Some, Err}
use Rattle.std.proofs.lemmas.Option.{none-some}
use Rattle.mdmp_lister.specs.declared.choice.Choice.TheVariants.{All}
use Rattle.mdmp_lister.specs.declared.fault.FaultKind.{FaultKind}
use Rattle.mdmp_lister.specs.declared.fault.FaultKind.TheVariants as kinds
use Rattle.mdmp_lister.specs.declared.fault.OpenFault.{OpenFault}
use Rattle.mdmp_lister.specs.declared.fault.OpenFault.TheVariants as opening
use Rattle.mdmp_lister.specs.declared.limits.Limits.{Limits}
use Rattle.mdmp_lister.specs.Fault.{IsUnobtained}
use Rattle.mdmp_dump.specs.declared.dump.Dump.{Dump}
use Rattle.mdmp_dump.specs.declared.fault.ReadFault.{ReadFault}
use Rattle.mdmp_dump.specs.declared.fault.ReadFault.TheVariants as reads
use Rattle.mdmp_dump.specs.FileRefusal.{IsUnbudgeted}
use Rattle.mdmp_dump.specs.Reading.{IsWanting, IsWithoutBudget, store_fault, store_fault_in}
use Rattle.mdmp_dump.specs.Refusal.{read_refusal}
use Rattle.mdmp_dump.specs.Within.{IsWithinLimits}
use Rattle.mdmp_writer.specs.declared.round_trip.RoundTripFault.TheVariants as backs
use Rattle.mdmp_writer.specs.Layout.{layout_fault}
use Rattle.mdmp_writer.specs.RoundTrip.{ComesBack, not_read}
use Rattle.mdmp_writer.specs.Written.{written}

-- a fault that is none of the store's, nor of a budget, has come of the file
listed_not : (kind : FaultKind) → store_fault_in kind ≡ None → IsUnbudgeted kind → IsUnobtained kind → ⊥
listed_not (kinds.Source fault) none unbudgeted own = cc none
listed_not kinds.Budget none unbudgeted own = unbudgeted
listed_not kind none unbudgeted own = own

opened_not : (fault : OpenFault) → (not_read (reads.Opening fault) ≡ backs.Memory → ⊥) → store_fault (reads.Opening fault) ≡ None → IsWithoutBudget (reads.Opening fault) → IsWanting (reads.Opening fault) → ⊥
opened_not (opening.Source fault) other none unbudgeted own = cc none
opened_not (opening.Budget offset size) other none unbudgeted own = unbudgeted
opened_not (opening.MemoryLimit held) other none unbudgeted own = other refl
opened_not fault other none unbudgeted own = own

not_wanting : (fault : ReadFault) → (not_read fault ≡ backs.Memory → ⊥) → store_fault fault ≡ None → IsWithoutBudget fault → IsWanting fault → ⊥
not_wanting reads.Memory other none unbudgeted own = other refl
not_wanting (reads.Source fault) other none unbudgeted own = cc none
not_wanting (reads.List fault) other none unbudgeted own = listed_not fault.kind none unbudgeted own
not_wanting (reads.Opening fault) other none unbudgeted own = opened_not fault other none unbudgeted own
not_wanting fault other none unbudgeted own = own

module _ {Z : Type 0} (d : Dump Z) (limits : Limits) (parts : ℕ) (writable : layout_fault d ≡ None) (reads_within : IsWithinLimits limits.name parts d → read_refusal (written d) All limits.name parts ≡ None) where
  refused : (fault : ReadFault) → (not_read fault ≡ backs.Memory → ⊥) → ((IsWanting fault → ⊥) → read_refusal (written d) All limits.name parts ≡ Some fault) → store_fault fault ≡ None
      → (limits.budget ≡ None → IsWithoutBudget fault) → ComesBack d limits parts (Err (backs.Read fault))
  refused fault other settles none without = (
    writable,
    (
      without,
      λ unbudgeted.
          let is = settles (not_wanting fault other none unbudgeted) in
          (is, λ within. none-some fault (sym (reads_within within) ∙ is)),
    ),
  )

  pub not_back : (fault : ReadFault) → ((IsWanting fault → ⊥) → read_refusal (written d) All limits.name parts ≡ Some fault) → store_fault fault ≡ None
      → (limits.budget ≡ None → IsWithoutBudget fault) → ComesBack d limits parts (Err (not_read fault))
  not_back reads.Memory = λ settles none without. writable
  not_back (reads.Opening (opening.MemoryLimit held)) = λ settles none without. writable
  not_back (reads.Opening fault) = refused (reads.Opening fault) (λ same. cc same)
  not_back (reads.List fault) = refused (reads.List fault) (λ same. cc same)
  not_back (reads.PartOutside e k part offset size) = refused (reads.PartOutside e k part offset size) (λ same. cc same)
  not_back (reads.NameTooLong e k size) = refused (reads.NameTooLong e k size) (λ same. cc same)
  not_back (reads.PartsTooLarge e k) = refused (reads.PartsTooLarge e k) (λ same. cc same)
  not_back (reads.Source fault) = refused (reads.Source fault) (λ same. cc same)
