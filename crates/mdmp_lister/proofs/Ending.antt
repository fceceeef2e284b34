-- A walk at its end.
use Rattle.std.proofs.Common.{◌≡◌, ◌≤◌, ◌-◌, ◌∙◌, ℕ, List, length, arith, ap}
use Rattle.mdmp_lister.specs.declared.stage.Stage.TheVariants.{Ended}
use Rattle.mdmp_lister.specs.declared.walk.Walk.{Walk}
use Rattle.mdmp_lister.specs.declared.stage.Stage.{Stage}
use Rattle.mdmp_lister.specs.Format.Directory.{IsDirectory}
use Rattle.mdmp_lister.specs.Format.Listing.{Run, joined, nothing, only_fault, listing_from}
use Rattle.mdmp_lister.specs.Stage.{fault_stage}
use Rattle.mdmp_lister.specs.declared.fault.ListFault.{ListFault}
use Rattle.mdmp_lister.specs.Walk.{left_of, left_of_entry}
use Rattle.mdmp_lister.proofs.Bodies.{fault_stage-left}
use Rattle.mdmp_lister.proofs.Entries.{listing_from-end}

module _ {S A : Type 0} (w : Walk S A) (file : List ℕ) where
  pub left_of-ended : w.stage ≡ Ended → length w.entries.items ≤ w.next → IsDirectory file w.entries.items → left_of w file ≡ nothing
  left_of-ended end over directory =
      ap (λ (s : Stage). joined (left_of_entry file w.name.limit (w.next - 1) w.current s) (listing_from file w.choice w.name.limit w.next)) end
      ∙ listing_from-end file w.choice w.name.limit w.next (omega (arith, over, directory.count))

  pub left_of-fault : (f : ListFault) → w.stage ≡ fault_stage f → left_of w file ≡ only_fault f
  left_of-fault f at =
      ap (λ (s : Stage). joined (left_of_entry file w.name.limit (w.next - 1) w.current s) (listing_from file w.choice w.name.limit w.next)) at
      ∙ ap (λ (run : Run). joined run (listing_from file w.choice w.name.limit w.next)) (fault_stage-left file w.name.limit (w.next - 1) w.current f)
