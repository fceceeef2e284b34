-- A location names one part.
use Rattle.std.proofs.Common.{◌≡◌, ℕ, List, Some, sym, ◌∙◌}
use Rattle.mdmp_source.specs.declared.location.Location.{Location}
use Rattle.mdmp_dump.specs.declared.part.Part.{Part}
use Rattle.mdmp_dump.specs.Part.{IsPart}

pub part_unique : {Z : Type 0} (F : List ℕ) (l : Location) (p q : Part Z) → IsPart F l p → IsPart F l q → p ≡ q
part_unique F l p q a b = let e : Some p ≡ Some q = sym a ∙ b in cc e
