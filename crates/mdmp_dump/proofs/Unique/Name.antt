-- One name stands at an RVA.
use Rattle.std.proofs.Common.{◌≡◌, ℕ, List, Option, Some, sym, ◌∙◌}
use Rattle.std.specs.Prelude.{Ok}
use Rattle.mdmp_dump.specs.Name.{IsName}

pub name_unique : (F : List ℕ) (rva : ℕ) (p q : Option (List ℕ)) → IsName F rva p → IsName F rva q → p ≡ q
name_unique F rva p q a b = let e : Ok (Some p) ≡ Ok (Some q) = sym a ∙ b in cc e
