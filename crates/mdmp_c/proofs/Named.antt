-- A name as text.
use Rattle.std.proofs.Common.{◌≡◌, ◌∙◌, ℕ, List, ap}
use Rattle.std.specs.Prelude.{Result}
use Rattle.mdmp_lister.specs.declared.fault.Fault.{Fault}
use Rattle.mdmp_lister.specs.declared.name.Name.{Name}
use Rattle.mdmp_lister.specs.Format.Name.{name_at}
use Rattle.mdmp_c.specs.declared.fault.PlainFault.{PlainFault}
use Rattle.mdmp_c.specs.Giving.{Ends, GivesList, answers, bad_limits}
use Rattle.mdmp_c.specs.Names.{IsToldName, name_in_utf8, name_fault_told}

-- a name that was read of a file, wherever its units stand
pub Ends-name : (F : List ℕ) (rva limit : ℕ) (name : Result Name Fault) (read : Result Name Fault) (told : PlainFault) (text : List ℕ) (status size : ℕ) (fault : PlainFault)
    (before after : List ℕ) → read ≡ name_at F rva limit → name ≡ read → told ≡ name_fault_told name → text ≡ name_in_utf8 name
    → GivesList told text status size fault before after → Ends (IsToldName F rva limit) (Unit {0}) (Unit {0}) (λ _. ⊥) bad_limits status size fault before after
Ends-name F rva limit name read told text status size fault before after is same told_is text_is gives =
    answers told text tt tt record { told_is = told_is ∙ ap name_fault_told (same ∙ is); text_is = text_is ∙ ap name_in_utf8 (same ∙ is) } gives
