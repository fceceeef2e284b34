-- One name of a thread stands at a place.
-- Made by bindings/generate from bindings/kinds.toml.
use Rattle.std.proofs.Common.{ℕ, List, sym, ◌∙◌}
use Rattle.mdmp_wire.specs.ThreadName.{thread_name_at}
use Rattle.mdmp_dump.specs.ThreadName.{IsThreadName}
use Rattle.mdmp_dump.proofs.Unique.Name.{name_unique}
use Rattle.mdmp_dump.proofs.Unique.Records.{IsUnique}

pub thread_name_unique : {Z : Type 0} (F : List ℕ) → IsUnique (λ k o. IsThreadName {Z = Z} F o)
thread_name_unique F k o x y p q =
    let fields = sym p.fields ∙ q.fields in
    let name = name_unique F (thread_name_at F o).rva_of_thread_name x.name y.name p.name q.name in
    λ i. record {
      thread_id = (fields i).thread_id;
      name = name i;
    }
