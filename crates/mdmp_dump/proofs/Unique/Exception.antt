-- One exception stands at a place.
-- Made by bindings/generate from bindings/kinds.toml.
use Rattle.std.proofs.Common.{ℕ, List, sym, ◌∙◌}
use Rattle.mdmp_wire.specs.Exception.{exception_at}
use Rattle.mdmp_dump.specs.Exception.{IsException}
use Rattle.mdmp_dump.proofs.Unique.Part.{part_unique}
use Rattle.mdmp_dump.proofs.Unique.Records.{IsUnique}

pub exception_unique : {Z : Type 0} (F : List ℕ) → IsUnique (λ k o. IsException {Z = Z} F o)
exception_unique F k o x y p q =
    let fields = sym p.fields ∙ q.fields in
    let context = part_unique F (exception_at F o).thread_context x.context y.context p.context q.context in
    λ i. record {
      thread_id = (fields i).thread_id;
      exception_code = (fields i).exception_code;
      exception_flags = (fields i).exception_flags;
      exception_record = (fields i).exception_record;
      exception_address = (fields i).exception_address;
      number_parameters = (fields i).number_parameters;
      exception_information = (fields i).exception_information;
      context = context i;
    }
