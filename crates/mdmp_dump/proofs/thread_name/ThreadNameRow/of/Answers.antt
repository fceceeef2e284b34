-- The fields of the name of a thread, and what it points at.
-- Made by bindings/generate from bindings/kinds.toml.
use Rattle.std.proofs.Common.{ℕ, ◌≡◌, List, refl, subst}
use Rattle.mdmp_wire.specs.ThreadName.{thread_name_at}
use Rattle.mdmp_wire.specs.declared.thread_name.ThreadNameRecord.{ThreadNameRecord}
use Rattle.mdmp_dump.specs.Name.{IsName}
use Rattle.mdmp_dump.specs.declared.thread_name.ThreadName.{ThreadName}
use Rattle.mdmp_dump.specs.ThreadName.{IsThreadName, thread_name_record}
use Rattle.mdmp_dump.proofs.thread_name.ThreadNameRow.of.Goals as goal

thread_name_of : {Z : Type 0} (F : List ℕ) (o : ℕ) (x : ThreadName Z) (r : ThreadNameRecord) → r ≡ thread_name_at F o → r ≡ thread_name_record x r.rva_of_thread_name
    → IsName F r.rva_of_thread_name x.name → IsThreadName F o x
thread_name_of F o x r same is name = record {
  fields = subst (λ (s : ThreadNameRecord). s ≡ thread_name_record x s.rva_of_thread_name) same is;
  name = subst (λ (s : ThreadNameRecord). IsName F s.rva_of_thread_name x.name) same name;
}

pub returns : goal.returns
returns g c = λ file at k o found.
    let read = rw c.in-ThreadName.is at found in
    let same : c.in-ThreadName.thread ≡ thread_name_at file o = let is = read.is.fields in cc is in
    let taken : c.take.result ≡ c.args.parts.now.name = cc in
    thread_name_of file o _ c.in-ThreadName.thread same refl (rw taken read.name)
