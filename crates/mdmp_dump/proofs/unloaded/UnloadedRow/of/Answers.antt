-- The fields of a module that was unloaded, and what it points at.
-- Made by bindings/generate from bindings/kinds.toml.
use Rattle.std.proofs.Common.{ℕ, ◌≡◌, List, refl, subst}
use Rattle.mdmp_wire.specs.Unloaded.{unloaded_at}
use Rattle.mdmp_wire.specs.declared.unloaded.UnloadedRecord.{UnloadedRecord}
use Rattle.mdmp_dump.specs.Name.{IsName}
use Rattle.mdmp_dump.specs.declared.unloaded.Unloaded.{Unloaded}
use Rattle.mdmp_dump.specs.Unloaded.{IsUnloaded, unloaded_record}
use Rattle.mdmp_dump.proofs.unloaded.UnloadedRow.of.Goals as goal

unloaded_of : {Z : Type 0} (F : List ℕ) (o : ℕ) (x : Unloaded Z) (r : UnloadedRecord) → r ≡ unloaded_at F o → r ≡ unloaded_record x r.module_name_rva
    → IsName F r.module_name_rva x.name → IsUnloaded F o x
unloaded_of F o x r same is name = record {
  fields = subst (λ (s : UnloadedRecord). s ≡ unloaded_record x s.module_name_rva) same is;
  name = subst (λ (s : UnloadedRecord). IsName F s.module_name_rva x.name) same name;
}

pub returns : goal.returns
returns g c = λ file at k o found.
    let read = rw c.in-Unloaded.is at found in
    let same : c.in-Unloaded.module ≡ unloaded_at file o = let is = read.is.fields in cc is in
    let taken : c.take.result ≡ c.args.parts.now.name = cc in
    unloaded_of file o _ c.in-Unloaded.module same refl (rw taken read.name)
