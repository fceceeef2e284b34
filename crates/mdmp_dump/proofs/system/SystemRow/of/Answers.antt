-- The fields of the system, and what it points at.
-- Made by bindings/generate from bindings/kinds.toml.
use Rattle.std.proofs.Common.{ℕ, ◌≡◌, List, refl, subst}
use Rattle.mdmp_wire.specs.System.{system_at}
use Rattle.mdmp_wire.specs.declared.system.SystemRecord.{SystemRecord}
use Rattle.mdmp_dump.specs.Name.{IsName}
use Rattle.mdmp_dump.specs.declared.system.System.{System}
use Rattle.mdmp_dump.specs.System.{IsSystem, system_record}
use Rattle.mdmp_dump.proofs.system.SystemRow.of.Goals as goal

system_of : {Z : Type 0} (F : List ℕ) (o : ℕ) (x : System Z) (r : SystemRecord) → r ≡ system_at F o → r ≡ system_record x r.csd_version_rva
    → IsName F r.csd_version_rva x.name → IsSystem F o x
system_of F o x r same is name = record {
  fields = subst (λ (s : SystemRecord). s ≡ system_record x s.csd_version_rva) same is;
  name = subst (λ (s : SystemRecord). IsName F s.csd_version_rva x.name) same name;
}

pub returns : goal.returns
returns g c = λ file at k o found.
    let read = rw c.in-System.is at found in
    let same : c.in-System.system ≡ system_at file o = let is = read.is.fields in cc is in
    let taken : c.take.result ≡ c.args.parts.now.name = cc in
    system_of file o _ c.in-System.system same refl (rw taken read.name)
